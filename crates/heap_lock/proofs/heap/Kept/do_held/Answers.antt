use Rattle.std.proofs.Common.{◌≡◌, ◌+◌, List, [], ◌∷◌, ◌++◌, length, length-append, set, refl, sym, ap, ◌∙◌, subst, arith}
use Rattle.atomic_table.specs.Seated.{TableId}
use Rattle.atomic_table.specs.declared.badge.Badge.{Badge}
use Rattle.heap_history.specs.declared.entry.Entry.{Entry}
use Rattle.heap_history.specs.declared.receipt.Receipt.{Receipt}
use Rattle.heap_lock.specs.declared.table_side.TableSide.{TableSide}
use Rattle.heap_lock.specs.declared.table_side.TableSide.TheVariants.{UnderLock, WithSeat}
use Rattle.heap_lock.specs.SeatEntries.{entries_of, entries_in}
use Rattle.heap_history.specs.History.{entry, opening, entries_by}
use Rattle.heap_lock.specs.Calls.{call_of}
use Rattle.heap_lock.specs.LockStates.{LockState, lock_state, IsMoved, table_at, IsSeatTable, IsUnderLock}
use Rattle.heap_lock.specs.Ledgers.{all_in, CallsAs, HasLedger}
use Rattle.heap_lock.proofs.DumperCalls.{ledger_has_own_table, ledger_holds_call_of_act}
use Rattle.heap_lock.proofs.Histories.{due_entry_extends_legal_history, seat_entries_with_own_entry, seat_table_of, machine_place_within_entries, entry_with_reply_is_due, move_of_kept_machine_is_due, entry_kept_with_seat_table}
use Rattle.heap_lock.proofs.heap.Kept.do_held.Goals as goal

pub act-requires-clause-place : goal.act-requires-clause-place
act-requires-clause-place g c = machine_place_within_entries g.L.Heap.config g.L.Heap.tables c.self.inside.machine c.self.inside.chronicle.entries c.self.inside.seat_tables.items c.self.invariant.0

pub add_entry-requires-clause-seat_table : goal.add_entry-requires-clause-seat_table
add_entry-requires-clause-seat_table g c =
    let d = seat_table_of _ _ _ _ _ c.seat.inside.number c.index_mut-seat_table.result.now c.self.invariant.0 c.seat.invariant.0 c.index_mut-seat_table.ensures.value in
    (d.0, (d.2 ∙ sym d.1, d.3 ∙ ap (λ m. (UnderLock (entries_of m.0), [])) (sym d.3)))

pub add_entry-requires-clause-share : goal.add_entry-requires-clause-share
add_entry-requires-clause-share g c =
    let d = seat_table_of _ _ _ _ _ c.seat.inside.number c.index_mut-seat_table.result.now c.self.invariant.0 c.seat.invariant.0 c.index_mut-seat_table.ensures.value in
    let same = c.replace-share.ensures.value in
    (ap (λ b. b.table_id) same ∙ c.seat.invariant.1 ∙ sym d.1, subst (λ (b : Badge TableSide). b.views ≡ WithSeat (entries_in b.views) ∷ []) (sym same) c.seat.invariant.2)

pub invariant_of-self-2 : goal.invariant_of-self-2
invariant_of-self-2 g c =
    let n = c.seat.inside.number in
    let es = c.self.inside.chronicle.entries in
    let l = c.self.inside.ledger in
    let done = c.in_ok-answer.ensures in
    let e = entry n c.args.action c.in_ok-answer.answer in
    let d = seat_table_of _ _ _ _ _ n c.index_mut-seat_table.result.now c.self.invariant.0 c.seat.invariant.0 c.index_mut-seat_table.ensures.value in
    let t = c.add_entry.ensures.seat_table in
    let turn : 1 + length es ≡ c.len-turn.result = omega (arith, c.len-turn.ensures, ap length done.entered.0, length-append es (e ∷ [])) in
    let seat_table : IsSeatTable (table_at g.L.Heap.tables n) (entries_by n (es ++ e ∷ [])) c.add_entry.new.self = (
      ap (λ (z : TableId). z.words) t.0 ∙ d.0,
      t.0 ∙ d.1,
      t.1.0 ∙ d.2,
      t.1.1 ∙ (λ i. (UnderLock (entries_of (d.3 i).0 ++ (sym turn i, done.seen i) ∷ []), [])) ∙ ap (λ l. (UnderLock l, [])) (sym (seat_entries_with_own_entry n es e refl)),
    ) in
    let calls = subst (λ (x : Entry). CallsAs l c.note.new.self (all_in l ++ call_of x ∷ [])) done.seen c.note.ensures in
    let both = subst (λ (l : List Entry). IsUnderLock g.L.Heap.config g.L.Heap.tables c.act.new.machine l (set c.self.inside.seat_tables.items n c.add_entry.new.self) × HasLedger g.L.Heap.config g.L.Heap.ledger c.act.new.machine l c.note.new.self) (sym done.entered.0) (
      entry_kept_with_seat_table _ _ _ _ es _ e c.add_entry.new.self c.self.invariant.0 c.seat.invariant.0 c.requires done.moves.0 done.moves.1 seat_table,
      ledger_holds_call_of_act g.L.Heap.config g.L.Heap.ledger c.self.inside.machine c.act.new.machine es l c.note.new.self e c.self.invariant.1 c.requires done.moves.0 calls,
    ) in
    (both.0, both.1, done.entered.2 ∙ c.self.invariant.2)

pub invariant_of-seat : goal.invariant_of-seat
invariant_of-seat g c =
    let s = c.add_entry.ensures.share in
    (c.seat.invariant.0, s.0 ∙ ap (λ b. b.table_id) c.replace-share.ensures.value ∙ c.seat.invariant.1, s.1 ∙ (λ i. WithSeat (entries_in (sym s.1 i)) ∷ []))

pub returns-clause-moves : goal.returns-clause-moves
returns-clause-moves g c =
    let done = c.in_ok-answer.ensures in
    let m = move_of_kept_machine_is_due g.L.Heap.config g.L.Heap.tables c.self.inside.machine c.act.new.machine c.self.inside.chronicle.entries c.self.inside.seat_tables.items c.seat.inside.number c.args.action c.in_ok-answer.answer c.self.invariant.0 c.requires done.moves.0 done.moves.1 in
    let r : Receipt = record { seat = c.seat.inside.number; turn = c.len-turn.result; answer = c.in_ok-answer.answer } in
    let after : LockState = lock_state c.act.new.machine c.act.new.self (all_in c.note.new.self) in
    subst (λ (before : LockState). IsMoved g.L.Heap.config c.args.action before r after) c.self.view_is (done.moves.0, m.0, m.1)

pub returns-clause-stands : goal.returns-clause-stands
returns-clause-stands g c =
    let n = c.seat.inside.number in
    let es = c.self.inside.chronicle.entries in
    let done = c.in_ok-answer.ensures in
    let e = entry n c.args.action c.in_ok-answer.answer in
    let d = seat_table_of _ _ _ _ _ n c.index_mut-seat_table.result.now c.self.invariant.0 c.seat.invariant.0 c.index_mut-seat_table.ensures.value in
    let turn : 1 + length es ≡ c.len-turn.result = omega (arith, c.len-turn.ensures, ap length done.entered.0, length-append es (e ∷ [])) in
    let k = c.self.invariant.0 in (
      es,
      due_entry_extends_legal_history g.L.Heap.config.keep (opening g.L.Heap.config) es e k.legal (entry_with_reply_is_due _ _ _ c.act.new.machine es _ e k c.requires done.moves.0 done.moves.1),
      omega (arith, turn),
      seat_entries_with_own_entry n es e refl ∙ (λ i. entries_of (sym d.3 i).0 ++ (turn i, sym done.seen i) ∷ []) ∙ sym (ap entries_in c.add_entry.ensures.share.1),
    )

pub note-requires : goal.note-requires
note-requires g c = ledger_has_own_table _ _ c.self.inside.ledger c.self.invariant.1.0

pub returns-clause-share : goal.returns-clause-share
returns-clause-share g c =
    let n = c.seat.inside.number in
    let d = seat_table_of _ _ _ _ _ n c.index_mut-seat_table.result.now c.self.invariant.0 c.seat.invariant.0 c.index_mut-seat_table.ensures.value in
    let here : entries_by n c.self.inside.chronicle.entries ≡ entries_in c.seat.inside.share.views = sym (ap (λ m. entries_of m.0) d.3) ∙ sym c.add_entry.ensures.same ∙ ap (λ (b : Badge TableSide). entries_in b.views) c.replace-share.ensures.value in
    rw (sym c.self.view_is, sym c.seat.view_is) here
