use Rattle.std.proofs.Common.{◌≡◌, [], ◌∷◌, sym, ap, ◌∙◌, subst}
use Rattle.atomic_table.specs.Seated.{TableId}
use Rattle.atomic_table.specs.declared.badge.Badge.{Badge}
use Rattle.heap_lock.specs.declared.table_side.TableSide.{TableSide}
use Rattle.heap_lock.specs.declared.table_side.TableSide.TheVariants.{UnderLock, WithSeat}
use Rattle.heap_history.specs.History.{entries_by}
use Rattle.heap_lock.specs.SeatEntries.{entries_of, entries_in}
use Rattle.heap_lock.specs.LockStates.{table_at, IsSeatTable}
use Rattle.heap_lock.proofs.Histories.{seat_table_of, entries_kept_with_equal_table}
use Rattle.heap_lock.proofs.heap.Kept.agree.Goals as goal

pub agree-requires-clause-seat_table : goal.agree-requires-clause-seat_table
agree-requires-clause-seat_table g c =
    let d = seat_table_of _ _ _ _ _ c.seat.inside.number c.index_mut-seat_table.result.now c.self.invariant.0 c.seat.invariant.0 c.index_mut-seat_table.ensures.value in
    (d.0, (d.2 ∙ sym d.1, d.3 ∙ ap (λ m. (UnderLock (entries_of m.0), [])) (sym d.3)))

pub agree-requires-clause-share : goal.agree-requires-clause-share
agree-requires-clause-share g c =
    let d = seat_table_of _ _ _ _ _ c.seat.inside.number c.index_mut-seat_table.result.now c.self.invariant.0 c.seat.invariant.0 c.index_mut-seat_table.ensures.value in
    let same = c.replace-share.ensures.value in
    (ap (λ b. b.table_id) same ∙ c.seat.invariant.1 ∙ sym d.1, subst (λ (b : Badge TableSide). b.views ≡ WithSeat (entries_in b.views) ∷ []) (sym same) c.seat.invariant.2)

pub invariant_of-self : goal.invariant_of-self
invariant_of-self g c =
    let n = c.seat.inside.number in
    let es = c.self.inside.chronicle.entries in
    let d = seat_table_of _ _ _ _ _ n c.index_mut-seat_table.result.now c.self.invariant.0 c.seat.invariant.0 c.index_mut-seat_table.ensures.value in
    let t = c.agree.ensures.seat_table in
    let seat_table : IsSeatTable (table_at g.L.Heap.tables n) (entries_by n es) c.agree.new.self = (
      ap (λ (z : TableId). z.words) t.0 ∙ d.0,
      t.0 ∙ d.1,
      t.1.0 ∙ d.2,
      t.1.1 ∙ (λ i. (UnderLock (entries_of (d.3 i).0), [])),
    ) in
    (entries_kept_with_equal_table g.L.Heap.config g.L.Heap.tables c.self.inside.machine es c.self.inside.seat_tables.items n c.agree.new.self c.self.invariant.0 seat_table, c.self.invariant.1, c.self.invariant.2)

pub returns-clause-share : goal.returns-clause-share
returns-clause-share g c =
    let n = c.seat.inside.number in
    let d = seat_table_of _ _ _ _ _ n c.index_mut-seat_table.result.now c.self.invariant.0 c.seat.invariant.0 c.index_mut-seat_table.ensures.value in
    let here : entries_by n c.self.inside.chronicle.entries ≡ entries_in c.seat.inside.share.views = sym (ap (λ m. entries_of m.0) d.3) ∙ sym c.agree.ensures.same ∙ ap (λ (b : Badge TableSide). entries_in b.views) c.replace-share.ensures.value in
    rw (sym c.self.view_is, sym c.seat.view_is) here
