-- A history with an entry more.
use Rattle.std.proofs.Common.{◌≡◌, ◌≢◌, ℕ, ◌+◌, ◌==◌, ◌<◌, ◌≤◌, Bool, true, false, List, [], ◌∷◌, ◌++◌, length, set, get_or, filter, append-nil, refl, sym, ap, ◌∙◌, subst, ⊎_elim, arith}
use mathlib.Core.Option.{some}
use lib.ListN.{get_elem?}
use Rattle.std.specs.List.{enumerate_from}
use Rattle.std.specs.Prelude.{if◌then◌else◌}
use Rattle.std.proofs.lemmas.Bool.{eq-eqb, ne_eqb}
use Rattle.std.proofs.lemmas.List.{length-set}
use Rattle.std.proofs.lemmas.List.Elements.{filter-append}
use Rattle.atomic_table.specs.Seated.{TableId}
use Rattle.atomic_table.proofs.Lists.{at_set, at_index}
use Rattle.heap_world.specs.Limits.{HeapSettings}
use Rattle.heap_trail.specs.declared.Action.{Action}
use Rattle.heap_trail.specs.Trail.{Trail}
use Rattle.heap_class.specs.declared.IdSize.TheVariants.{Eight}
use Rattle.heap_trail.specs.declared.Reply.{Reply}
use Rattle.heap_trail.specs.Machine.{MayReply, Machine, is_dump_action}
use Rattle.heap_lock.specs.HomeTables.{SeatTable}
use Rattle.heap_history.specs.declared.entry.Entry.{Entry}
use Rattle.heap_history.specs.declared.entry.Outcome.{Outcome}
use Rattle.heap_history.specs.History.{entry, reply_of, opening, machine_at, trail_after, reply_at, MayEnter, IsDue, IsLegalHistory, history_trail, entries_by}
use Rattle.heap_lock.specs.LockStates.{AllSeated, table_at, IsSeatTable, IsUnderLock}
use Rattle.heap_trail.proofs.ByTrail.{acts_alike, dumps_leave, place_rises_at_most_one}

-- an act that is entered leaves the trail and is answered by the trail alone
pub entered_act_follows_trail : (m m' : Machine) (a : Action) (r : Reply) → is_dump_action a ≡ false → MayReply m a m' r → MayEnter r → (m'.trail ≡ trail_after m.keep m.trail a) × (r ≡ reply_at m.keep m.trail a) × (m'.keep ≡ m.keep) × (m'.ids ≡ m.ids)
unfolding trail_after reply_at
entered_act_follows_trail m m' a r deed (allocation, stands, is) enters = acts_alike Eight m m' a allocation r deed is enters.0

action_raises_place_by_one : (keep : ℕ) (t : Trail) (a : Action) → (trail_after keep t a).place ≤ t.place + 1
unfolding trail_after
action_raises_place_by_one keep t a = place_rises_at_most_one (machine_at keep t) a

pub due_entry_extends_legal_history : (keep : ℕ) (t : Trail) (es : List Entry) (e : Entry) → IsLegalHistory keep t es → IsDue keep (history_trail keep t es) e → IsLegalHistory keep t (es ++ e ∷ [])
unfolding history_trail
due_entry_extends_legal_history keep t [] e legal due = (due, tt)
due_entry_extends_legal_history keep t (f ∷ es) e legal due = (legal.0, due_entry_extends_legal_history keep (trail_after keep t f.action) es e legal.1 due)

-- the last entry of a legal history is due there
pub last_entry_of_history_due : (keep : ℕ) (t : Trail) (es : List Entry) (e : Entry) → IsLegalHistory keep t (es ++ e ∷ []) → IsDue keep (history_trail keep t es) e
unfolding history_trail
last_entry_of_history_due keep t [] e h = h.0
last_entry_of_history_due keep t (f ∷ es) e h = last_entry_of_history_due keep (trail_after keep t f.action) es e h.1

pub history_trail_of_one_more : (keep : ℕ) (t : Trail) (es : List Entry) (e : Entry) → history_trail keep t (es ++ e ∷ []) ≡ trail_after keep (history_trail keep t es) e.action
unfolding history_trail
history_trail_of_one_more keep t [] e = refl
history_trail_of_one_more keep t (f ∷ es) e = history_trail_of_one_more keep (trail_after keep t f.action) es e

-- the place is the number of entries at most
pub history_place_within_entries : (keep : ℕ) (t : Trail) (es : List Entry) → (history_trail keep t es).place ≤ t.place + length es
unfolding history_trail
history_place_within_entries keep t [] = omega arith
history_place_within_entries keep t (e ∷ es) = omega (arith, history_place_within_entries keep (trail_after keep t e.action) es, action_raises_place_by_one keep t e.action)

entries_seated_with_one_more : (n : ℕ) (es : List Entry) (e : Entry) → AllSeated n es → e.seat < n → AllSeated n (es ++ e ∷ [])
entries_seated_with_one_more n [] e h lt = (lt, tt)
entries_seated_with_one_more n (x ∷ es) e h lt = (h.0, entries_seated_with_one_more n es e h.1 lt)

pub numbered_entries_of_one_more : (n : ℕ) (es : List Entry) (e : Entry) → enumerate_from n (es ++ e ∷ []) ≡ enumerate_from n es ++ (n + length es, e) ∷ []
numbered_entries_of_one_more n [] e = ap (λ k. (k, e) ∷ []) (omega arith)
numbered_entries_of_one_more n (x ∷ es) e = ap (λ l. (n, x) ∷ l) (numbered_entries_of_one_more (n + 1) es e ∙ ap (λ k. enumerate_from (n + 1) es ++ (k, e) ∷ []) (omega arith))

pub seat_entries_with_own_entry : (n : ℕ) (es : List Entry) (e : Entry) → e.seat ≡ n → entries_by n (es ++ e ∷ []) ≡ entries_by n es ++ (1 + length es, e) ∷ []
unfolding entries_by
seat_entries_with_own_entry n es e is =
    ap (filter (λ (p : ℕ × Entry). p.1.seat == n)) (numbered_entries_of_one_more 1 es e)
    ∙ filter-append (λ (p : ℕ × Entry). p.1.seat == n) (enumerate_from 1 es) ((1 + length es, e) ∷ [])
    ∙ ap (λ (l : List (ℕ × Entry)). filter (λ (p : ℕ × Entry). p.1.seat == n) (enumerate_from 1 es) ++ l) (ap (λ (b : Bool). if b then (1 + length es, e) ∷ [] else []) (eq-eqb e.seat n is))

pub seat_entries_without_other_entry : (n : ℕ) (es : List Entry) (e : Entry) → e.seat ≢ n → entries_by n (es ++ e ∷ []) ≡ entries_by n es
unfolding entries_by
seat_entries_without_other_entry n es e ne =
    ap (filter (λ (p : ℕ × Entry). p.1.seat == n)) (numbered_entries_of_one_more 1 es e)
    ∙ filter-append (λ (p : ℕ × Entry). p.1.seat == n) (enumerate_from 1 es) ((1 + length es, e) ∷ [])
    ∙ ap (λ (l : List (ℕ × Entry)). filter (λ (p : ℕ × Entry). p.1.seat == n) (enumerate_from 1 es) ++ l) (ap (λ (b : Bool). if b then (1 + length es, e) ∷ [] else []) (ne_eqb e.seat n ne))
    ∙ append-nil _

pub seat_table_of : (config : HeapSettings) (tables : List TableId) (m : Machine) (es : List Entry) (seat_tables : List SeatTable) (n : ℕ) (d : SeatTable) → IsUnderLock config tables m es seat_tables → n < length tables → d ≡ get_or seat_tables n d → IsSeatTable (table_at tables n) (entries_by n es) d
seat_table_of config tables m es seat_tables n d k lt is = k.booked n d (at_index seat_tables n d (omega (arith, k.count, lt)) is)

-- the place of a machine under its chronicle is the number of entries at most
pub machine_place_within_entries : (config : HeapSettings) (tables : List TableId) (m : Machine) (es : List Entry) (seat_tables : List SeatTable) → IsUnderLock config tables m es seat_tables → m.trail.place ≤ length es
machine_place_within_entries config tables m es seat_tables k = omega (arith, history_place_within_entries config.keep (opening config) es, ap (λ (t : Trail). t.place) k.folds)

-- an entry with the machine's reply is due
pub entry_with_reply_is_due : (config : HeapSettings) (tables : List TableId) (m m' : Machine) (es : List Entry) (seat_tables : List SeatTable) (e : Entry) → IsUnderLock config tables m es seat_tables → is_dump_action e.action ≡ false → MayReply m e.action m' (reply_of e.answer) → MayEnter (reply_of e.answer)
    → IsDue config.keep (history_trail config.keep (opening config) es) e
entry_with_reply_is_due config tables m m' es seat_tables e k deed move enters = record {
  deed = deed;
  answer = (entered_act_follows_trail m m' e.action (reply_of e.answer) deed move enters).1 ∙ (λ i. reply_at (k.keep i) (k.folds i) e.action);
  enters = enters;
}

-- one entry more, with the seat's table
pub entry_kept_with_seat_table : (config : HeapSettings) (tables : List TableId) (m m' : Machine) (es : List Entry) (seat_tables : List SeatTable) (e : Entry) (d' : SeatTable) → IsUnderLock config tables m es seat_tables → e.seat < length tables
    → is_dump_action e.action ≡ false → MayReply m e.action m' (reply_of e.answer) → MayEnter (reply_of e.answer) → IsSeatTable (table_at tables e.seat) (entries_by e.seat (es ++ e ∷ [])) d' → IsUnderLock config tables m' (es ++ e ∷ []) (set seat_tables e.seat d')
entry_kept_with_seat_table config tables m m' es seat_tables e d' k lt deed move enters seat_table =
    let alike = entered_act_follows_trail m m' e.action (reply_of e.answer) deed move enters in record {
      legal = due_entry_extends_legal_history config.keep (opening config) es e k.legal (entry_with_reply_is_due config tables m m' es seat_tables e k deed move enters);
      keep = alike.2 ∙ k.keep;
      ids = alike.3 ∙ k.ids;
      folds = alike.0 ∙ (λ i. trail_after (k.keep i) (k.folds i) e.action) ∙ sym (history_trail_of_one_more config.keep (opening config) es e);
      seated = entries_seated_with_one_more (length tables) es e k.seated lt;
      count = length-set seat_tables e.seat d' ∙ k.count;
      booked = λ n d at. ⊎_elim
          (λ (u : (n ≡ e.seat) × (d' ≡ d)). subst (λ (x : ℕ × SeatTable). IsSeatTable (table_at tables x.0) (entries_by x.0 (es ++ e ∷ [])) x.1) (λ i. (sym u.0 i, u.1 i)) seat_table)
          (λ (u : (n ≢ e.seat) × (get_elem? seat_tables n ≡ some d)). subst (λ l. IsSeatTable (table_at tables n) l d) (sym (seat_entries_without_other_entry n es e (λ q. u.0 (sym q)))) (k.booked n d u.1))
          (at_set seat_tables e.seat n d' d at);
    }

-- what a move of the kept machine makes of its trail, and that its answer is due there
pub move_of_kept_machine_is_due : (config : HeapSettings) (tables : List TableId) (m m' : Machine) (es : List Entry) (seat_tables : List SeatTable) (seat : ℕ) (a : Action) (o : Outcome) → IsUnderLock config tables m es seat_tables → is_dump_action a ≡ false → MayReply m a m' (reply_of o) → MayEnter (reply_of o)
    → (m'.trail ≡ trail_after config.keep m.trail a) × IsDue config.keep m.trail (entry seat a o)
move_of_kept_machine_is_due config tables m m' es seat_tables seat a o k deed move enters =
    let alike = entered_act_follows_trail m m' a (reply_of o) deed move enters in
    (alike.0 ∙ ap (λ n. trail_after n m.trail a) k.keep, record { deed = deed; answer = alike.1 ∙ ap (λ n. reply_at n m.trail a) k.keep; enters = enters })

-- the machine after a dumper's action may be kept in the place of the one before
pub dumped_machine_under_lock : (config : HeapSettings) (tables : List TableId) (m m' : Machine) (es : List Entry) (seat_tables : List SeatTable) (a : Action) (r : Reply) → IsUnderLock config tables m es seat_tables → is_dump_action a ≡ true → MayReply m a m' r → IsUnderLock config tables m' es seat_tables
dumped_machine_under_lock config tables m m' es seat_tables a r k dump (allocation, stands, is) =
    let left = dumps_leave m m' a allocation r dump is in
    record { legal = k.legal; keep = left.1 ∙ k.keep; ids = left.2 ∙ k.ids; folds = left.0 ∙ k.folds; seated = k.seated; count = k.count; booked = k.booked }

-- a table that has the same entries again
pub entries_kept_with_equal_table : (config : HeapSettings) (tables : List TableId) (m : Machine) (es : List Entry) (seat_tables : List SeatTable) (seat : ℕ) (d' : SeatTable) → IsUnderLock config tables m es seat_tables → IsSeatTable (table_at tables seat) (entries_by seat es) d' → IsUnderLock config tables m es (set seat_tables seat d')
entries_kept_with_equal_table config tables m es seat_tables seat d' k seat_table =
    record {
      legal = k.legal;
      keep = k.keep;
      ids = k.ids;
      folds = k.folds;
      seated = k.seated;
      count = length-set seat_tables seat d' ∙ k.count;
      booked = λ n d at. ⊎_elim
          (λ (u : (n ≡ seat) × (d' ≡ d)). subst (λ (x : ℕ × SeatTable). IsSeatTable (table_at tables x.0) (entries_by x.0 es) x.1) (λ i. (sym u.0 i, u.1 i)) seat_table)
          (λ (u : (n ≢ seat) × (get_elem? seat_tables n ≡ some d)). k.booked n d u.1)
          (at_set seat_tables seat n d' d at);
    }
