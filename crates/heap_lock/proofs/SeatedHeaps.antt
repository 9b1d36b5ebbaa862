-- A heap with a seat more.
use Rattle.std.proofs.Common.{◌≡◌, ◌⊎◌, ℕ, zero, suc, ◌+◌, ◌<◌, List, [], ◌∷◌, ◌++◌, map, length, take, refl, sym, ap, ◌∙◌, subst, inl, inr, ⊎_elim, arith, length-append}
use Rattle.std.specs.Prelude.{slice_index_or}
use mathlib.Core.Option.{some, some-ne-none, some-injective}
use lib.ListN.{get_elem?}
use Rattle.atomic_table.specs.Seated.{TableId}
use Rattle.heap_world.specs.Limits.{HeapSettings}
use Rattle.heap_trail.specs.Machine.{Machine, opening_machine}
use Rattle.heap_lock.specs.HomeTables.{SeatTable, Ledger, table_of}
use Rattle.heap_lock.specs.declared.role.Role.{Role}
use Rattle.heap_lock.specs.declared.unnamed_seat.UnnamedSeat.{UnnamedSeat}
use Rattle.heap_lock.specs.declared.table_side.TableSide.TheVariants.{WithSeat}
use Rattle.heap_lock.specs.SeatEntries.{entries_in}
use Rattle.heap_history.specs.History.{history_trail, entries_by}
use Rattle.heap_lock.specs.declared.ledger_side.LedgerSide.TheVariants.{Full}
use Rattle.heap_lock.specs.Calls.{IsLedger}
use Rattle.heap_lock.specs.LedgerSides.{calls_of}
use Rattle.heap_lock.specs.Ledgers.{all_in, HasCalls, HasLedger}
use Rattle.heap_lock.proofs.CallLists.{opening_ledger_has_no_calls}
use Rattle.heap_lock.proofs.DumperCalls.{ledger_holds_these_calls}
use Rattle.heap_lock.specs.LockStates.{IsUnderLock, SeatModel, table_at, IsSeatModel, IsSeatTable}
use Rattle.heap_lock.specs.Blanks.{tables_of, seat_model_of, seat_models, AllUnnamed, AllFresh}

table_number_in_front_list : (ts us : List TableId) (n : ℕ) → n < length ts → table_at (ts ++ us) n ≡ table_at ts n
table_number_in_front_list [] us n lt = absurd (omega arith)
table_number_in_front_list (t ∷ ts) us zero lt = refl
table_number_in_front_list (t ∷ ts) us (suc n) lt = table_number_in_front_list ts us n (omega arith)

table_number_of_last : (ts : List TableId) (t : TableId) → table_at (ts ++ t ∷ []) (length ts) ≡ t
table_number_of_last [] t = refl
table_number_of_last (u ∷ ts) t = table_number_of_last ts t

table_numbers_of_one_more : (ds : List SeatTable) (d : SeatTable) → tables_of (ds ++ d ∷ []) ≡ tables_of ds ++ d.table.shared.table_id ∷ []
table_numbers_of_one_more [] d = refl
table_numbers_of_one_more (x ∷ ds) d = ap (λ l. x.table.shared.table_id ∷ l) (table_numbers_of_one_more ds d)

length_tables : (ds : List SeatTable) → length (tables_of ds) ≡ length ds
length_tables [] = refl
length_tables (x ∷ ds) = ap suc (length_tables ds)

table_of_list_or_last : {A : Type 0} (l : List A) (a b : A) (j : ℕ) → get_elem? (l ++ a ∷ []) j ≡ some b → ((j < length l) × (get_elem? l j ≡ some b)) ⊎ ((j ≡ length l) × (a ≡ b))
table_of_list_or_last [] a b zero e = inr (refl, some-injective a b e)
table_of_list_or_last [] a b (suc j) e = absurd (some-ne-none b (sym e))
table_of_list_or_last (x ∷ xs) a b zero e = inl (omega arith, e)
table_of_list_or_last (x ∷ xs) a b (suc j) e = ⊎_elim (λ t. inl (omega (arith, t.0), t.1)) (λ t. inr (omega (arith, t.0), t.1)) (table_of_list_or_last xs a b j e)

unnamed_seats_with_more_tables : (ts us : List TableId) (ss : List UnnamedSeat) → AllUnnamed ts ss → AllUnnamed (ts ++ us) ss
unnamed_seats_with_more_tables ts us [] h = tt
unnamed_seats_with_more_tables ts us (s ∷ ss) h = ((omega (arith, h.0.0, length-append ts us), h.0.1 ∙ sym (table_number_in_front_list ts us s.number h.0.0), h.0.2), unnamed_seats_with_more_tables ts us ss h.1)

unnamed_push : (ts : List TableId) (ss : List UnnamedSeat) (s : UnnamedSeat) → AllUnnamed ts ss → IsSeatModel ts s.number s.share → AllUnnamed ts (ss ++ s ∷ [])
unnamed_push ts [] s h is = (is, tt)
unnamed_push ts (x ∷ ss) s h is = (h.0, unnamed_push ts ss s h.1 is)

pub models_push : (ss : List UnnamedSeat) (s : UnnamedSeat) → map seat_model_of (ss ++ s ∷ []) ≡ map seat_model_of ss ++ seat_model_of s ∷ []
models_push [] s = refl
models_push (x ∷ ss) s = ap (λ l. seat_model_of x ∷ l) (models_push ss s)

-- a role more
pub models_more : (n i : ℕ) (rs : List Role) (d : Role) → i < length rs → seat_models n (take (i + 1) rs) ≡ seat_models n (take i rs) ++ record { number = n + i; role = slice_index_or rs i d; share = [] } ∷ []
models_more n i [] d lt = absurd (omega arith)
models_more n zero (x ∷ rs) d lt = ap (λ k. (let c : SeatModel = record { number = k; role = x; share = [] } in c) ∷ []) (omega arith)
models_more n (suc i) (x ∷ rs) d lt =
    let one : suc i + 1 ≡ suc (i + 1) = omega arith in
    let place : n + 1 + i ≡ n + suc i = omega arith in
    ap (λ k. seat_models n (take k (x ∷ rs))) one
    ∙ ap (λ l. (let c : SeatModel = record { number = n; role = x; share = [] } in c) ∷ l) (models_more (n + 1) i rs d (omega arith))
    ∙ ap (λ k. (let c : SeatModel = record { number = n; role = x; share = [] } in c) ∷ (seat_models (n + 1) (take i rs) ++ (let c : SeatModel = record { number = k; role = slice_index_or rs i d; share = [] } in c) ∷ [])) place

pub fresh_push : (ds : List SeatTable) (d : SeatTable) → AllFresh ds → IsSeatTable d.table.shared.table_id [] d → AllFresh (ds ++ d ∷ [])
fresh_push ds d h is n x at = ⊎_elim
    (λ (t : (n < length ds) × (get_elem? ds n ≡ some x)). subst (λ z. IsSeatTable z [] x) (sym (ap (λ l. table_at l n) (table_numbers_of_one_more ds d) ∙ table_number_in_front_list (tables_of ds) _ n (omega (arith, length_tables ds, t.0)))) (h n x t.1))
    (λ (t : (n ≡ length ds) × (d ≡ x)). subst (λ y. IsSeatTable (table_at (tables_of (ds ++ d ∷ [])) n) [] y) t.1
    (subst (λ z. IsSeatTable z [] d) (sym (ap (λ l. table_at l n) (table_numbers_of_one_more ds d) ∙ ap (table_at (tables_of ds ++ d.table.shared.table_id ∷ [])) (t.0 ∙ sym (length_tables ds)) ∙ table_number_of_last (tables_of ds) d.table.shared.table_id)) is))
    (table_of_list_or_last ds d x n at)

-- the new seat is of the new table
pub unnamed_seat_of_new_table : (ds : List SeatTable) (d : SeatTable) (ss : List UnnamedSeat) (s : UnnamedSeat) → AllUnnamed (tables_of ds) ss → s.number ≡ length ds → s.share.table_id ≡ d.table.shared.table_id → s.share.views ≡ WithSeat (entries_in s.share.views) ∷ [] → AllUnnamed (tables_of (ds ++ d ∷ [])) (ss ++ s ∷ [])
unnamed_seat_of_new_table ds d ss s h number same is =
    subst (λ l. AllUnnamed l (ss ++ s ∷ [])) (sym (table_numbers_of_one_more ds d))
    (unnamed_push _ ss s (unnamed_seats_with_more_tables (tables_of ds) (d.table.shared.table_id ∷ []) ss h)
    (omega (arith, number, length_tables ds, length-append (tables_of ds) (d.table.shared.table_id ∷ [])), same ∙ sym (table_number_of_last (tables_of ds) d.table.shared.table_id) ∙ ap (table_at (tables_of ds ++ d.table.shared.table_id ∷ [])) (length_tables ds ∙ sym number), is))

opening_heap_under_its_lock : (config : HeapSettings) (m : Machine) (ds : List SeatTable) → m ≡ opening_machine config.limits config.ids config.regions config.mutators config.keep → AllFresh ds → IsUnderLock config (tables_of ds) m [] ds
unfolding opening_machine history_trail entries_by
opening_heap_under_its_lock config m ds opened fresh = record {
  legal = tt;
  keep = ap (λ (n : Machine). n.keep) opened;
  ids = ap (λ (n : Machine). n.ids) opened;
  folds = ap (λ (n : Machine). n.trail) opened;
  seated = tt;
  count = sym (length_tables ds);
  booked = fresh;
}

-- its ledger has no call
pub opens_ledger : (config config' : HeapSettings) (table : TableId) (m : Machine) (l : Ledger) → config ≡ config' → table_of l ≡ table → m ≡ opening_machine config.limits config.ids config.regions config.mutators config.keep → HasCalls (table_of l) [] l → HasLedger config' table m [] l
opens_ledger config config' table m l same is opened has =
    let calls : HasCalls (table_of l) [] l = has in
    ledger_holds_these_calls config' table m [] l l [] (subst (λ t. HasCalls t (all_in l) l) is (calls.0, calls.1, (calls.2.0, calls.2.1 ∙ ap (λ cs. (Full cs, [])) (sym (ap (λ x. calls_of x.0) calls.2.1)))))
    (subst (λ (x : HeapSettings × Machine). IsLedger x.0 x.1 [] []) (λ i. (same i, sym opened i)) (opening_ledger_has_no_calls config))
    (refl, (refl, calls.2.1))

-- a blank heap may be kept, with nothing done yet
pub blank_heap_under_lock : (config config' : HeapSettings) (tables : List TableId) (m : Machine) (ds : List SeatTable) → config ≡ config' → tables_of ds ≡ tables → m ≡ opening_machine config.limits config.ids config.regions config.mutators config.keep → AllFresh ds → IsUnderLock config' tables m [] ds
blank_heap_under_lock config config' tables m ds same is opened fresh =
    subst (λ (s : HeapSettings). IsUnderLock s tables m [] ds) same (subst (λ (l : List TableId). IsUnderLock config l m [] ds) is (opening_heap_under_its_lock config m ds opened fresh))
