-- When a finish is refused, and how it is undone.
use Rattle.std.proofs.Common.{◌≡◌, ℕ, zero, suc, ◌+◌, ◌-◌, ◌<◌, ◌≤◌, Bool, true, false, not, cond, List, [], ◌∷◌, length, map, Option, Some, None, refl, sym, ap, ap₂, ◌∙◌, arith}
use Rattle.std.specs.Prelude.{nat_lt, slice_get, slice_index, option_map, if◌then◌else◌}
use Rattle.std.specs.Option.{option_map_or}
use Rattle.std.specs.List.{filter_map, cons_option, enumerate_from}
use Rattle.std.proofs.lemmas.Bool.{lt-ltb, le-ltb}
use Rattle.heap_class.specs.declared.Refusal.{Refusal}
use Rattle.heap_class.specs.declared.Refusal.TheVariants.{NotMarking, NotDone, SweepPending}
use Rattle.heap_class.specs.Refusals.{first_refusal}
use Rattle.heap_class.proofs.Refusals.{no_refusal_test_holds}
use Rattle.heap_region.specs.Regions.{Object, Region, Empty, InUse, used_part, in_used}
use Rattle.heap_region.specs.Legal.{EachObject}
use Rattle.heap_region.proofs.Lookups.{listed_region_is_in_use, object_found_in_used_cell}
use Rattle.heap_mark.specs.declared.Phase.{Phase}
use Rattle.heap_mark.specs.declared.Phase.TheVariants.{Idle, Marking}
use Rattle.heap_mark.specs.MarkSteps.{MarkState, is_marking, each_object, each_region, pending_regions, finish_refusal, finished_region, finished, unfinished_region, unfinished}
use Rattle.heap_mark.specs.Finish.{finished_object, unfinished_object}

-- ---- refusals

abbrev count_of_undone_work : MarkState → ℕ
count_of_undone_work s = length s.gray + (length s.log - s.drained)

abbrev refusal_of_unswept_regions : List ℕ → Option Refusal
refusal_of_unswept_regions pending = cond (nat_lt 0 (length pending)) (Some (SweepPending (slice_index pending 0))) None

abbrev refusal_of_unready_finish : MarkState → Option Refusal
refusal_of_unready_finish s = cond (nat_lt 0 (count_of_undone_work s)) (Some (NotDone (length s.gray) (length s.log - s.drained))) (refusal_of_unswept_regions (pending_regions s.regions))

pub finish_idle : (s : MarkState) → is_marking s.phase ≡ false → finish_refusal s ≡ Some NotMarking
unfolding finish_refusal first_refusal
finish_idle s h = ap (λ (b : Bool). cond (not b) (Some NotMarking) (refusal_of_unready_finish s)) h

when_marking : (s : MarkState) → is_marking s.phase ≡ true → finish_refusal s ≡ refusal_of_unready_finish s
unfolding finish_refusal first_refusal
when_marking s h = ap (λ (b : Bool). cond (not b) (Some NotMarking) (refusal_of_unready_finish s)) h

finish_refused_only_if_unswept : (s : MarkState) → is_marking s.phase ≡ true → count_of_undone_work s ≤ 0 → finish_refusal s ≡ refusal_of_unswept_regions (pending_regions s.regions)
finish_refused_only_if_unswept s h done = when_marking s h ∙ ap (λ (b : Bool). cond b (Some (NotDone (length s.gray) (length s.log - s.drained))) (refusal_of_unswept_regions (pending_regions s.regions))) (le-ltb 0 (count_of_undone_work s) done)

pub finish_undone : (s : MarkState) (gray undrained : ℕ) → is_marking s.phase ≡ true → gray ≡ length s.gray → undrained ≡ length s.log - s.drained → 0 < gray + undrained → finish_refusal s ≡ Some (NotDone gray undrained)
finish_undone s gray undrained h g u more =
    let left : 0 < count_of_undone_work s = omega (arith, g, u, more) in
    when_marking s h ∙ (ap (λ (b : Bool). cond b (Some (NotDone (length s.gray) (length s.log - s.drained))) (refusal_of_unswept_regions (pending_regions s.regions))) (lt-ltb 0 (count_of_undone_work s) left) ∙ ap₂ (λ (m n : ℕ). Some (NotDone m n)) (sym g) (sym u))

pub finish_unswept : (s : MarkState) (r : ℕ) → is_marking s.phase ≡ true → count_of_undone_work s ≤ 0 → Some r ≡ slice_get (pending_regions s.regions) 0 → finish_refusal s ≡ Some (SweepPending r)
finish_unswept s r h done is = finish_refused_only_if_unswept s h done ∙ go (pending_regions s.regions) is
  where
    go : (xs : List ℕ) → Some r ≡ slice_get xs 0 → refusal_of_unswept_regions xs ≡ Some (SweepPending r)
    go [] e = cc
    go (x ∷ xs) e =
        let more : nat_lt 0 (suc (length xs)) ≡ true = lt-ltb 0 (suc (length xs)) (omega arith) in
        let same : r ≡ x = cc in
        ap (λ (b : Bool). cond b (Some (SweepPending x)) None) more ∙ ap (λ (k : ℕ). Some (SweepPending k)) (sym same)

pub finish_free : (s : MarkState) → is_marking s.phase ≡ true → count_of_undone_work s ≤ 0 → None ≡ slice_get (pending_regions s.regions) 0 → finish_refusal s ≡ None
finish_free s h done is = finish_refused_only_if_unswept s h done ∙ go (pending_regions s.regions) is
  where
    go : (xs : List ℕ) → None ≡ slice_get xs 0 → refusal_of_unswept_regions xs ≡ None
    go [] e = refl
    go (x ∷ xs) e = cc

-- ---- taking back

abbrev pub pending_in : Option Region → Bool
pending_in None = false
pending_in (Some Empty) = false
pending_in (Some (InUse u)) = u.pending

abbrev pub pending_number : ℕ × Region → Option ℕ
pending_number p = option_map_or (λ u. if u.pending then Some p.0 else None) (used_part p.1) None

-- where a list of those that are pending is empty, its first isn't and its others aren't
pub no_pending_first_and_rest : (b : Bool) (n : ℕ) (rest : List ℕ) → nat_lt 0 (length (cons_option (if b then Some n else None) rest)) ≡ false → (b ≡ false) × (nat_lt 0 (length rest) ≡ false)
no_pending_first_and_rest true n rest h = let t : nat_lt 0 (suc (length rest)) ≡ true = grind arith in cc
no_pending_first_and_rest false n rest h = (refl, h)

pub none_pending : (regions : List Region) (n : ℕ) → nat_lt 0 (length (filter_map pending_number (enumerate_from n regions))) ≡ false → (k : ℕ) → pending_in (slice_get regions k) ≡ false
none_pending [] n h k = refl
none_pending (Empty ∷ xs) n h zero = refl
none_pending (Empty ∷ xs) n h (suc k) = none_pending xs (n + 1) h k
none_pending (InUse u ∷ xs) n h zero = (no_pending_first_and_rest u.pending n _ h).0
none_pending (InUse u ∷ xs) n h (suc k) = none_pending xs (n + 1) (no_pending_first_and_rest u.pending n _ h).1 k

-- f of each item, and then g, is nothing where g undoes f at each
pub map_back : {A : Type 0} (f g : A → A) (xs : List A) → ((k : ℕ) (x : A) → slice_get xs k ≡ Some x → g (f x) ≡ x) → map g (map f xs) ≡ xs
map_back f g [] h = refl
map_back f g (x ∷ xs) h = λ i. h 0 x refl i ∷ map_back f g xs (λ k y e. h (suc k) y e) i

-- the cells of a region whose objects are all live
finished_cells_undone : (cells : List (Option Object)) → ((c : ℕ) (o : Object) → slice_get cells c ≡ Some (Some o) → o.live ≡ true) → map (option_map unfinished_object) (map (option_map finished_object) cells) ≡ cells
finished_cells_undone cells h = map_back _ _ cells back
  where
    back : (c : ℕ) (x : Option Object) → slice_get cells c ≡ Some x → option_map unfinished_object (option_map finished_object x) ≡ x
    back c None e = refl
    back c (Some o) e = ap (λ (b : Bool). Some (record o { live = b })) (sym (h c o e))

pub finished_regions_undone : (regions : List Region) → ((r : ℕ) → pending_in (slice_get regions r) ≡ false) → EachObject regions (λ at o. o.live ≡ true) → each_region unfinished_region (each_region finished_region regions) ≡ regions
unfolding each_region unfinished_region finished_region each_object in_used
finished_regions_undone regions swept live = map_back _ _ regions back
  where
    back : (r : ℕ) (x : Region) → slice_get regions r ≡ Some x → in_used unfinished_region (in_used finished_region x) ≡ x
    back r Empty e = refl
    back r (InUse u) e = λ i. InUse (record u { pending = (sym (swept r) ∙ ap pending_in e) i; cells = finished_cells_undone u.cells (λ c o there. live (record { region = r; cell = c }) o (object_found_in_used_cell regions (record { region = r; cell = c }) u o (listed_region_is_in_use regions r u e) there)) i })

pub phase_is : (p : Phase) → not (is_marking p) ≡ false → Marking ≡ p
phase_is Idle h = cc
phase_is Marking h = refl

pub all_drained : (gray log drained : ℕ) → nat_lt 0 (gray + (log - drained)) ≡ false → drained ≤ log → log ≡ drained
all_drained gray log drained h within = grind arith

finish_undo : (s : MarkState) → finish_refusal s ≡ None → EachObject s.regions (λ at o. o.live ≡ true) → s.drained ≤ length s.log → unfinished s.log (finished s) ≡ s
unfolding finish_refusal finished unfinished pending_regions
finish_undo s accepted live within =
    let none = no_refusal_test_holds _ accepted in
    let regions : each_region unfinished_region (each_region finished_region s.regions) ≡ s.regions = finished_regions_undone s.regions (none_pending s.regions 0 none.1.1.0) live in
    λ i. record s { regions = regions i; drained = all_drained _ _ _ none.1.0 within i; phase = phase_is s.phase none.0 i }

pub finish_undone_gives_state_before : (before s : MarkState) (log : List ℕ) → finish_refusal before ≡ None → EachObject before.regions (λ at o. o.live ≡ true) → before.drained ≤ length before.log → log ≡ before.log → s ≡ finished before → unfinished log s ≡ before
finish_undone_gives_state_before before s log accepted live within same is = ap₂ unfinished same is ∙ finish_undo before accepted live within
