-- The table of the regions that wait to be swept, and the lowest of them.
use Rattle.std.proofs.Common.{◌≡◌, ℕ, zero, suc, ◌+◌, ◌<◌, Bool, true, false, eqb, List, length, [], ◌∷◌, map, Option, Some, None, IsSome, option_map, get_or, set, refl, sym, ap, ◌∙◌, arith}
use Rattle.std.specs.Prelude.{slice_get, replicate, if◌then◌else◌}
use Rattle.std.specs.List.{filter_map, cons_option, enumerate_from}
use Rattle.std.proofs.lemmas.List.{get_or-map, length-map, map-set, set-get_or}
use Rattle.heap_region.specs.Regions.{UsedRegion}
use Rattle.heap_region.specs.Pool.{pending_place}
use Rattle.heap_region.specs.Table.{AreWaiting, shown_region, wait_class_of}
use Rattle.heap_region.proofs.Tables.{in_use_within}
use Rattle.heap_region.proofs.SlotChanges.{changed_slot}

-- the slot of a region is written, and its class
pub waiting_classes_after_slot_set : (slots : List (Option UsedRegion)) (waits : List ℕ) (r : ℕ) (s : Option UsedRegion) → AreWaiting slots waits → AreWaiting (set slots r s) (set waits r (wait_class_of s))
waiting_classes_after_slot_set slots waits r s e = ap (λ ws. set ws r (wait_class_of s)) e ∙ sym (map-set wait_class_of slots r s)

-- each region has a class
pub class_within : (slots : List (Option UsedRegion)) (waits : List ℕ) (r : ℕ) → AreWaiting slots waits → r < length slots → r < length waits
class_within slots waits r e lt = omega (arith, ap length e, length-map slots wait_class_of, lt)

waiting_classes_of_same_class : (slots : List (Option UsedRegion)) (waits : List ℕ) (r : ℕ) (s : Option UsedRegion) → AreWaiting slots waits → r < length slots → wait_class_of s ≡ wait_class_of (get_or slots r None) → AreWaiting (set slots r s) waits
waiting_classes_of_same_class slots waits r s e lt same =
    let at : get_or waits r 0 ≡ wait_class_of (get_or slots r None) = ap (λ ws. get_or ws r 0) e ∙ get_or-map wait_class_of slots r None 0 lt in
    let back : set waits r (wait_class_of s) ≡ waits = ap (set waits r) (same ∙ sym at) ∙ set-get_or waits r 0 in
    sym back ∙ waiting_classes_after_slot_set slots waits r s e

same_class : (f : UsedRegion → UsedRegion) → ((u : UsedRegion) → (f u).pending ≡ u.pending) → (s : Option UsedRegion) → wait_class_of (option_map f s) ≡ wait_class_of s
same_class f keeps None = refl
same_class f keeps (Some u) = ap (λ b. if b then 1 else 2) (keeps u)

-- a region in use is changed, but not whether it waits
pub waiting_classes_of_changed_region : (slots : List (Option UsedRegion)) (waits : List ℕ) (r : ℕ) (f : UsedRegion → UsedRegion) → ((u : UsedRegion) → (f u).pending ≡ u.pending) → AreWaiting slots waits → IsSome (get_or slots r None) → (found new : Option UsedRegion) → found ≡ get_or slots r found → new ≡ option_map f found → AreWaiting (set slots r new) waits
waiting_classes_of_changed_region slots waits r f keeps e some found new read is =
    let lt : r < length slots = in_use_within slots r some in
    waiting_classes_of_same_class slots waits r new e lt (ap wait_class_of (changed_slot slots r f found new lt read is) ∙ same_class f keeps (get_or slots r None))

-- no region waits at the beginning
pub none_at_first : (n : ℕ) → AreWaiting (replicate n None) (replicate n 0)
none_at_first zero = refl
none_at_first (suc n) = ap (λ ws. 0 ∷ ws) (none_at_first n)

region_does_not_wait : (n : ℕ) (s : Option UsedRegion) → (eqb (wait_class_of s) 1 ≡ true → ⊥) → pending_place (n, shown_region s) ≡ None
region_does_not_wait n None lacks = refl
region_does_not_wait n (Some u) lacks = go u.pending lacks
  where
    go : (b : Bool) → (eqb (if b then 1 else 2) 1 ≡ true → ⊥) → (if b then Some n else None) ≡ None
    go true lacks = absurd (lacks refl)
    go false lacks = refl

region_waits : (n : ℕ) (s : Option UsedRegion) → eqb (wait_class_of s) 1 ≡ true → pending_place (n, shown_region s) ≡ Some n
region_waits n None h = cc
region_waits n (Some u) h = go u.pending h
  where
    go : (b : Bool) → eqb (if b then 1 else 2) 1 ≡ true → (if b then Some n else None) ≡ Some n
    go true h = refl
    go false h = cc

-- no region waits
pub no_region_waits : (n : ℕ) (slots : List (Option UsedRegion)) → ((k : ℕ) → k < length slots → eqb (get_or (map wait_class_of slots) k 0) 1 ≡ true → ⊥)
    → slice_get (filter_map pending_place (enumerate_from n (map shown_region slots))) 0 ≡ None
no_region_waits n [] lacks = refl
no_region_waits n (s ∷ slots) lacks =
    ap (λ x. slice_get (cons_option x (filter_map pending_place (enumerate_from (n + 1) (map shown_region slots)))) 0) (region_does_not_wait n s (lacks 0 (omega arith)))
    ∙ no_region_waits (n + 1) slots (λ k lt. lacks (suc k) (omega arith))

-- the first that waits
pub first_region_that_waits : (n : ℕ) (slots : List (Option UsedRegion)) (k : ℕ) → k < length slots
    → ((j : ℕ) → j < k → eqb (get_or (map wait_class_of slots) j 0) 1 ≡ true → ⊥) → eqb (get_or (map wait_class_of slots) k 0) 1 ≡ true
    → slice_get (filter_map pending_place (enumerate_from n (map shown_region slots))) 0 ≡ Some (n + k)
first_region_that_waits n [] k lt before here = absurd (omega arith)
first_region_that_waits n (s ∷ slots) zero lt before here =
    let e : n ≡ n + 0 = omega arith in
    ap (λ x. slice_get (cons_option x (filter_map pending_place (enumerate_from (n + 1) (map shown_region slots)))) 0) (region_waits n s here)
    ∙ ap Some e
first_region_that_waits n (s ∷ slots) (suc k) lt before here =
    let e : n + 1 + k ≡ n + suc k = omega arith in
    ap (λ x. slice_get (cons_option x (filter_map pending_place (enumerate_from (n + 1) (map shown_region slots)))) 0) (region_does_not_wait n s (before 0 (omega arith)))
    ∙ first_region_that_waits (n + 1) slots k (omega arith) (λ j l. before (suc j) (omega arith)) here
    ∙ ap Some e
