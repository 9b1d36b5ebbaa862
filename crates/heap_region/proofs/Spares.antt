-- The pool and the area, as regions come into use, become empty and change.
use Rattle.std.proofs.Common.{◌≡◌, ◌⊎◌, ◌↔◌, ℕ, ◌<◌, ◌≤◌, List, length, drop, ◌∷◌, set, Option, Some, None, Contains, refl, sym, ap, subst, ◌∙◌, inl, inr, arith}
use Rattle.std.specs.Prelude.{nat_eq, nat_lt, option_map, slice_get, if◌then◌else◌}
use Rattle.std.specs.List.{IsDistinct}
use Rattle.std.proofs.lemmas.Bool.{cases_eq, cases_lt, cond-true, cond-false, le-ltb, lt-ltb}
use Rattle.heap_class.proofs.Lists.{head_and_rest_make_list}
use Rattle.heap_region.specs.Regions.{UsedRegion, Region, Empty, InUse, used_at, in_used, with_region}
use Rattle.heap_region.specs.Pool.{RegionPool}
use Rattle.heap_region.specs.Legal.{IsArea, IsRegionPool, MayRestore, NamesEach}
use Rattle.heap_region.proofs.Areas.{KeepsSizes, area_kept}
use Rattle.heap_region.proofs.Distinct.{distinct_cons, first_of_distinct_differs, rest_of_distinct_is_distinct}
use Rattle.heap_region.proofs.Lookups.{used_region_after_its_change, used_region_after_other_change, used_region_stands_in_list}
use Rattle.heap_region.proofs.References.{get_set_other, get_within, list_has_its_head, list_has_items_of_tail, member_is_head_or_later, set_item_is_got}
use Rattle.heap_region.proofs.Restores.{restorable_is_empty}
use Rattle.heap_region.proofs.UpdatedLists.{length_updated}

-- the pool has each empty region below the area
abbrev pub NamesSpare : ℕ → List ℕ → List Region → Type 0
NamesSpare start pool regions = NamesEach pool (λ k. (k < start) × (slice_get regions k ≡ Some Empty))

-- the same regions are empty
pub spare_kept : (start : ℕ) (pool : List ℕ) (old new : List Region) → ((k : ℕ) → (slice_get new k ≡ Some Empty) ↔ (slice_get old k ≡ Some Empty)) → NamesSpare start pool old → NamesSpare start pool new
spare_kept start pool old new same p =
    record {
      distinct = p.distinct;
      each = λ k. (
        λ m. (let a = (p.each k).0 m in (a.0, (same k).1 a.1)),
        λ e. (p.each k).1 (e.0, (same k).0 e.1),
      );
    }

-- a region that the pool hasn't was set
spare_where_other_was_set : (start : ℕ) (pool : List ℕ) (regions : List Region) (r : ℕ) (x : Region) → start ≤ r → NamesSpare start pool regions → NamesSpare start pool (set regions r x)
spare_where_other_was_set start pool regions r x le p =
    record {
      distinct = p.distinct;
      each = λ k. (
        λ m. (let a = (p.each k).0 m in (a.0, get_set_other regions r k x (λ e. omega (arith, e, le, a.0)) ∙ a.1)),
        λ e. (p.each k).1 (e.0, sym (get_set_other regions r k x (λ s. omega (arith, s, le, e.0))) ∙ e.1),
      );
    }

-- ---- a region comes into use

spare_without_head : (s : RegionPool) (r : ℕ) (u : UsedRegion) → IsRegionPool s → r < length s.regions → slice_get s.pool 0 ≡ Some r → NamesSpare s.area_start (drop 1 s.pool) (set s.regions r (InUse u))
spare_without_head s r u legal within head =
    record {
      distinct = rest_of_distinct_is_distinct r (drop 1 s.pool) distinct;
      each = λ k. (λ m. to k m, λ e. from k e (cases_eq k r));
    }
  where
    list : s.pool ≡ r ∷ drop 1 s.pool
    list = sym (head_and_rest_make_list s.pool r head)

    distinct : IsDistinct nat_eq (r ∷ drop 1 s.pool)
    distinct = subst (IsDistinct nat_eq) list legal.pool.distinct

    to : (k : ℕ) → Contains (drop 1 s.pool) k → (k < s.area_start) × (slice_get (set s.regions r (InUse u)) k ≡ Some Empty)
    to k m =
        let a = (legal.pool.each k).0 (subst (λ l. Contains l k) (sym list) (list_has_items_of_tail r (drop 1 s.pool) k m)) in
        (a.0, get_set_other s.regions r k (InUse u) (λ e. first_of_distinct_differs r (drop 1 s.pool) distinct k m (sym e)) ∙ a.1)

    from : (k : ℕ) → (k < s.area_start) × (slice_get (set s.regions r (InUse u)) k ≡ Some Empty) → (k ≡ r) ⊎ (k ≡ r → ⊥) → Contains (drop 1 s.pool) k
    from k e (inl same) =
        let bad : Some (InUse u) ≡ Some Empty = sym (ap (slice_get (set s.regions r (InUse u))) same ∙ set_item_is_got s.regions r (InUse u) within) ∙ e.1 in
        cc
    from k e (inr other) =
        elim (member_is_head_or_later r (drop 1 s.pool) k (subst (λ l. Contains l k) list ((legal.pool.each k).1 (e.0, sym (get_set_other s.regions r k (InUse u) other) ∙ e.1)))) [
          | inl same ↦ absurd (other same)
          | inr m ↦ m
        ]

pub spare_after_arrival : (s : RegionPool) (r : ℕ) (u : UsedRegion) → IsRegionPool s → MayRestore s r u → NamesSpare s.area_start (if nat_lt r s.area_start then drop 1 s.pool else s.pool) (set s.regions r (InUse u))
spare_after_arrival s r u legal may =
    elim (cases_lt r s.area_start) [
      | inl lt ↦ (
          let taken : (if nat_lt r s.area_start then drop 1 s.pool else s.pool) ≡ drop 1 s.pool = cond-true (nat_lt r s.area_start) _ _ (lt-ltb r s.area_start lt) in
          subst (λ l. NamesSpare s.area_start l (set s.regions r (InUse u))) (sym taken) (spare_without_head s r u legal (get_within s.regions r Empty (restorable_is_empty s r u legal may)) (may.head lt)))
      | inr le ↦ (
          let left : (if nat_lt r s.area_start then drop 1 s.pool else s.pool) ≡ s.pool = cond-false (nat_lt r s.area_start) _ _ (le-ltb r s.area_start le) in
          subst (λ l. NamesSpare s.area_start l (set s.regions r (InUse u))) (sym left) (spare_where_other_was_set s.area_start s.pool s.regions r (InUse u) le legal.pool))
    ]

-- ---- a region becomes empty

spare_with_head : (start : ℕ) (pool : List ℕ) (regions : List Region) (r : ℕ) (u : UsedRegion) → r < start → used_at regions r ≡ Some u → NamesSpare start pool regions → NamesSpare start (r ∷ pool) (set regions r Empty)
spare_with_head start pool regions r u below used p =
    record {
      distinct = distinct_cons r pool (λ y c e. in_use (subst (λ k. slice_get regions k ≡ Some Empty) (sym e) ((p.each y).0 c).1)) p.distinct;
      each = λ k. (λ m. to k (member_is_head_or_later r pool k m), λ e. from k e (cases_eq k r));
    }
  where
    there : slice_get regions r ≡ Some (InUse u)
    there = used_region_stands_in_list regions r u used

    in_use : slice_get regions r ≡ Some Empty → ⊥
    in_use e = let bad : Some (InUse u) ≡ Some Empty = sym there ∙ e in cc

    to : (k : ℕ) → (k ≡ r) ⊎ Contains pool k → (k < start) × (slice_get (set regions r Empty) k ≡ Some Empty)
    to k (inl e) = (omega (arith, below, e), subst (λ j. slice_get (set regions r Empty) j ≡ Some Empty) (sym e) (set_item_is_got regions r Empty (get_within regions r (InUse u) there)))
    to k (inr c) =
        let a = (p.each k).0 c in
        (a.0, get_set_other regions r k Empty (λ e. in_use (ap (slice_get regions) (sym e) ∙ a.1)) ∙ a.1)

    from : (k : ℕ) → (k < start) × (slice_get (set regions r Empty) k ≡ Some Empty) → (k ≡ r) ⊎ (k ≡ r → ⊥) → Contains (r ∷ pool) k
    from k e (inl same) = subst (Contains (r ∷ pool)) (sym same) (list_has_its_head r pool)
    from k e (inr other) = list_has_items_of_tail r pool k ((p.each k).1 (e.0, sym (get_set_other regions r k Empty other) ∙ e.1))

pub spare_after_removal : (start : ℕ) (pool : List ℕ) (regions : List Region) (r : ℕ) (u : UsedRegion) → used_at regions r ≡ Some u → NamesSpare start pool regions → NamesSpare start (if nat_lt r start then r ∷ pool else pool) (set regions r Empty)
spare_after_removal start pool regions r u used p =
    elim (cases_lt r start) [
      | inl lt ↦ (
          let given : (if nat_lt r start then r ∷ pool else pool) ≡ r ∷ pool = cond-true (nat_lt r start) _ _ (lt-ltb r start lt) in
          subst (λ l. NamesSpare start l (set regions r Empty)) (sym given) (spare_with_head start pool regions r u lt used p))
      | inr le ↦ (
          let left : (if nat_lt r start then r ∷ pool else pool) ≡ pool = cond-false (nat_lt r start) _ _ (le-ltb r start le) in
          subst (λ l. NamesSpare start l (set regions r Empty)) (sym left) (spare_where_other_was_set start pool regions r Empty le p))
    ]

-- ---- a region in use changes

-- the area stays one where a region keeps its size of cells
pub area_with_region : (f : UsedRegion → UsedRegion) → ((u : UsedRegion) → (f u).cell_size ≡ u.cell_size) → (r : ℕ) (regions : List Region) (start : ℕ) → IsArea regions start → IsArea (with_region r f regions) start
unfolding with_region
area_with_region f keeps r regions start area = area_kept regions (with_region r f regions) start (length_updated r (in_used f) regions) sizes area
  where
    changed : (x : Option UsedRegion) (v : UsedRegion) → option_map f x ≡ Some v → (u : UsedRegion) × (x ≡ Some u) × (u.cell_size ≡ v.cell_size)
    changed None v e = cc
    changed (Some u) v e = let same : f u ≡ v = cc in (u, refl, sym (keeps u) ∙ ap (λ (w : UsedRegion). w.cell_size) same)

    sizes : KeepsSizes regions (with_region r f regions)
    sizes q v used =
        elim (cases_eq r q) [
          | inl e ↦ (
              let here : option_map f (used_at regions r) ≡ Some v = sym (used_region_after_its_change r f regions) ∙ (ap (used_at (with_region r f regions)) e ∙ used) in
              let was = changed (used_at regions r) v here in
              (was.0, ap (used_at regions) (sym e) ∙ was.1, was.2))
          | inr ne ↦ (v, sym (used_region_after_other_change r q f regions ne) ∙ used, refl)
        ]
