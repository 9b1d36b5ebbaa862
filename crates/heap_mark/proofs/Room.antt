-- The room of the gray stack: there are no more ids of objects than cells.
use Rattle.std.proofs.Common.{◌≡◌, ℕ, ◌+◌, ◌*◌, ◌<◌, ◌≤◌, Bool, true, false, List, [], ◌∷◌, length, map, refl, sym, ap, subst, ◌∙◌, Option, Some, None, IsSome, Contains, arith}
use Rattle.std.specs.Prelude.{nat_eq, ◌||◌}
use Rattle.std.specs.Option.{option_map_or}
use Rattle.std.specs.List.{IsDistinct, AllByRecursion, list_any}
use Rattle.std.proofs.lemmas.Bool.{eqb-true, eq-eqb, ne_eqb}
use Rattle.std.proofs.lemmas.Option.{slice_get_within}
use Rattle.std.proofs.lemmas.Map.Steps.{length-le_from_distinct_below}
use Rattle.heap_class.specs.declared.ObjRef.{ObjRef}
use Rattle.heap_region.specs.Regions.{Object, UsedRegion, Region, used_at, object_at, object_of, ref_of}
use Rattle.heap_region.specs.Pool.{RegionPool}
use Rattle.heap_region.specs.Legal.{IsCellTable, IsRegionPool}
use Rattle.heap_region.proofs.BlockSizes.{listed_size_bounds}
use Rattle.heap_region.proofs.ChangedLookups.{place_of_object_of_id, ref_injective}
use Rattle.heap_region.proofs.Lookups.{used_region_stands_in_list}
use Rattle.heap_region.proofs.References.{list_has_its_head, list_has_items_of_tail}
use Rattle.heap_region.proofs.ShownRegions.{used_by_object, object_here}
use Rattle.heap_region.proofs.Tables.{in_use_within}

-- ---- distinct numbers of a list's items

apart_mapped : (f : ℕ → ℕ) (x : ℕ) (ys : List ℕ) → ((y : ℕ) → Contains ys y → f x ≡ f y → x ≡ y) → AllByRecursion (λ y. nat_eq x y ≡ false) ys → AllByRecursion (λ z. nat_eq (f x) z ≡ false) (map f ys)
apart_mapped f x [] h a = tt
apart_mapped f x (y ∷ ys) h a = (ne_eqb (f x) (f y) differ, apart_mapped f x ys (λ z c. h z (list_has_items_of_tail y ys z c)) a.1)
  where
    differ : f x ≡ f y → ⊥
    differ e = let p : nat_eq x y ≡ true = eq-eqb x y (h y (list_has_its_head y ys) e) in let q : nat_eq x y ≡ false = a.0 in cc

distinct_mapped : (f : ℕ → ℕ) (xs : List ℕ) → ((x y : ℕ) → Contains xs x → Contains xs y → f x ≡ f y → x ≡ y) → IsDistinct nat_eq xs → IsDistinct nat_eq (map f xs)
unfolding IsDistinct
distinct_mapped f [] h d = tt
distinct_mapped f (x ∷ xs) h d = (apart_mapped f x xs (λ y c e. h x y (list_has_its_head x xs) (list_has_items_of_tail x xs y c) e) d.0, distinct_mapped f xs (λ y z c k e. h y z (list_has_items_of_tail x xs y c) (list_has_items_of_tail x xs z k) e) d.1)

head_or_later : (a : Bool) (q y n : ℕ) (rest : Bool) → nat_eq q y ≡ a → (a || rest) ≡ true → y < n → (rest ≡ true → q < n) → q < n
head_or_later true q y n rest p e h later = subst (λ z. z < n) (sym (eqb-true q y p)) h
head_or_later false q y n rest p e h later = later e

below_mapped : (f : ℕ → ℕ) (n : ℕ) (xs : List ℕ) → ((x : ℕ) → Contains xs x → f x < n) → (q : ℕ) → list_any (nat_eq q) (map f xs) ≡ true → q < n
below_mapped f n [] h q e = cc
below_mapped f n (x ∷ xs) h q e = head_or_later (nat_eq q (f x)) q (f x) n (list_any (nat_eq q) (map f xs)) refl e (h x (list_has_its_head x xs)) (below_mapped f n xs (λ y c. h y (list_has_items_of_tail x xs y c)) q)

-- no more items than numbers, where distinct items have distinct numbers
distinct_items_fit_their_numbers : (f : ℕ → ℕ) (n : ℕ) (xs : List ℕ) → ((x : ℕ) → Contains xs x → f x < n) → ((x y : ℕ) → Contains xs x → Contains xs y → f x ≡ f y → x ≡ y) → IsDistinct nat_eq xs → length xs ≤ n
distinct_items_fit_their_numbers f n xs below same d = let h : length (map f xs) ≤ n = length-le_from_distinct_below (map f xs) n (distinct_mapped f xs same d) (below_mapped f n xs below) in subst (λ k. k ≤ n) (length_mapped xs) h
  where
    length_mapped : (ys : List ℕ) → length (map f ys) ≡ length ys
    length_mapped [] = refl
    length_mapped (y ∷ ys) = omega (arith, length_mapped ys)

-- ---- the number of a place

-- each place of a region in use has a number of its own
abbrev own_number_of_each_place : List Region → ℕ → ℕ
own_number_of_each_place regions x = option_map_or (λ (at : ObjRef). 256 * at.region + at.cell) (ref_of regions x) 0

cell_below : (p : RegionPool) (at : ObjRef) → IsRegionPool p → IsSome (object_at p.regions at) → (at.cell < 256) × (at.region < length p.regions)
cell_below p at legal there = go (used_at p.regions at.region) refl (used_by_object p.regions at there)
  where
    go : (v : Option UsedRegion) → used_at p.regions at.region ≡ v → IsSome v → (at.cell < 256) × (at.region < length p.regions)
    go None e h = cc
    go (Some u) e h =
        let table : IsCellTable u = legal.tables at.region u e in
        let cell : at.cell < length u.cells = in_use_within u.cells at.cell (rw (object_here p.regions at u e) at there) in
        (omega (arith, cell, table.cells, (listed_size_bounds u.cell_size table.size).1), slice_get_within p.regions at.region _ (used_region_stands_in_list p.regions at.region u e))

-- where an id that names an object is placed
pub place_of_named_object : (regions : List Region) (x : ℕ) → IsSome (object_of regions x) → (at : ObjRef) × (ref_of regions x ≡ Some at) × IsSome (object_at regions at)
place_of_named_object regions x named = go (object_of regions x) refl named
  where
    go : (o : Option Object) → object_of regions x ≡ o → IsSome o → (at : ObjRef) × (ref_of regions x ≡ Some at) × IsSome (object_at regions at)
    go None e h = cc
    go (Some o) e h = let p = place_of_object_of_id regions x o e in (p.0, p.1, rw p.2 refl)

place_number_by_ref : (regions : List Region) (x : ℕ) (at : ObjRef) → ref_of regions x ≡ Some at → own_number_of_each_place regions x ≡ 256 * at.region + at.cell
place_number_by_ref regions x at e = ap (λ (r : Option ObjRef). option_map_or (λ (at : ObjRef). 256 * at.region + at.cell) r 0) e

place_number_below_cell_count : (p : RegionPool) (x : ℕ) → IsRegionPool p → IsSome (object_of p.regions x) → own_number_of_each_place p.regions x < 256 * length p.regions
place_number_below_cell_count p x legal named =
    let q : (at : ObjRef) × (ref_of p.regions x ≡ Some at) × IsSome (object_at p.regions at) = place_of_named_object p.regions x named in
    let b : (q.0.cell < 256) × (q.0.region < length p.regions) = cell_below p q.0 legal q.2 in
    omega (arith, place_number_by_ref p.regions x q.0 q.1, b.0, b.1)

place_numbers_tell_ids_apart : (p : RegionPool) (x y : ℕ) → IsRegionPool p → IsSome (object_of p.regions x) → IsSome (object_of p.regions y) → own_number_of_each_place p.regions x ≡ own_number_of_each_place p.regions y → x ≡ y
place_numbers_tell_ids_apart p x y legal first second e =
    let q : (at : ObjRef) × (ref_of p.regions x ≡ Some at) × IsSome (object_at p.regions at) = place_of_named_object p.regions x first in
    let r : (at : ObjRef) × (ref_of p.regions y ≡ Some at) × IsSome (object_at p.regions at) = place_of_named_object p.regions y second in
    let b : (q.0.cell < 256) × (q.0.region < length p.regions) = cell_below p q.0 legal q.2 in
    let d : (r.0.cell < 256) × (r.0.region < length p.regions) = cell_below p r.0 legal r.2 in
    let region : q.0.region ≡ r.0.region = omega (arith, e, place_number_by_ref p.regions x q.0 q.1, place_number_by_ref p.regions y r.0 r.1, b.0, d.0) in
    let cell : q.0.cell ≡ r.0.cell = omega (arith, e, place_number_by_ref p.regions x q.0 q.1, place_number_by_ref p.regions y r.0 r.1, b.0, d.0) in
    let same : q.0 ≡ r.0 = λ i. record { region = region i; cell = cell i } in
    ref_injective p.regions x y q.0 q.1 (r.1 ∙ ap Some (sym same))

-- distinct ids of objects are no more than cells
pub distinct_ids_fit_the_cells : (p : RegionPool) (xs : List ℕ) → IsRegionPool p → IsDistinct nat_eq xs → ((x : ℕ) → Contains xs x → IsSome (object_of p.regions x)) → length xs ≤ 256 * length p.regions
distinct_ids_fit_the_cells p xs legal distinct named = distinct_items_fit_their_numbers (own_number_of_each_place p.regions) (256 * length p.regions) xs (λ x c. place_number_below_cell_count p x legal (named x c)) (λ x y c d. place_numbers_tell_ids_apart p x y legal (named x c) (named y d)) distinct
