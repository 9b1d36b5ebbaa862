-- How many objects aren't marked, and aren't live after a turn.
use Rattle.std.proofs.Common.{◌≡◌, ℕ, ◌+◌, Bool, not, cond, List, [], ◌∷◌, map, Option, Some, None, refl, sym, ap, ap₂, ◌∙◌, arith}
use Rattle.std.specs.Prelude.{count_by, option_map, flat_map}
use Rattle.std.specs.List.{filter_map, enumerate_from}
use Rattle.std.proofs.lemmas.List.Sums.{sum_by-append, sum_by-cons}
use Rattle.heap_class.specs.declared.ObjRef.{ObjRef}
use Rattle.heap_region.specs.Regions.{Object, Region, Empty, InUse, used_part, objects_of_region, objects_in, in_used}
use Rattle.heap_region.specs.Turns.{turned_object, turned_region, is_unmarked, unmarked_in, unmarked_total}
use Rattle.heap_mark.specs.MarkSteps.{each_region, dead_count}

abbrev unmarked_count_of_cell : Option Object → ℕ
unmarked_count_of_cell x = cond (is_unmarked x) 1 0

-- ---- those that aren't live after a turn

abbrev is_dead : ObjRef × Object → Bool
is_dead p = not p.1.live

abbrev place_with_its_object : ℕ → ℕ × Option Object → Option (ObjRef × Object)
place_with_its_object r c = option_map (λ o. (record { region = r; cell = c.0 }, o)) c.1

cells_dead : (r n : ℕ) (cells : List (Option Object)) → count_by is_dead (filter_map (place_with_its_object r) (enumerate_from n (map (option_map turned_object) cells))) ≡ count_by is_unmarked cells
cells_dead r n [] = refl
cells_dead r n (None ∷ os) =
    let zero : count_by is_unmarked os ≡ 0 + count_by is_unmarked os = omega arith in
    cells_dead r (n + 1) os ∙ (zero ∙ sym (sum_by-cons unmarked_count_of_cell None os))
cells_dead r n (Some o ∷ os) =
    sum_by-cons (λ (p : ObjRef × Object). cond (is_dead p) 1 0) (record { region = r; cell = n }, turned_object o) (filter_map (place_with_its_object r) (enumerate_from (n + 1) (map (option_map turned_object) os)))
    ∙ (ap (λ (k : ℕ). cond (not o.mark) 1 0 + k) (cells_dead r (n + 1) os) ∙ sym (sum_by-cons unmarked_count_of_cell (Some o) os))

region_dead : (r : ℕ) (x : Region) → count_by is_dead (objects_of_region (r, in_used turned_region x)) ≡ unmarked_in (used_part x)
unfolding objects_of_region in_used turned_region
region_dead r Empty = refl
region_dead r (InUse u) = cells_dead r 0 u.cells

regions_dead : (r : ℕ) (regions : List Region) → count_by is_dead (flat_map objects_of_region (enumerate_from r (map (in_used turned_region) regions))) ≡ unmarked_total regions
unfolding unmarked_total
regions_dead r [] = refl
regions_dead r (x ∷ xs) =
    sum_by-append (λ (p : ObjRef × Object). cond (is_dead p) 1 0) (objects_of_region (r, in_used turned_region x)) (flat_map objects_of_region (enumerate_from (r + 1) (map (in_used turned_region) xs)))
    ∙ (ap₂ (λ (j k : ℕ). j + k) (region_dead r x) (regions_dead (r + 1) xs) ∙ sym (sum_by-cons (λ y. unmarked_in (used_part y)) x xs))

pub dead_are : (regions : List Region) → dead_count (each_region turned_region regions) ≡ unmarked_total regions
unfolding dead_count objects_in each_region
dead_are regions = regions_dead 0 regions
