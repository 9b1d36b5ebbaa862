use Rattle.std.proofs.Common.{◌≡◌, ◌≤◌, List, ℕ, length, refl, replicate, arith, rules}
use Rattle.heap_region.specs.Limits.{region_limit}
use Rattle.heap_region.specs.Table.{AreLowest}
use Rattle.heap_region.proofs.ChangedClasses.{opened_table_has_lowest_regions, length_of_zero_classes}
use Rattle.heap_region.proofs.region_classes.RegionClasses.new.Goals as goal

-- a table of no free cells
table_of_zeros_is_lowest : (t l : List ℕ) (count : ℕ) → count ≤ region_limit → t ≡ replicate count 0 → l ≡ replicate 256 count → (length t ≤ region_limit) × AreLowest t l
table_of_zeros_is_lowest t l count few none lowest = rw (none, lowest) (omega (arith, few, length_of_zero_classes count), opened_table_has_lowest_regions count)

pub invariant_of-result : goal.invariant_of-result
invariant_of-result c = table_of_zeros_is_lowest _ _ c.args.count c.requires (search rules) refl
