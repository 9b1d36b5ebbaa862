-- A number for each region, in groups of 256 regions, of which each is made once one of its numbers is written.
use Rattle.std.specs.Prelude.{◌≡◌, ◌⊎◌, ◌+◌, ◌*◌, ◌/◌, ◌%◌, ◌≤◌, ℕ, zero, suc, List, length, map, slice_index_or}
use Rattle.std.specs.List.{range_with_len}
use Rattle.heap_region.specs.Limits.{region_limit}
use Rattle.heap_pins.specs.Slots.{count_used}

-- the k-th number of a group, which is 0 if the group isn't made, and else the group of index p among those made
unfoldable pub number_on : List ℕ → ℕ → ℕ → ℕ
number_on numbers zero k = 0
number_on numbers (suc p) k = slice_index_or numbers (256 * p + k) 0

-- the number of region r
abbrev pub region_number : List ℕ → List ℕ → ℕ → ℕ
region_number pages numbers r = number_on numbers (slice_index_or pages (r / 256) 0) (r % 256)

-- the numbers of the first `count` regions
unfoldable pub region_numbers : List ℕ → List ℕ → ℕ → List ℕ
region_numbers pages numbers count = map (region_number pages numbers) (range_with_len 0 count)

-- each group made has its own numbers, and there is room for those of all groups
pub record ArePages (pages numbers : List ℕ) (capacity : ℕ) : Type 0 where
  pub few : length pages ≤ region_limit
  pub room : 256 * length pages ≤ capacity
  pub count : length numbers ≡ 256 * count_used pages
  pub within : (p : ℕ) → 256 * slice_index_or pages p 0 ≤ length numbers
  pub apart : (p q : ℕ) → slice_index_or pages p 0 ≡ slice_index_or pages q 0
      → (slice_index_or pages q 0 ≡ 0) ⊎ (p ≡ q)
