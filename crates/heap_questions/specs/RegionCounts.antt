-- How many objects a region has.
use Rattle.std.specs.Prelude.{ℕ, List, count_by, sum_by}
use Rattle.heap_region.specs.Live.{cells_of, is_dead, is_live}
use Rattle.heap_region.specs.Regions.{Region, UsedRegion, used_part}
use Rattle.heap_questions.specs.declared.region_counts.RegionCounts.{RegionCounts}

-- how many objects of the region are live, and how many aren't
abbrev pub counts_of : UsedRegion → RegionCounts
counts_of u = record { live = count_by is_live u.cells; dead = count_by is_dead u.cells }

-- how many objects of a heap aren't live
abbrev pub dead_objects : List Region → ℕ
dead_objects regions = sum_by (λ x. count_by is_dead (cells_of (used_part x))) regions
