-- What is told of the regions of a state, and what a record tells of it.
use Rattle.std.specs.Prelude.{◌≡◌, ℕ, ◌+◌, ◌-◌, ◌≤◌, true, false, List, length, map, Option, Some, None, option_map, slice_index_or, slice_set, if◌then◌else◌}
use Rattle.heap_region.specs.Limits.{cell_limit}
use Rattle.heap_region.specs.Regions.{Region, UsedRegion, used_part}
use Rattle.heap_step.specs.declared.Undo.{Undo}
use Rattle.heap_step.specs.declared.Undo.TheVariants.{New, Finish, Sweep, Reclaim}
use Rattle.heap_questions.specs.declared.past.summaries.RegionSummary.{RegionSummary}
use Rattle.heap_questions.specs.PastTrails.{storage_cell_size}
use Rattle.heap_questions.specs.RegionCounts.{counts_of}

-- what is told of a region in use
abbrev pub summary_of : UsedRegion → RegionSummary
summary_of u = record { cell_size = u.cell_size; waits = u.pending; counts = counts_of u }

-- what is told of each region, in order of its number
abbrev pub summaries : List Region → List (Option RegionSummary)
summaries regions = map (λ x. option_map summary_of (used_part x)) regions

-- no region has more objects than cells
abbrev pub HaveFew : List (Option RegionSummary) → Type 0
HaveFew all =
    (r : ℕ) (s : RegionSummary) → slice_index_or all r None ≡ Some s
    → s.counts.live + s.counts.dead ≤ cell_limit

-- ---- what a record tells

-- a region before a live object was made in it
abbrev pub one_fewer : RegionSummary → RegionSummary
one_fewer s =
    record {
      cell_size = s.cell_size;
      waits = s.waits;
      counts = record { live = s.counts.live - 1; dead = s.counts.dead };
    }

-- a region before a cycle ended: each object was live
abbrev pub all_live : RegionSummary → RegionSummary
all_live s =
    record {
      cell_size = s.cell_size;
      waits = false;
      counts = record { live = s.counts.live + s.counts.dead; dead = 0 };
    }

-- a region before a sweep took its n dead objects out
abbrev pub with_dead_back : ℕ → RegionSummary → RegionSummary
with_dead_back n s =
    record { cell_size = s.cell_size; waits = true; counts = record { live = s.counts.live; dead = n } }

-- a region that a sweep took out whole, before it
abbrev pub taken_out : UsedRegion → RegionSummary
taken_out u = record { cell_size = storage_cell_size u; waits = true; counts = counts_of u }

-- with f of what is told of region r
abbrev pub with_summary : ℕ → (Option RegionSummary → Option RegionSummary)
    → List (Option RegionSummary)
    → List (Option RegionSummary)
with_summary r f all = slice_set all r (f (slice_index_or all r None))

-- what is told of each region before the step that left this record, from what is told after it
abbrev pub summaries_before : Undo → List (Option RegionSummary) → List (Option RegionSummary)
summaries_before (New at fresh m r old) all =
    with_summary at.region (λ s. if fresh then None else option_map one_fewer s) all
summaries_before (Finish log) all = map (option_map all_live) all
summaries_before (Sweep region dead) all =
    with_summary region (option_map (with_dead_back (length dead))) all
summaries_before (Reclaim region storage) all =
    with_summary region (λ s. Some (taken_out storage)) all
summaries_before left all = all
