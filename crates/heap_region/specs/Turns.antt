-- Turns: the end of a cycle, and its undoing, as one change of every object of a region that looks at none.
use Rattle.std.specs.Prelude.{ℕ, Bool, false, not, List, map, Option, Some, None, option_map, count_by}
use Rattle.std.specs.List.{sum_by}
use Rattle.heap_region.specs.Regions.{Object, UsedRegion, Region, used_part}
use Rattle.heap_region.specs.Live.{cells_of}
use Rattle.heap_region.specs.declared.quarter.Quarter.{Quarter}
use Rattle.heap_region.specs.declared.quarter.Quarter.TheVariants.{Zero, One, Two, Three}

-- an object after a turn: live if it was marked, and marked if it wasn't live
abbrev pub turned_object : Object → Object
turned_object o = record o { live = o.mark; mark = not o.live }

-- an object before a turn
abbrev pub turned_back_object : Object → Object
turned_back_object o = record o { live = not o.mark; mark = o.live }

-- a region after a turn: it waits to be swept if it didn't
unfoldable pub turned_region : UsedRegion → UsedRegion
turned_region u =
    record u { cells = map (option_map turned_object) u.cells; pending = not u.pending }

-- a region before a turn
unfoldable pub turned_back_region : UsedRegion → UsedRegion
turned_back_region u =
    record u { cells = map (option_map turned_back_object) u.cells; pending = not u.pending }

-- a region after a number of turns, modulo 4
unfoldable pub turned_by : Quarter → UsedRegion → UsedRegion
turned_by Zero u = u
turned_by One u = turned_region u
turned_by Two u = turned_region (turned_region u)
turned_by Three u = turned_back_region u

-- an object after a number of turns, modulo 4
abbrev pub object_turned_by : Quarter → Object → Object
object_turned_by Zero o = o
object_turned_by One o = turned_object o
object_turned_by Two o = turned_object (turned_object o)
object_turned_by Three o = turned_back_object o

-- whether there is an object that isn't marked
abbrev pub is_unmarked : Option Object → Bool
is_unmarked None = false
is_unmarked (Some o) = not o.mark

-- the number of objects of a region that aren't marked
abbrev pub unmarked_in : Option UsedRegion → ℕ
unmarked_in x = count_by is_unmarked (cells_of x)

-- the number of objects of all regions that aren't marked
unfoldable pub unmarked_total : List Region → ℕ
unmarked_total regions = sum_by (λ x. unmarked_in (used_part x)) regions
