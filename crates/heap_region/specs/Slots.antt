-- For proofs: regions whose storages were turned as far as the heap was when they were last changed.
use Rattle.std.specs.Prelude.{◌≡◌, ℕ, Bool, false, not, List, Option, Some, None, is_some, count_by}
use Rattle.std.specs.List.{sum_by}
use Rattle.heap_region.specs.Regions.{Object, UsedRegion}
use Rattle.heap_region.specs.Live.{cells_of, is_dead}
use Rattle.heap_region.specs.Quarters.{is_zero, since}
use Rattle.heap_region.specs.Turns.{is_unmarked, turned_by, unmarked_in}
use Rattle.heap_region.specs.declared.counts.Counts.{Counts}
use Rattle.heap_region.specs.declared.quarter.Quarter.{Quarter}
use Rattle.heap_region.specs.declared.slots.Slot.{Slot}
use Rattle.heap_region.specs.declared.slots.Slot.TheVariants.{Empty, Used}

-- what a place of the table shows after these turns of the heap
abbrev pub shown_slot : Quarter → Slot → Option UsedRegion
shown_slot turns Empty = None
shown_slot turns (Used seen u) = Some (turned_by (since turns seen) u)

-- the storage of a region in use, as it was turned when it was last changed
abbrev pub kept_slot : Slot → Option UsedRegion
kept_slot Empty = None
kept_slot (Used seen u) = Some u

-- whether the storage of a region was turned less far than the heap
abbrev pub late_slot : Quarter → Slot → Bool
late_slot turns Empty = false
late_slot turns (Used seen u) = not (is_zero (since turns seen))

-- a place of the table with f of the storage in it
abbrev pub in_slot : (UsedRegion → UsedRegion) → Slot → Slot
in_slot f Empty = Empty
in_slot f (Used seen u) = Used seen (f u)

-- ---- counts

-- the number of objects of a region
abbrev pub objects_in_slot : Option UsedRegion → ℕ
objects_in_slot x = count_by is_some (cells_of x)

-- the number of objects of a region that aren't live
abbrev pub dead_in_slot : Option UsedRegion → ℕ
dead_in_slot x = count_by is_dead (cells_of x)

-- these are the numbers of the objects in these cells, of those that aren't marked, and of those that aren't live
pub record AreCounted (cells : List (Option Object)) (c : Counts) : Type 0 where
  pub objects : c.objects ≡ count_by is_some cells
  pub unmarked : c.unmarked ≡ count_by is_unmarked cells
  pub dead : c.dead ≡ count_by is_dead cells

-- these are the numbers of the objects of all these regions, of those that aren't marked, and of those that aren't live
pub record AreTotals (slots : List (Option UsedRegion)) (c : Counts) : Type 0 where
  pub objects : c.objects ≡ sum_by objects_in_slot slots
  pub unmarked : c.unmarked ≡ sum_by unmarked_in slots
  pub dead : c.dead ≡ sum_by dead_in_slot slots
