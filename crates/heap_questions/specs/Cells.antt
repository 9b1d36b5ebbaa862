-- What the cells of a heap hold.
use Rattle.std.specs.Prelude.{◌≡◌, ℕ, ◌+◌, ◌*◌, Bool, false, not, ◌==◌, List, filter, length, slice_index_or, Some, is_some, if◌then◌else◌}
use Rattle.std.specs.Option.{option_map_or}
use Rattle.std.specs.List.{list_any, range_with_len}
use Rattle.heap_class.specs.declared.ObjRef.{ObjRef}
use Rattle.heap_region.specs.Limits.{cell_limit}
use Rattle.heap_region.specs.Regions.{Object, Region, id_of, object_at, used_at}
use Rattle.heap_world.specs.State.{HeapState}
use Rattle.heap_questions.specs.declared.cells.CellState.{CellState}
use Rattle.heap_questions.specs.declared.cells.CellState.TheVariants.{Free, Live, Marked, Gray, Dead}

-- the numbers of the regions in use, in rising order
abbrev pub used_regions : List Region → List ℕ
used_regions regions =
    filter (λ r. is_some (used_at regions r)) (range_with_len 0 (length regions))

-- the id of the cell is on the gray stack
unfoldable pub is_gray : HeapState → ObjRef → Bool
is_gray w at = list_any (λ x. x == id_of w.regions at) w.gray

-- what a cell with this object holds, which may be gray
abbrev pub object_state : Bool → Object → CellState
object_state gray o =
    if not o.live then Dead else (if gray then Gray else (if o.mark then Marked else Live))

-- what a cell holds
unfoldable pub cell_state : HeapState → ObjRef → CellState
cell_state w at =
    option_map_or (λ o. object_state (is_gray w at) o) (object_at w.regions at) Free

-- ---- marks

-- the number of a cell among those of all regions, if each region has as many as a region may have
abbrev pub cell_number : ObjRef → ℕ
cell_number at = cell_limit * at.region + at.cell

-- the marks tell of each cell with an object whether its id is one of these
abbrev pub AreMarksOf : List Region → List ℕ → List Bool → Type 0
AreMarksOf regions ids marks =
    (at : ObjRef) (o : Object) → object_at regions at ≡ Some o
    → slice_index_or marks (cell_number at) false ≡ list_any (λ x. x == id_of regions at) ids
