-- Copies of regions: what a record puts back into one, and which one pins share.
use Rattle.std.specs.Prelude.{◌≡◌, ◌<◌, ℕ, length, All, Option, Some}
use Rattle.heap_region.specs.RegionCopies.{Frozen, frozen_words}
use Rattle.heap_world.specs.State.{HeapState}
use Rattle.heap_step.specs.declared.Undo.{Undo}
use Rattle.heap_step.specs.declared.Undo.TheVariants.{Put, Store, Sweep}
use Rattle.heap_pins.specs.KeptCopies.{copy_for, touched}
use Rattle.heap_pins.specs.Shows.{AreFit}

-- the copy has the slot or the cells of what the record puts back
abbrev pub IsPatchable : Undo → Frozen → Type 0
IsPatchable (Put at slot old) f = slot < length (frozen_words f at.cell)
IsPatchable (Store at slot old logged) f = slot < length (frozen_words f at.cell)
IsPatchable (Sweep region dead) f = AreFit f.cell_size (length f.cells) dead
IsPatchable left f = Unit {0}

-- the cells of the dead objects that the record puts back are below the limit of a region
abbrev pub HasLowCells : Undo → Type 0
HasLowCells (Sweep region dead) = All (λ d. d.0 < 256) dead
HasLowCells left = Unit {0}

-- what pins share, if they share anything, is the copy of the region that the step touched, as it was before the step that left
-- this record and the state v
abbrev pub SharesBefore : Undo → HeapState → Option Frozen → Type 0
SharesBefore left v shared =
    (r : ℕ) (f : Frozen) → touched left ≡ Some r → shared ≡ Some f → copy_for left v r ≡ Some f
