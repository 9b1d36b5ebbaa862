-- Walking back along the records: which objects a cell had, and whether they were live.
use Rattle.std.specs.Prelude.{◌≡◌, ◌≢◌, ℕ, ◌+◌, ◌-◌, ◌*◌, ◌<◌, Bool, true, false, ◌&&◌, ◌==◌, List, [], ◌∷◌, length, Option, Some, None, option_map, slice_index_or, slice_set, if◌then◌else◌}
use Rattle.heap_class.specs.declared.ObjRef.{ObjRef}
use Rattle.heap_region.specs.Regions.{Object, cell_object, object_at}
use Rattle.heap_region.specs.RegionCopies.{Frozen, frozen, region_frozen}
use Rattle.heap_world.specs.State.{HeapState}
use Rattle.heap_pins.specs.Covers.{Covers}
use Rattle.heap_pins.specs.KeptCopies.{touched, patched}
use Rattle.heap_pins.specs.Pin.{PinContents, region_seen, state_seen}
pub use Rattle.heap_pins.specs.Pin.{cell_state}
use Rattle.heap_step.specs.declared.Undo.{Undo}
use Rattle.heap_step.specs.declared.Undo.TheVariants.{Reg, New, Class, Finish, Sweep, Reclaim}

-- whether two places are the same
abbrev pub same_place : ObjRef → ObjRef → Bool
same_place a b = (a.region == b.region) && (a.cell == b.cell)

-- the state of a cell by the last of the dead objects in it, or its old state if there is none
unfoldable pub dead_state : List (ℕ × Object) → ℕ → ℕ → ℕ
dead_state [] cell old = old
dead_state (d ∷ dead) cell old =
    dead_state dead cell (if d.0 == cell then cell_state (Some d.1) else old)

-- the state of a cell before the step, from its state after it
abbrev pub state_before : Undo → ℕ → ObjRef → ℕ
state_before (New at true m r old) now b = if b.region == at.region then 0 else now
state_before (New at false m r old) now b = if same_place b at then 0 else now
state_before (Finish log) now b = if now == 0 then 0 else 1
state_before (Sweep region dead) now b =
    if b.region == region then dead_state dead b.cell now else now
state_before (Reclaim region storage) now b =
    if b.region == region then cell_state (cell_object storage b.cell) else now
state_before left now b = now

-- the state of each cell before the step, from the states of all cells after it
unfoldable pub states_before : Undo → (ObjRef → ℕ) → ObjRef → ℕ
states_before left f b = state_before left (f b) b

-- the registers before the step, from those after it
unfoldable pub registers_before : Undo → List ℕ → List ℕ
registers_before (Reg m r old) rs = slice_set rs (8 * m + r) old
registers_before (New at fresh m r old) rs = slice_set rs (8 * m + r) old
registers_before left rs = rs

-- the number of classes before the step, from that after it
unfoldable pub classes_before : Undo → ℕ → ℕ
classes_before Class n = n - 1
classes_before left n = n

-- the copy of the touched region before the step, from one after it: the record's own, or that one with the record's old
-- contents put back
unfoldable pub walked_copy : Undo → Option Frozen → Option Frozen
walked_copy (Reclaim region storage) g = Some (frozen storage)
walked_copy left g = option_map (patched left) g

-- the record tells the registers, the number of classes and the state of each cell before its step; a copy that covers the
-- touched region after the step covers it before the step once it is patched; and each other region covers its old self
pub record TellsBefore (left : Undo) (before x : HeapState) : Type 0 where
  pub registers : before.registers ≡ registers_before left x.registers
  pub classes : length before.classes ≡ classes_before left (length x.classes)
  pub states : (at : ObjRef)
      → cell_state (object_at before.regions at)
      ≡ states_before left (λ b. cell_state (object_at x.regions b)) at
  pub others : (r : ℕ) → touched left ≢ Some r
      → Covers (region_frozen before.regions r) (region_frozen x.regions r)
  pub touched_region : (r : ℕ) (g : Option Frozen) → touched left ≡ Some r
      → Covers (region_frozen x.regions r) g
      → Covers (region_frozen before.regions r) (walked_copy left g)

-- beside the current state w, and each other state beside which p shows a cell alike, q shows the cell as it was before the step
abbrev pub ShowsBack : Undo → HeapState → PinContents → PinContents → Type 0
ShowsBack left w p q =
    (x : HeapState) (at : ObjRef) → at.cell < 256
    → state_seen p x.regions at ≡ state_seen p w.regions at
    → state_seen q x.regions at ≡ states_before left (state_seen p w.regions) at

-- q is p one record further back, beside the current state w: the touched region has a copy, or its copy is patched; the others
-- stay
pub record WalksFor (left : Undo) (w : HeapState) (p q : PinContents) : Type 0 where
  pub others : (r : ℕ) → touched left ≢ Some r
      → slice_index_or q.copies r None ≡ slice_index_or p.copies r None
  pub patched_region : (r : ℕ) → touched left ≡ Some r
      → slice_index_or q.copies r None ≡ walked_copy left (region_seen p w.regions r)
