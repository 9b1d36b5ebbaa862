-- The laws of every step and every pin.
use Rattle.std.specs.Prelude.{◌≡◌, ◌≢◌, ℕ, ◌+◌, List, ◌∷◌, length, take, None, Some}
use Rattle.heap_world.specs.State.{HeapState}
use Rattle.heap_world.specs.Legal.{IsLegal}
use Rattle.heap_step.specs.declared.Event.{Event}
use Rattle.heap_step.specs.declared.Undo.{Undo}
use Rattle.heap_step.specs.Apply.{refusal_of, state_after}
use Rattle.heap_step.specs.Laws.{IsStep}
use Rattle.heap_step.specs.Records.{undo_record, undone}
use Rattle.heap_region.specs.RegionCopies.{region_frozen}
use Rattle.heap_pins.specs.Covers.{Covers}
use Rattle.heap_pins.specs.Images.{image_of}
use Rattle.heap_pins.specs.KeptCopies.{touched, kept}
use Rattle.heap_pins.specs.Pin.{PinContents, pin_image}
use Rattle.heap_pins.specs.Shows.{Holds}
use Rattle.heap_pins.specs.Walk.{TellsBefore}

-- a region that the record doesn't name still has all that it had before
abbrev pub KeepsOthers : Undo → HeapState → Type 0
KeepsOthers left v =
    (r : ℕ) → touched left ≢ Some r
    → Covers (region_frozen (undone left v).regions r) (region_frozen v.regions r)

-- the classes before a step are the first of those after it
abbrev pub RecordExtends : Undo → HeapState → Type 0
RecordExtends left v = take (length (undone left v).classes) v.classes ≡ (undone left v).classes

-- an accepted event leaves the kind and the words of each object, but for one region that a write or a sweep touches
abbrev pub EventKeeps : Event → HeapState → Type 0
EventKeeps e w =
    IsLegal w → refusal_of e w ≡ None → (r : ℕ) → touched (undo_record e w) ≢ Some r
    → Covers (region_frozen w.regions r) (region_frozen (state_after e w).regions r)

-- an accepted event leaves the classes, to which it may add one
abbrev pub EventExtends : Event → HeapState → Type 0
EventExtends e w =
    IsLegal w → refusal_of e w ≡ None
    → take (length w.classes) (state_after e w).classes ≡ w.classes

-- the record of each step from one state to another tells of the first
abbrev pub IsRecordTold : Undo → HeapState → HeapState → Type 0
IsRecordTold left before x = (e : Event) → IsStep e before x left → TellsBefore left before x

-- a pin that keeps what a step overwrote holds its state after the step
abbrev pub HoldsOn : Undo → HeapState → PinContents → HeapState → Type 0
HoldsOn left v p u =
    (n k : ℕ) (past : List HeapState) → Holds p u n (undone left v ∷ past)
    → Holds (kept left v p) u (n + 1) (v ∷ take k (undone left v ∷ past))

-- a pin that holds a state shows its image
abbrev pub HoldsImage : HeapState → PinContents → HeapState → Type 0
HoldsImage w p u =
    (n : ℕ) (past : List HeapState) → Holds p u n (w ∷ past) → pin_image p w ≡ image_of u

-- a pin that holds a state still holds it after a rewind to a place that isn't before the pin's
abbrev pub HoldsBack : PinContents → HeapState → Type 0
HoldsBack p u =
    (n : ℕ) (w v : HeapState) (past : List HeapState) → Holds p u (n + 1) (w ∷ v ∷ past)
    → Holds p u n (v ∷ past)
