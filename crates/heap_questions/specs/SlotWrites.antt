-- The writes of one slot of all objects of a class.
use Rattle.std.specs.Prelude.{◌≡◌, ◌≢◌, ℕ, zero, suc, ◌+◌, ◌-◌, ◌<◌, ◌==◌, ◌&&◌, not, true, List, [], ◌∷◌, length, Option, Some, None, option_and_then, slice_index_or, unwrap_or, IsSome, if◌then◌else◌}
use Rattle.heap_class.specs.declared.ObjKind.TheVariants.{Instance}
use Rattle.heap_class.specs.declared.ObjRef.{ObjRef}
use Rattle.heap_region.specs.Regions.{Object, id_of, object_at}
use Rattle.heap_world.specs.State.{HeapState}
use Rattle.heap_step.specs.declared.Undo.{Undo}
use Rattle.heap_step.specs.declared.Undo.TheVariants.{Put, Store}
use Rattle.hprof_text.specs.Image.{DumpedObject}
use Rattle.heap_pins.specs.Pin.{PinContents, object_seen}
use Rattle.heap_pins.specs.Shows.{IsSeen}
use Rattle.heap_trail.specs.Trail.{Trail, state_ago}
use Rattle.heap_questions.specs.declared.past.writes.SlotWrite.{SlotWrite}
use Rattle.heap_questions.specs.Changes.{slot_word}
use Rattle.heap_questions.specs.Wanted.{is_of_class}

-- an object of class k stands at a place
abbrev pub HasClass : HeapState → ObjRef → ℕ → Type 0
HasClass w at k =
    (o : Object) × (object_at w.regions at ≡ Some o) × (is_of_class o.kind k ≡ true)

-- the step to the state of n steps ago changed slot s of the object of class k at a place: these are the place of the step, the
-- id of the object, and the words before and after it
pub record IsSlotWrite (t : Trail) (k s n : ℕ) (at : ObjRef) (w : SlotWrite) : Type 0 where
  pub place : w.place ≡ t.place - n
  pub id : w.id ≡ id_of (state_ago n t).regions at
  pub class : HasClass (state_ago n t) at k
  pub old : slot_word (state_ago (n + 1) t) at s ≡ Some w.old
  pub new : slot_word (state_ago n t) at s ≡ Some w.new
  pub differ : w.old ≢ w.new

-- that step made these writes, one or none, and no others
abbrev pub AreWritesAgo : Trail → ℕ → ℕ → ℕ → Option SlotWrite → Type 0
AreWritesAgo t k s n None = (at : ObjRef) (w : SlotWrite) → ¬ IsSlotWrite t k s n at w
AreWritesAgo t k s n (Some x) =
    ((at : ObjRef) × IsSlotWrite t k s n at x)
    × ((at : ObjRef) (w : SlotWrite) → IsSlotWrite t k s n at w → w ≡ x)

-- a write, if there is one, before others
abbrev pub before_others : Option SlotWrite → List SlotWrite → List SlotWrite
before_others None ws = ws
before_others (Some w) ws = w ∷ ws

-- the last n steps made these writes, the oldest first
abbrev pub AreLastWrites : Trail → ℕ → ℕ → ℕ → List SlotWrite → Type 0
AreLastWrites t k s zero writes = writes ≡ []
AreLastWrites t k s (suc n) writes =
    (first : Option SlotWrite) × (later : List SlotWrite) × AreWritesAgo t k s n first
    × AreLastWrites t k s n later × (writes ≡ before_others first later)

-- ---- what a record tells, and a pin that shows the state after its step

-- the place of the object of which a step with this record wrote slot s, and the old word
abbrev pub overwritten : Undo → ℕ → Option (ObjRef × ℕ)
overwritten (Put at slot old) s = if slot == s then Some (at, old) else None
overwritten (Store at slot old logged) s = if slot == s then Some (at, old) else None
overwritten left s = None

-- the write of slot s of an object, which held `old` before the step to a place, if the object is one of class k and the word
-- differs
abbrev pub changing_write : ℕ → ℕ → ℕ → ℕ → DumpedObject → Option SlotWrite
changing_write k s place old o =
    let new = slice_index_or o.words s 0 in
    if is_of_class o.kind k && not (old == new)
    then Some (record { place = place; id = o.id; old = old; new = new }) else None

-- the object at a place, as a pin shows it
abbrev pub seen_object : PinContents → HeapState → ObjRef → DumpedObject
seen_object p w at =
    unwrap_or (object_seen p w.regions at) (record { id = 0; kind = Instance 0; words = [] })

-- the write of the object that the step with this record wrote, as a pin shows it after the step
abbrev pub write_by : PinContents → HeapState → Undo → ℕ → ℕ → ℕ → Option SlotWrite
write_by p w left k s place =
    option_and_then (λ a. changing_write k s place a.1 (seen_object p w a.0)) (overwritten left s)

-- the pin shows an object at a place
abbrev pub SeesObject : PinContents → HeapState → ObjRef → Type 0
SeesObject p w at = IsSeen p w.regions at × IsSome (object_seen p w.regions at)

-- the object has slot s
abbrev pub SeesSlotOf : PinContents → HeapState → ObjRef → ℕ → Type 0
SeesSlotOf p w at s = SeesObject p w at × (s < length (seen_object p w at).words)

-- it shows the object of which the step with this record wrote slot s, if there is one
abbrev pub SeesOverwritten : PinContents → HeapState → Undo → ℕ → Type 0
SeesOverwritten p w left s =
    (a : ObjRef × ℕ) → overwritten left s ≡ Some a → SeesSlotOf p w a.0 s
