-- The past to which the records lead back, and what makes the records right.
use Rattle.std.specs.Prelude.{◌≡◌, ℕ, ◌+◌, ◌≤◌, List, [], ◌∷◌, length, take}
use Rattle.circular_buffer.specs.Buffer.{Buffer, buffer}
use Rattle.heap_world.specs.Limits.{keep_limit, pin_limit}
use Rattle.heap_world.specs.State.{HeapState}
use Rattle.heap_world.specs.Legal.{IsLegal}
use Rattle.heap_step.specs.declared.Undo.{Undo}
use Rattle.heap_step.specs.Records.{undone}
use Rattle.heap_class.specs.declared.IdSize.{IdSize}
use Rattle.heap_trail.specs.Limits.{last_place}
use Rattle.heap_trail.specs.Laws.{AreSteps}
use Rattle.heap_trail.specs.Machine.{Machine}
use Rattle.heap_trail.specs.Limits.{last_pin}
use Rattle.heap_trail.specs.Pins.{Pins}
use Rattle.heap_trail.specs.declared.held.NumberedPin.{NumberedPin}
use Rattle.heap_trail.specs.OpenPins.{pins_of, AreHeld, EachMayKeep}

-- the states before this one, the newest first: each is the one after it, with its record undone
abbrev pub past_of : HeapState → List Undo → List HeapState
past_of w [] = []
past_of w (r ∷ rs) = let v = undone r w in v ∷ past_of v rs

-- the records, and the states to which they lead back, are those of the steps of one run
abbrev pub AreRecorded : HeapState → List Undo → Type 0
AreRecorded w records = AreSteps w (past_of w records) records

-- a ring with one more record in front, and without the oldest if it was full
abbrev pub with_record : Undo → Buffer Undo → Buffer Undo
with_record left ring = buffer (take ring.capacity (left ∷ ring.items)) ring.capacity

-- the step that left this record and led to this state is remembered: each pin keeps what the step overwrote, or is lost, and
-- the record is in the ring
pub record IsRemembered (left : Undo) (v : HeapState) (old new : List NumberedPin)
    (ring ring_after : Buffer Undo) : Type 0 where
  pub pins : EachMayKeep left v old new
  pub records : ring_after ≡ with_record left ring

-- what holds of a machine's fields: the ring has room for `keep` records
pub record IsRetaining (w : HeapState) (ring : Buffer Undo) (place keep : ℕ) : Type 0 where
  pub legal : IsLegal w
  pub recorded : AreRecorded w ring.items
  pub few : length ring.items ≤ keep
  pub room : ring.capacity ≡ keep
  pub within : (1 ≤ keep) × (keep ≤ keep_limit)
  pub placed : length ring.items ≤ place
  pub counted : place ≤ last_place

-- the machine that has this size of ids, state, ring, place and number of records to keep, and these pins
abbrev pub machine_with : IdSize → HeapState → Buffer Undo → ℕ → ℕ → Pins → Machine
machine_with ids w ring place keep pins =
    record {
      keep = keep;
      ids = ids;
      trail =
          record {
            place = place;
            current = w;
            past = past_of w ring.items;
            records = ring.items;
          };
      pins = pins;
    }

-- the machine whose pins are those of these slots, with this number for the next
abbrev pub machine_of : IdSize → HeapState → Buffer Undo → ℕ → ℕ → ℕ → List NumberedPin → Machine
machine_of ids w ring place keep next slots =
    machine_with ids w ring place keep (pins_of w next slots)

-- what holds of the pins: there are at most `pin_limit`, and their numbers are within the limit
pub record IsPinning (ids : IdSize) (w : HeapState) (ring : Buffer Undo) (place next : ℕ)
    (slots : List NumberedPin) : Type 0 where
  pub held : AreHeld ids (w ∷ past_of w ring.items) place next slots
  pub few : length slots ≤ pin_limit
  pub numbered : (1 ≤ next) × (next ≤ last_pin + 1)

-- what holds of a machine's fields; `room` is the number of pins for which there is room
abbrev pub IsWholeMachine : IdSize → HeapState → Buffer Undo → ℕ → ℕ → ℕ → List NumberedPin → ℕ
    → Type 0
IsWholeMachine ids w ring place keep next slots room =
    IsRetaining w ring place keep × IsPinning ids w ring place next slots
    × (w.limits.pins ≤ room)
