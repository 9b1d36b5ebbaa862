-- The newest retained steps, and the objects that they wrote or created.
use Rattle.std.specs.Prelude.{ℕ, ◌-◌, ◌<◌, List, [], drop, length, map, zip, Option, Some, None, slice_index_or}
use Rattle.std.specs.List.{range_with_len}
use Rattle.std.specs.Option.{option_map_or}
use Rattle.heap_class.specs.declared.ObjKind.TheVariants.{Instance}
use Rattle.heap_class.specs.declared.ObjRef.{ObjRef}
use Rattle.heap_region.specs.Regions.{id_of, object_at}
use Rattle.heap_world.specs.State.{HeapState, register_index}
use Rattle.heap_step.specs.declared.Undo.{Undo}
use Rattle.heap_step.specs.declared.Undo.TheVariants.{Put, Store, Reg, New, Class, Snap, Mark, Drain, Finish, Sweep, Reclaim}
use Rattle.heap_pins.specs.Pin.{PinContents}
use Rattle.hprof_text.specs.Image.{DumpedObject}
use Rattle.heap_trail.specs.Trail.{Trail, state_ago}
use Rattle.heap_questions.specs.declared.past.events.PastEvent.{PastEvent}
use Rattle.heap_questions.specs.declared.past.events.PastEvent.TheVariants.{Register}
use Rattle.heap_questions.specs.declared.past.steps.PastStep.{PastStep}
use Rattle.heap_questions.specs.SlotWrites.{SeesObject, SeesSlotOf}

-- the place of the object that a step with this record wrote or created, if it did
abbrev pub written_at : Undo → Option ObjRef
written_at (Put at slot old) = Some at
written_at (Store at slot old logged) = Some at
written_at (New at fresh m r old) = Some at
written_at left = None

-- what a step with this record did and wrote, if f gives the objects after it by their places, and rs are the registers then
abbrev pub event_by : (ObjRef → DumpedObject) → List ℕ → Undo → PastEvent
event_by f rs (Put at slot old) =
    PastEvent.Put (f at).id slot old (slice_index_or (f at).words slot 0)
event_by f rs (Store at slot old logged) =
    PastEvent.Store (f at).id slot old (slice_index_or (f at).words slot 0)
event_by f rs (Reg m r old) = Register m r old (slice_index_or rs (register_index m r) 0)
event_by f rs (New at fresh m r old) = PastEvent.New (f at).id m r old (f at).kind
event_by f rs Class = PastEvent.Class
event_by f rs Snap = PastEvent.Snap
event_by f rs (Mark parent pushed) = PastEvent.Mark parent pushed
event_by f rs (Drain pushed) = PastEvent.Drain pushed
event_by f rs (Finish log) = PastEvent.Finish (length log)
event_by f rs (Sweep region dead) = PastEvent.Sweep region (length dead)
event_by f rs (Reclaim region storage) = PastEvent.Reclaim region

-- the object at a place, as a dump shows it; one without an id if there is none
abbrev pub object_of_state : HeapState → ObjRef → DumpedObject
object_of_state w at =
    option_map_or (λ o. record { id = id_of w.regions at; kind = o.kind; words = o.words })
    (object_at w.regions at) (record { id = 0; kind = Instance 0; words = [] })

-- what a step to the state w did and wrote, which left this record
abbrev pub event_to : HeapState → Undo → PastEvent
event_to w left = event_by (object_of_state w) w.registers left

-- the step to the state of n steps ago, which left this record: the place that it led to, and what it did and wrote
abbrev pub past_step : Trail → ℕ → Undo → PastStep
past_step t n left = record { place = t.place - n; event = event_to (state_ago n t) left }

-- the newest `count` of the retained steps that led to the state of `ago` steps ago, or all if there are fewer, the newest first
unfoldable pub steps_back : Trail → ℕ → ℕ → List PastStep
steps_back t ago count =
    map (λ p. past_step t p.0 p.1) (zip (range_with_len ago count) (drop ago t.records))

-- ---- a pin that shows the state after a step

-- it shows what the step with this record wrote: an object with the slot, a register, or a new object
abbrev pub SeesStep : PinContents → HeapState → Undo → Type 0
SeesStep p w (Put at slot old) = SeesSlotOf p w at slot
SeesStep p w (Store at slot old logged) = SeesSlotOf p w at slot
SeesStep p w (Reg m r old) = register_index m r < length p.registers
SeesStep p w (New at fresh m r old) = SeesObject p w at
SeesStep p w left = Unit {0}
