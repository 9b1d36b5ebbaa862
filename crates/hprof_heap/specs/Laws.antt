-- What the session of a dump makes of a new heap.
use Rattle.std.specs.Prelude.{◌≡◌, ℕ, ◌<◌, ◌≤◌, List, ◌++◌, map, slice_index}
use Rattle.heap_class.specs.declared.ClassLimits.{ClassLimits}
use Rattle.heap_class.specs.Limits.{array_limit}
use Rattle.heap_region.specs.Limits.{region_limit}
use Rattle.heap_world.specs.declared.Limits.{Limits}
use Rattle.heap_world.specs.Limits.{AreLimits, mutator_limit}
use Rattle.heap_world.specs.State.{HeapState, opening_state}
use Rattle.heap_step.specs.declared.Event.{Event}
use Rattle.hprof_session.specs.Walks.{ItemTold, Left}
use Rattle.hprof_plan.specs.Accepted.{class_event}
use Rattle.hprof_plan.specs.Finds.{Finds}
use Rattle.hprof_plan.specs.Plans.{IsPlan}
use Rattle.hprof_plan.specs.declared.dump.Found.{Found}
use Rattle.hprof_plan.specs.declared.planning.Plan.{Plan}
use Rattle.hprof_lines.specs.Objects.{ObjectsTold}
use Rattle.hprof_lines.specs.Passes.{IsWhole}
use Rattle.hprof_lines.specs.Sessions.{all_events, told_objects}
use Rattle.hprof_heap.specs.TakenEvents.{AreTaken, AreTakenUnlessFull, state_after_all}
use Rattle.hprof_heap.specs.DumpHeaps.{IsHeapOfDump}

-- a dump: all items that the walk over it comes to, what is found in them, and a plan of its classes, for a heap with these limits
-- whose arrays have at most `most` elements
pub record PlannedDump : Type 0 where
  pub walk : Left
  pub items : List ItemTold
  pub whole : IsWhole walk items
  pub found : Found
  pub finds : Finds walk found
  pub limits : ClassLimits
  pub most : ℕ
  pub plan : Plan
  pub planned : IsPlan limits most found plan

-- its objects
abbrev pub objects_in : PlannedDump → ObjectsTold
objects_in d = told_objects d.plan d.walk.ids d.found.objects.keys d.items

-- the events of its session: those that define the classes, and then those that make the objects and keep the roots
abbrev pub session_events : PlannedDump → List Event
session_events d =
    map class_event d.plan.classes ++ all_events (objects_in d) d.items d.found.roots.items

-- the dump has bytes
pub record HasBytes (d : PlannedDump) : Type 0 where
  pub segment : (i : ℕ) → slice_index d.walk.segment i < 256
  pub rest : (i : ℕ) → slice_index d.walk.rest i < 256

-- a new heap: its limits, and how many regions and mutators it has
pub record NewHeap : Type 0 where
  pub limits : Limits
  pub limits_are : AreLimits limits
  pub regions : ℕ
  pub regions_within : (1 ≤ regions) × (regions ≤ region_limit)
  pub mutators : ℕ
  pub mutators_within : (1 ≤ mutators) × (mutators ≤ mutator_limit)

abbrev pub opened : NewHeap → HeapState
opened h = opening_state h.limits h.regions h.mutators

-- if the new heap accepts the events of the session, one after another, they make the heap of the dump
abbrev pub MakesHeap : PlannedDump → NewHeap → Type 0
MakesHeap d h =
    AreTaken (session_events d) (opened h)
    → IsHeapOfDump (objects_in d) d.items d.found.roots.items
    (state_after_all (session_events d) (opened h))

-- if the new heap allows the classes and the arrays of the plan, it accepts the events of the session, one after another, or all up
-- to one that it refuses since it is full
abbrev pub IsTakenUnlessFull : PlannedDump → NewHeap → Type 0
IsTakenUnlessFull d h =
    HasBytes d → h.limits.classes ≡ d.limits → d.most ≤ h.limits.elements
    → array_limit ≤ h.limits.elements → AreTakenUnlessFull (session_events d) (opened h)
