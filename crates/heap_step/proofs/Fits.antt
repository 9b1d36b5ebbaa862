-- What the state after an event has that its record needs.
use Rattle.std.proofs.Common.{Bool, List, None, Some, false, length, not, refl, true, ℕ, ◌<◌, ◌≡◌, ◌≤◌}
use Rattle.std.specs.Prelude.{slice_get}
use Rattle.heap_class.specs.declared.ObjRef.{ObjRef}
use Rattle.heap_region.specs.Legal.{MayRestore}
use Rattle.heap_region.specs.Live.{is_live}
use Rattle.heap_region.specs.Regions.{Object, UsedRegion, cell_object, object_at}
use Rattle.heap_mark.specs.MarkSteps.{finish_refusal, logged, snap_refusal}
use Rattle.heap_sweep.specs.Sweep.{dead_at, is_emptied, sweep_refusal}
use Rattle.heap_world.specs.Events.{after_finish, after_snap, after_sweep}
use Rattle.heap_world.specs.Legal.{IsLegal}
use Rattle.heap_world.specs.State.{HeapState, is_register, marking_of, pool_of}
use Rattle.heap_step.specs.declared.Undo.{Undo}

-- the object at the place has the slot
abbrev pub HasSlot : HeapState → ObjRef → ℕ → Type 0
HasSlot w at slot = (o : Object) × (object_at w.regions at ≡ Some o) × (slot < length o.words)

-- an object stands at the place, and the mutator has the register
abbrev pub IsHeld : HeapState → ObjRef → ℕ → ℕ → Type 0
IsHeld w at m r = ((o : Object) × (object_at w.regions at ≡ Some o)) × (is_register w m r ≡ true)

-- a snap of a legal heap that accepts it gave the state
abbrev pub IsSnapped : HeapState → Type 0
IsSnapped w = (before : HeapState) × IsLegal before × (snap_refusal (marking_of before) ≡ None) × (w ≡ after_snap before)

-- a finish of a legal heap that accepts it gave the state
abbrev pub IsFinished : HeapState → Type 0
IsFinished w = (before : HeapState) × IsLegal before × (finish_refusal (marking_of before) ≡ None) × (w ≡ after_finish before)

-- a sweep of a legal heap that accepts it gave the state: it left objects in the region, and took these out
abbrev pub IsSwept : ℕ → List (ℕ × Object) → HeapState → Type 0
IsSwept region dead w = (before : HeapState) × IsLegal before × (sweep_refusal region (pool_of before) ≡ None) × (is_emptied region (pool_of before) ≡ false) × (dead ≡ dead_at region (pool_of before)) × (w ≡ after_sweep region before)

-- one of the cells has an object
abbrev pub IsInhabited : UsedRegion → Type 0
IsInhabited u = (cell : ℕ) × (o : Object) × (slice_get u.cells cell ≡ Some (Some o))

-- none of the objects is live
abbrev pub IsLifeless : UsedRegion → Type 0
IsLifeless u = (cell : ℕ) → is_live (cell_object u cell) ≡ false

-- what the state has that the record needs
abbrev pub Fits : Undo → HeapState → Type 0
Fits (Undo.Put at slot old) w = HasSlot w at slot
Fits (Undo.Store at slot old logged) w = HasSlot w at slot × (logged ≡ true → 0 < length w.log)
Fits (Undo.Reg m r old) w = is_register w m r ≡ true
Fits (Undo.New at fresh m r old) w = IsHeld w at m r
Fits Undo.Class w = 0 < length w.classes
Fits Undo.Snap w = IsSnapped w
Fits (Undo.Mark parent pushed) w = pushed ≤ length w.gray
Fits (Undo.Drain pushed) w = (pushed ≤ length w.gray) × (0 < w.drained)
Fits (Undo.Finish log) w = IsFinished w
Fits (Undo.Sweep region dead) w = IsSwept region dead w
Fits (Undo.Reclaim region storage) w = MayRestore (pool_of w) region storage × IsInhabited storage × IsLifeless storage

pub true_if_not_is_false : (b : Bool) → not b ≡ false → b ≡ true
true_if_not_is_false true h = refl
true_if_not_is_false false h = cc
