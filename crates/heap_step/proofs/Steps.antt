-- What the record of a step says of the state that the step gave.
use Rattle.std.proofs.Common.{◌≡◌, ℕ, List, Some, ◌-◌, ◌<◌, ◌≤◌, Bool, true, length, take, refl, sym, subst, ◌∙◌}
use Rattle.std.specs.Prelude.{IsSome, IfSome, slice_get, if◌then◌else◌}
use Rattle.heap_class.specs.declared.ObjRef.{ObjRef}
use Rattle.heap_region.specs.Legal.{MayRestore}
use Rattle.heap_region.specs.Regions.{Empty, Object, UsedRegion, object_at, with_word}
use Rattle.heap_region.specs.Pool.{unallocated, restored}
use Rattle.heap_region.proofs.Restores.{restorable_is_empty}
use Rattle.heap_mark.specs.MarkSteps.{unsnapped, unmarked, undrained, unfinished}
use Rattle.heap_sweep.specs.Sweep.{unswept}
use Rattle.heap_world.specs.State.{HeapState, pool_of, with_pool, marking_of, with_marking, with_register, is_register}
use Rattle.heap_world.specs.Legal.{IsLegal}
use Rattle.heap_world.specs.Events.{without_last}
use Rattle.heap_step.specs.declared.Event.{Event}
use Rattle.heap_step.specs.declared.Undo.{Undo}
use Rattle.heap_step.specs.Records.{undone, undo_record}
use Rattle.heap_step.specs.Laws.{IsStep}
use Rattle.heap_step.proofs.EventLaws.{each_event_is_sound, keeps_legal, undo_restores}
use Rattle.heap_step.proofs.Fits.{HasSlot, IsHeld, IsSnapped, IsFinished, IsSwept, IsInhabited, IsLifeless, Fits}

-- ---- what holds of the state that a step gave, where the record is `was`

record_of_step_fits : (e : Event) (before after : HeapState) (left was : Undo) → IsStep e before after left → left ≡ was → Fits was after
record_of_step_fits e before after left was s is = subst (λ u. Fits u after) (sym s.recorded ∙ is) (subst (Fits (undo_record e before)) (sym s.gave) ((each_event_is_sound e).fits before s.legal s.accepted))

record_of_step_leads_back : (e : Event) (before after : HeapState) (left was : Undo) → IsStep e before after left → left ≡ was → undone was after ≡ before
record_of_step_leads_back e before after left was s is = (λ i. undone ((sym is ∙ s.recorded) i) (s.gave i)) ∙ undo_restores e before s.legal s.accepted

state_before_step_is_legal : (e : Event) (before after : HeapState) (left was : Undo) → IsStep e before after left → left ≡ was → IsLegal (undone was after)
state_before_step_is_legal e before after left was s is = subst IsLegal (sym (record_of_step_leads_back e before after left was s is)) s.legal

-- ---- the record of a write

slot_belongs_to_an_object : (w : HeapState) (at : ObjRef) (slot : ℕ) → HasSlot w at slot → IsSome (object_at w.regions at)
slot_belongs_to_an_object w at slot h = subst (λ p. IsSome p) (sym h.1) refl

slot_lies_within_object : (w : HeapState) (at : ObjRef) (slot : ℕ) → HasSlot w at slot → IfSome (object_at w.regions at) (λ o. slot < length o.words)
slot_lies_within_object w at slot h = subst (λ p. IfSome p (λ o. slot < length o.words)) (sym h.1) h.2

pub put_record_names_an_object : (e : Event) (before after : HeapState) (left : Undo) → IsStep e before after left → (at : ObjRef) (slot old : ℕ) → left ≡ Undo.Put at slot old → IsSome (object_at after.regions at)
put_record_names_an_object e before after left s at slot old is = slot_belongs_to_an_object after at slot (record_of_step_fits e before after left (Undo.Put at slot old) s is)

pub put_record_slot_within_object : (e : Event) (before after : HeapState) (left : Undo) → IsStep e before after left → (at : ObjRef) (slot old : ℕ) → left ≡ Undo.Put at slot old → IfSome (object_at after.regions at) (λ o. slot < length o.words)
put_record_slot_within_object e before after left s at slot old is = slot_lies_within_object after at slot (record_of_step_fits e before after left (Undo.Put at slot old) s is)

pub put_undone_is_legal : (e : Event) (before after : HeapState) (left : Undo) → IsStep e before after left → (at : ObjRef) (slot old : ℕ) → left ≡ Undo.Put at slot old → IsLegal (record after { regions = with_word at slot old after.regions })
unfolding undone
put_undone_is_legal e before after left s at slot old is = state_before_step_is_legal e before after left (Undo.Put at slot old) s is

pub put_undone_is_before : (e : Event) (before after : HeapState) (left : Undo) → IsStep e before after left → (at : ObjRef) (slot old : ℕ) → left ≡ Undo.Put at slot old → record after { regions = with_word at slot old after.regions } ≡ before
unfolding undone
put_undone_is_before e before after left s at slot old is = record_of_step_leads_back e before after left (Undo.Put at slot old) s is

-- ---- the record of a store

-- the state with the slot's old word, and without the log's last entry where that was logged
abbrev pub unstored : HeapState → ObjRef → ℕ → ℕ → Bool → HeapState
unstored w at slot old logged = record w { regions = with_word at slot old w.regions; log = if logged then without_last w.log else w.log }

pub store_there : (e : Event) (before after : HeapState) (left : Undo) → IsStep e before after left → (at : ObjRef) (slot old : ℕ) (logged : Bool) → left ≡ Undo.Store at slot old logged → IsSome (object_at after.regions at)
store_there e before after left s at slot old logged is = slot_belongs_to_an_object after at slot (record_of_step_fits e before after left (Undo.Store at slot old logged) s is).0

pub store_within : (e : Event) (before after : HeapState) (left : Undo) → IsStep e before after left → (at : ObjRef) (slot old : ℕ) (logged : Bool) → left ≡ Undo.Store at slot old logged → IfSome (object_at after.regions at) (λ o. slot < length o.words)
store_within e before after left s at slot old logged is = slot_lies_within_object after at slot (record_of_step_fits e before after left (Undo.Store at slot old logged) s is).0

pub store_entry : (e : Event) (before after : HeapState) (left : Undo) → IsStep e before after left → (at : ObjRef) (slot old : ℕ) (logged : Bool) → left ≡ Undo.Store at slot old logged → logged ≡ true → 0 < length after.log
store_entry e before after left s at slot old logged is = (record_of_step_fits e before after left (Undo.Store at slot old logged) s is).1

pub store_undone_is_legal : (e : Event) (before after : HeapState) (left : Undo) → IsStep e before after left → (at : ObjRef) (slot old : ℕ) (logged : Bool) → left ≡ Undo.Store at slot old logged → IsLegal (unstored after at slot old logged)
unfolding undone
store_undone_is_legal e before after left s at slot old logged is = state_before_step_is_legal e before after left (Undo.Store at slot old logged) s is

pub store_is : (e : Event) (before after : HeapState) (left : Undo) → IsStep e before after left → (at : ObjRef) (slot old : ℕ) (logged : Bool) → left ≡ Undo.Store at slot old logged → unstored after at slot old logged ≡ before
unfolding undone
store_is e before after left s at slot old logged is = record_of_step_leads_back e before after left (Undo.Store at slot old logged) s is

-- ---- the record of a register

pub reg_register : (e : Event) (before after : HeapState) (left : Undo) → IsStep e before after left → (m r old : ℕ) → left ≡ Undo.Reg m r old → is_register after m r ≡ true
reg_register e before after left s m r old is = record_of_step_fits e before after left (Undo.Reg m r old) s is

pub reg_legal : (e : Event) (before after : HeapState) (left : Undo) → IsStep e before after left → (m r old : ℕ) → left ≡ Undo.Reg m r old → IsLegal (with_register m r old after)
unfolding undone
reg_legal e before after left s m r old is = state_before_step_is_legal e before after left (Undo.Reg m r old) s is

pub reg_is : (e : Event) (before after : HeapState) (left : Undo) → IsStep e before after left → (m r old : ℕ) → left ≡ Undo.Reg m r old → with_register m r old after ≡ before
unfolding undone
reg_is e before after left s m r old is = record_of_step_leads_back e before after left (Undo.Reg m r old) s is

-- ---- the record of a new object

pub new_record_names_an_object : (e : Event) (before after : HeapState) (left : Undo) → IsStep e before after left → (at : ObjRef) (fresh : Bool) (m r old : ℕ) → left ≡ Undo.New at fresh m r old → IsSome (object_at after.regions at)
new_record_names_an_object e before after left s at fresh m r old is = let h : IsHeld after at m r = record_of_step_fits e before after left (Undo.New at fresh m r old) s is in subst (λ p. IsSome p) (sym h.0.1) refl

pub new_register : (e : Event) (before after : HeapState) (left : Undo) → IsStep e before after left → (at : ObjRef) (fresh : Bool) (m r old : ℕ) → left ≡ Undo.New at fresh m r old → is_register after m r ≡ true
new_register e before after left s at fresh m r old is = let h : IsHeld after at m r = record_of_step_fits e before after left (Undo.New at fresh m r old) s is in h.1

pub new_undone_is_legal : (e : Event) (before after : HeapState) (left : Undo) → IsStep e before after left → (at : ObjRef) (fresh : Bool) (m r old : ℕ) → left ≡ Undo.New at fresh m r old → IsLegal (with_register m r old (with_pool (unallocated at fresh (pool_of after)) after))
unfolding undone
new_undone_is_legal e before after left s at fresh m r old is = state_before_step_is_legal e before after left (Undo.New at fresh m r old) s is

pub new_undone_is_before : (e : Event) (before after : HeapState) (left : Undo) → IsStep e before after left → (at : ObjRef) (fresh : Bool) (m r old : ℕ) → left ≡ Undo.New at fresh m r old → with_register m r old (with_pool (unallocated at fresh (pool_of after)) after) ≡ before
unfolding undone
new_undone_is_before e before after left s at fresh m r old is = record_of_step_leads_back e before after left (Undo.New at fresh m r old) s is

-- ---- the record of a class

pub class_record_has_a_class : (e : Event) (before after : HeapState) (left : Undo) → IsStep e before after left → left ≡ Undo.Class → 0 < length after.classes
class_record_has_a_class e before after left s is = record_of_step_fits e before after left Undo.Class s is

pub class_undone_is_legal : (e : Event) (before after : HeapState) (left : Undo) → IsStep e before after left → left ≡ Undo.Class → IsLegal (record after { classes = take (length after.classes - 1) after.classes })
unfolding undone
class_undone_is_legal e before after left s is = state_before_step_is_legal e before after left Undo.Class s is

pub class_is : (e : Event) (before after : HeapState) (left : Undo) → IsStep e before after left → left ≡ Undo.Class → record after { classes = take (length after.classes - 1) after.classes } ≡ before
unfolding undone
class_is e before after left s is = record_of_step_leads_back e before after left Undo.Class s is

-- ---- the marker's records

pub snap_before : (e : Event) (before after : HeapState) (left : Undo) → IsStep e before after left → left ≡ Undo.Snap → IsSnapped after
snap_before e before after left s is = record_of_step_fits e before after left Undo.Snap s is

pub snap_is : (e : Event) (before after : HeapState) (left : Undo) → IsStep e before after left → left ≡ Undo.Snap → with_marking (unsnapped (marking_of after)) after ≡ before
unfolding undone
snap_is e before after left s is = record_of_step_leads_back e before after left Undo.Snap s is

pub mark_record_pushes_within_gray : (e : Event) (before after : HeapState) (left : Undo) → IsStep e before after left → (parent pushed : ℕ) → left ≡ Undo.Mark parent pushed → pushed ≤ length after.gray
mark_record_pushes_within_gray e before after left s parent pushed is = record_of_step_fits e before after left (Undo.Mark parent pushed) s is

pub mark_undone_is_legal : (e : Event) (before after : HeapState) (left : Undo) → IsStep e before after left → (parent pushed : ℕ) → left ≡ Undo.Mark parent pushed → IsLegal (with_marking (unmarked parent pushed (marking_of after)) after)
unfolding undone
mark_undone_is_legal e before after left s parent pushed is = state_before_step_is_legal e before after left (Undo.Mark parent pushed) s is

pub mark_is : (e : Event) (before after : HeapState) (left : Undo) → IsStep e before after left → (parent pushed : ℕ) → left ≡ Undo.Mark parent pushed → with_marking (unmarked parent pushed (marking_of after)) after ≡ before
unfolding undone
mark_is e before after left s parent pushed is = record_of_step_leads_back e before after left (Undo.Mark parent pushed) s is

pub drain_within : (e : Event) (before after : HeapState) (left : Undo) → IsStep e before after left → (pushed : ℕ) → left ≡ Undo.Drain pushed → pushed ≤ length after.gray
drain_within e before after left s pushed is = (record_of_step_fits e before after left (Undo.Drain pushed) s is).0

pub drain_begun : (e : Event) (before after : HeapState) (left : Undo) → IsStep e before after left → (pushed : ℕ) → left ≡ Undo.Drain pushed → 0 < after.drained
drain_begun e before after left s pushed is = (record_of_step_fits e before after left (Undo.Drain pushed) s is).1

pub drain_undone_is_legal : (e : Event) (before after : HeapState) (left : Undo) → IsStep e before after left → (pushed : ℕ) → left ≡ Undo.Drain pushed → IsLegal (with_marking (undrained pushed (marking_of after)) after)
unfolding undone
drain_undone_is_legal e before after left s pushed is = state_before_step_is_legal e before after left (Undo.Drain pushed) s is

pub drain_is : (e : Event) (before after : HeapState) (left : Undo) → IsStep e before after left → (pushed : ℕ) → left ≡ Undo.Drain pushed → with_marking (undrained pushed (marking_of after)) after ≡ before
unfolding undone
drain_is e before after left s pushed is = record_of_step_leads_back e before after left (Undo.Drain pushed) s is

-- ---- the record of a finish

pub finish_before : (e : Event) (before after : HeapState) (left : Undo) → IsStep e before after left → (log : List ℕ) → left ≡ Undo.Finish log → IsFinished after
finish_before e before after left s log is = record_of_step_fits e before after left (Undo.Finish log) s is

pub finish_undone_is_legal : (e : Event) (before after : HeapState) (left : Undo) → IsStep e before after left → (log : List ℕ) → left ≡ Undo.Finish log → IsLegal (with_marking (unfinished log (marking_of after)) after)
unfolding undone
finish_undone_is_legal e before after left s log is = state_before_step_is_legal e before after left (Undo.Finish log) s is

pub finish_is : (e : Event) (before after : HeapState) (left : Undo) → IsStep e before after left → (log : List ℕ) → left ≡ Undo.Finish log → with_marking (unfinished log (marking_of after)) after ≡ before
unfolding undone
finish_is e before after left s log is = record_of_step_leads_back e before after left (Undo.Finish log) s is

-- ---- the records of a sweep

pub sweep_before : (e : Event) (before after : HeapState) (left : Undo) → IsStep e before after left → (region : ℕ) (dead : List (ℕ × Object)) → left ≡ Undo.Sweep region dead → IsSwept region dead after
sweep_before e before after left s region dead is = record_of_step_fits e before after left (Undo.Sweep region dead) s is

pub sweep_is : (e : Event) (before after : HeapState) (left : Undo) → IsStep e before after left → (region : ℕ) (dead : List (ℕ × Object)) → left ≡ Undo.Sweep region dead → with_pool (unswept region dead (pool_of after)) after ≡ before
unfolding undone
sweep_is e before after left s region dead is = record_of_step_leads_back e before after left (Undo.Sweep region dead) s is

pub reclaim_ready : (e : Event) (before after : HeapState) (left : Undo) → IsStep e before after left → (region : ℕ) (storage : UsedRegion) → left ≡ Undo.Reclaim region storage → MayRestore (pool_of after) region storage
reclaim_ready e before after left s region storage is = (record_of_step_fits e before after left (Undo.Reclaim region storage) s is).0

-- the region is empty after the step
pub reclaim_empty : (e : Event) (before after : HeapState) (left : Undo) → IsStep e before after left → (region : ℕ) (storage : UsedRegion) → left ≡ Undo.Reclaim region storage → slice_get after.regions region ≡ Some Empty
reclaim_empty e before after left s region storage is =
    let legal : IsLegal after = subst IsLegal (sym s.gave) (keeps_legal e before s.legal s.accepted) in
    restorable_is_empty (pool_of after) region storage legal.regions (reclaim_ready e before after left s region storage is)

pub reclaim_inhabited : (e : Event) (before after : HeapState) (left : Undo) → IsStep e before after left → (region : ℕ) (storage : UsedRegion) → left ≡ Undo.Reclaim region storage → IsInhabited storage
reclaim_inhabited e before after left s region storage is = (record_of_step_fits e before after left (Undo.Reclaim region storage) s is).1

pub reclaim_lifeless : (e : Event) (before after : HeapState) (left : Undo) → IsStep e before after left → (region : ℕ) (storage : UsedRegion) → left ≡ Undo.Reclaim region storage → IsLifeless storage
reclaim_lifeless e before after left s region storage is = (record_of_step_fits e before after left (Undo.Reclaim region storage) s is).2

pub reclaim_legal : (e : Event) (before after : HeapState) (left : Undo) → IsStep e before after left → (region : ℕ) (storage : UsedRegion) → left ≡ Undo.Reclaim region storage → IsLegal (with_pool (restored region storage (pool_of after)) after)
unfolding undone
reclaim_legal e before after left s region storage is = state_before_step_is_legal e before after left (Undo.Reclaim region storage) s is

pub reclaim_is : (e : Event) (before after : HeapState) (left : Undo) → IsStep e before after left → (region : ℕ) (storage : UsedRegion) → left ≡ Undo.Reclaim region storage → with_pool (restored region storage (pool_of after)) after ≡ before
unfolding undone
reclaim_is e before after left s region storage is = record_of_step_leads_back e before after left (Undo.Reclaim region storage) s is

pub ruleset undone_steps = (put_record_names_an_object, put_undone_is_legal, put_undone_is_before, store_there, store_is, reg_register, reg_legal, reg_is, new_record_names_an_object, new_register, new_undone_is_before, class_record_has_a_class, class_undone_is_legal, class_is, snap_is, mark_record_pushes_within_gray, mark_is, drain_within, drain_is, finish_is, sweep_is, reclaim_ready, reclaim_is)
