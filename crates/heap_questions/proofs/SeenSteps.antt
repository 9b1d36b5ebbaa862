-- What a step did and wrote, as a pin shows it.
use Rattle.std.proofs.Common.{◌≡◌, ℕ, ◌+◌, ◌<◌, Bool, cond, List, [], length, Option, Some, None, refl, sym, ap, ◌∙◌, subst}
use Rattle.std.specs.Prelude.{◌==◌, slice_index_or}
use Rattle.std.specs.Option.{option_map_or}
use Rattle.std.proofs.lemmas.Bool.{eq-eqb}
use Rattle.heap_class.specs.declared.ObjKind.TheVariants.{Instance}
use Rattle.heap_class.specs.declared.ObjRef.{ObjRef}
use Rattle.heap_region.specs.Regions.{Object, id_of}
use Rattle.heap_world.specs.State.{HeapState, register_index}
use Rattle.heap_step.specs.declared.Undo.{Undo}
use Rattle.heap_step.specs.declared.Undo.TheVariants.{Put, Store, Reg, New}
use Rattle.heap_step.proofs.Steps.{reg_register}
use Rattle.heap_pins.specs.Pin.{PinContents}
use Rattle.heap_pins.proofs.Walkable.{register_within}
use Rattle.hprof_text.specs.Image.{DumpedObject}
use Rattle.heap_trail.specs.Trail.{Trail, state_ago}
use Rattle.heap_trail.proofs.RetainedRecords.{HasRecord}
use Rattle.heap_questions.specs.declared.past.events.PastEvent.{PastEvent}
use Rattle.heap_questions.specs.declared.past.events.PastEvent.TheVariants.{Register}
use Rattle.heap_questions.specs.Newest.{SeesStep, event_by, event_to, object_of_state, written_at}
use Rattle.heap_questions.specs.PastTrails.{IsShownBeside}
use Rattle.heap_questions.specs.SlotWrites.{seen_object}
use Rattle.heap_questions.proofs.FirstPlaces.{seen_as, sees_written_or_made, written_live}
use Rattle.heap_questions.proofs.WrittenSlots.{sees_written}

-- a record names the slot that it overwrote
names_its_slot : (at : ObjRef) (slot old : ℕ) → ◌≡◌ {A = Option (ObjRef × ℕ)} (cond (slot == slot) (Some (at, old)) None) (Some (at, old))
names_its_slot at slot old = ap (λ (b : Bool). cond b (Some (at, old)) None) (eq-eqb slot slot refl)

-- the pin shows what the step wrote
pub step_seen : (t : Trail) (n : ℕ) (left : Undo) (w : HeapState) (p : PinContents) → IsShownBeside w p (state_ago n t) → HasRecord t n left → SeesStep p w left
step_seen t n (Put at slot old) w p h c = sees_written t n slot (Put at slot old) w p h c (at, old) (names_its_slot at slot old)
step_seen t n (Store at slot old logged) w p h c = sees_written t n slot (Store at slot old logged) w p h c (at, old) (names_its_slot at slot old)
step_seen t n (Reg m r old) w p h c =
    subst (λ (rs : List ℕ). register_index m r < length rs) (sym h.0.registers)
    (register_within (state_ago n t) m r (reg_register c.0 (state_ago (n + 1) t) (state_ago n t) (Reg m r old) c.1 m r old refl))
step_seen t n (New at fresh m r old) w p h c = sees_written_or_made t n (New at fresh m r old) w p h c at refl
step_seen t n left w p h c = tt

-- the object that it wrote or made is shown as it is in the state after it
written_seen : (t : Trail) (n : ℕ) (left : Undo) (w : HeapState) (p : PinContents) (at : ObjRef) → IsShownBeside w p (state_ago n t) → HasRecord t n left → written_at left ≡ Some at → seen_object p w at ≡ object_of_state (state_ago n t) at
written_seen t n left w p at h c e =
    let u = state_ago n t in
    let o = written_live c.0 (state_ago (n + 1) t) u left at c.1 e in
    let none : DumpedObject = record { id = 0; kind = Instance 0; words = [] } in
    let show : Object → DumpedObject = λ o. record { id = id_of u.regions at; kind = o.kind; words = o.words } in
    seen_as u w p at o.0 h o.1 ∙ sym (ap (λ (x : Option Object). option_map_or show x none) o.1)

-- so what it did and wrote is told as it was
pub event_seen : (t : Trail) (n : ℕ) (left : Undo) (w : HeapState) (p : PinContents) → IsShownBeside w p (state_ago n t) → HasRecord t n left → event_by (seen_object p w) p.registers left ≡ event_to (state_ago n t) left
event_seen t n (Put at slot old) w p h c = ap (λ (o : DumpedObject). PastEvent.Put o.id slot old (slice_index_or o.words slot 0)) (written_seen t n (Put at slot old) w p at h c refl)
event_seen t n (Store at slot old logged) w p h c = ap (λ (o : DumpedObject). PastEvent.Store o.id slot old (slice_index_or o.words slot 0)) (written_seen t n (Store at slot old logged) w p at h c refl)
event_seen t n (Reg m r old) w p h c = ap (λ (rs : List ℕ). Register m r old (slice_index_or rs (register_index m r) 0)) h.0.registers
event_seen t n (New at fresh m r old) w p h c = ap (λ (o : DumpedObject). PastEvent.New o.id m r old o.kind) (written_seen t n (New at fresh m r old) w p at h c refl)
event_seen t n left w p h c = refl
