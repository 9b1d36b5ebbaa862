use Rattle.std.proofs.Common.{◌≡◌, vec_capacity, ◌⊎◌, ℕ, ◌+◌, ◌<◌, ◌≤◌, length, List, inl, sym, subst, arith}
use Rattle.std.proofs.lemmas.Result.{err_from_is_err_and}
use Rattle.circular_buffer.specs.Buffer.{Buffer}
use Rattle.heap_class.specs.declared.Refusal.TheVariants.{NoMemory, ChronicleFull}
use Rattle.heap_world.specs.State.{HeapState}
use Rattle.heap_world.specs.declared.Limits.{Limits}
use Rattle.heap_step.specs.declared.Event.TheVariants.{Finish, Sweep}
use Rattle.heap_step.specs.declared.Undo.{Undo}
use Rattle.heap_step.specs.Records.{undone}
use Rattle.heap_trail.specs.declared.Action.TheVariants.{Step}
use Rattle.heap_trail.specs.declared.Reply.TheVariants.{Refused}
use Rattle.heap_trail.specs.declared.held.NumberedPin.{NumberedPin}
use Rattle.heap_trail.specs.Limits.{last_place}
use Rattle.heap_trail.specs.Machine.{Machine, Denied, MayStand, acted}
use Rattle.heap_trail.specs.Laws.{SparesReached, FindsSnapshot}
use Rattle.heap_trail.specs.OpenPins.{pins_of, EachSized}
use Rattle.heap_trail.specs.Records.{past_of, IsWholeMachine, machine_of, machine_with, with_record}
use Rattle.heap_trail.proofs.RecordedPast.{limits_stay}
use Rattle.heap_trail.proofs.MachineSteps.{accepted_event_from_its_parts, accepted_event_leads_back, kept_after_step, step_at_last_place_refused, step_refused_by_its_event}
use Rattle.heap_trail.proofs.PinnedSteps.{MayAnswer, pin_list_after_slice, pinning_after, step_pinned}
use Rattle.heap_trail.proofs.EachPin.{pins_sized_after_step}
use Rattle.heap_trail.proofs.ReachedObjects.{sweep_spares_reached_objects, finish_lives, finish_finds}
use Rattle.heap_trail.proofs.Machine.step_sort.Goals as goal

pub returns-then-self-ge-LAST_PLACE-clause-refused : goal.returns-then-self-ge-LAST_PLACE-clause-refused
returns-then-self-ge-LAST_PLACE-clause-refused g c =
    inl (subst (λ (m : Machine). acted m (Step (g.E.ApplyEvent.event c.args.event.now)) ≡ (m, Refused ChronicleFull)) c.self.view_is
    (step_at_last_place_refused c.self.inside.ids (g.E.ApplyEvent.event c.args.event.now) c.self.inside.world c.self.inside.records c.self.inside.place c.self.inside.keep (pins_of c.self.inside.world c.self.inside.next c.self.inside.pins.items) c.if-self-ge-LAST_PLACE.true))

pub returns-in_err-answer-clause-refused : goal.returns-in_err-answer-clause-refused
returns-in_err-answer-clause-refused g c =
    let p = err_from_is_err_and c.from_residual.result c.from_residual.ensures.1 in
    let under : c.self.inside.place < last_place = c.if-self-ge-LAST_PLACE.false in
    rw (p.1, p.2)
    (subst (λ (m : Machine). (acted m (Step (g.E.ApplyEvent.event c.args.event.now)) ≡ (machine_of c.self.inside.ids c.apply_sort.new.world c.self.inside.records c.self.inside.place c.self.inside.keep c.self.inside.next c.self.inside.pins.items, Refused c.in_err-answer.field-0.0)) ⊎ (MayStand m (Step (g.E.ApplyEvent.event c.args.event.now), Denied) × (c.in_err-answer.field-0.0 ≡ NoMemory))) c.self.view_is
    (subst (λ (w : HeapState). (acted (machine_of c.self.inside.ids c.self.inside.world c.self.inside.records c.self.inside.place c.self.inside.keep c.self.inside.next c.self.inside.pins.items) (Step (g.E.ApplyEvent.event c.args.event.now)) ≡ (machine_with c.self.inside.ids c.apply_sort.new.world c.self.inside.records c.self.inside.place c.self.inside.keep (pins_of w c.self.inside.next c.self.inside.pins.items), Refused c.in_err-answer.field-0.0)) ⊎ (MayStand (machine_of c.self.inside.ids c.self.inside.world c.self.inside.records c.self.inside.place c.self.inside.keep c.self.inside.next c.self.inside.pins.items) (Step (g.E.ApplyEvent.event c.args.event.now), Denied) × (c.in_err-answer.field-0.0 ≡ NoMemory))) (sym c.in_err-answer.ensures.effect.unchanged)
    (step_refused_by_its_event c.self.inside.ids (g.E.ApplyEvent.event c.args.event.now) c.self.inside.world c.apply_sort.new.world c.self.inside.records c.self.inside.place c.self.inside.keep (pins_of c.self.inside.world c.self.inside.next c.self.inside.pins.items) c.in_err-answer.field-0.0 under c.in_err-answer.ensures.effect.unchanged c.in_err-answer.ensures.refused)))

pub remember-requires-clause-sized : goal.remember-requires-clause-sized
remember-requires-clause-sized g c =
    let h = c.in_ok-answer.ensures in
    let a = accepted_event_from_its_parts (g.E.ApplyEvent.event c.args.event.now) c.self.inside.world c.apply_sort.new.world c.in_ok-answer.left h.effect.answered h.effect.state h.effect.recorded h.legal (c.undo_restores.ensures (g.E.ApplyEvent.event c.args.event.now) c.self.inside.world) in
    let back : undone c.in_ok-answer.left c.apply_sort.new.world ≡ c.self.inside.world = accepted_event_leads_back (g.E.ApplyEvent.event c.args.event.now) c.self.inside.world c.apply_sort.new.world c.in_ok-answer.left c.self.invariant.0.legal a in
    subst (λ (ss : List NumberedPin). EachSized (length c.apply_sort.new.world.regions) ss) (sym c.deref_mut.ensures.value)
    (pins_sized_after_step c.self.inside.ids c.in_ok-answer.left c.apply_sort.new.world c.self.inside.world (past_of c.self.inside.world c.self.inside.records.items) c.self.inside.place c.self.inside.next c.self.inside.pins.items back c.self.invariant.1.held)

pub invariant_of-self-2 : goal.invariant_of-self-2
invariant_of-self-2 g c =
    let h = c.in_ok-answer.ensures in
    let a = accepted_event_from_its_parts (g.E.ApplyEvent.event c.args.event.now) c.self.inside.world c.apply_sort.new.world c.in_ok-answer.left h.effect.answered h.effect.state h.effect.recorded h.legal (c.undo_restores.ensures (g.E.ApplyEvent.event c.args.event.now) c.self.inside.world) in
    let back : undone c.in_ok-answer.left c.apply_sort.new.world ≡ c.self.inside.world = accepted_event_leads_back (g.E.ApplyEvent.event c.args.event.now) c.self.inside.world c.apply_sort.new.world c.in_ok-answer.left c.self.invariant.0.legal a in
    let pins = pin_list_after_slice c.in_ok-answer.left c.apply_sort.new.world c.self.inside.pins.items _ c.remember.new.pins c.self.inside.pins.len c.deref_mut.ensures.value c.remember.ensures.pins (omega (arith, c.self.inside.pins.ok.0)) in
    rw pins.1
    (subst (λ (r : Buffer Undo). IsWholeMachine c.self.inside.ids c.apply_sort.new.world r (c.self.inside.place + 1) c.self.inside.keep c.self.inside.next c.remember.new.pins (vec_capacity c.self.inside.pins)) (sym c.remember.ensures.records) (
      kept_after_step (g.E.ApplyEvent.event c.args.event.now) c.self.inside.world c.apply_sort.new.world c.in_ok-answer.left c.self.inside.records c.self.inside.place c.self.inside.keep c.self.invariant.0 a c.if-self-ge-LAST_PLACE.false,
      pinning_after c.self.inside.ids (g.E.ApplyEvent.event c.args.event.now) c.self.inside.world c.apply_sort.new.world c.in_ok-answer.left c.self.inside.records c.self.inside.place c.self.inside.keep c.self.inside.next c.self.inside.pins.items c.remember.new.pins c.self.invariant.0 c.self.invariant.1 a pins.0,
      subst (λ (l : Limits). l.pins ≤ vec_capacity c.self.inside.pins) (limits_stay c.in_ok-answer.left c.self.inside.world c.apply_sort.new.world back) c.self.invariant.2,
    ))

pub returns-clause-done : goal.returns-clause-done
returns-clause-done g c =
    let h = c.in_ok-answer.ensures in
    let a = accepted_event_from_its_parts (g.E.ApplyEvent.event c.args.event.now) c.self.inside.world c.apply_sort.new.world c.in_ok-answer.left h.effect.answered h.effect.state h.effect.recorded h.legal (c.undo_restores.ensures (g.E.ApplyEvent.event c.args.event.now) c.self.inside.world) in
    let pins = pin_list_after_slice c.in_ok-answer.left c.apply_sort.new.world c.self.inside.pins.items _ c.remember.new.pins c.self.inside.pins.len c.deref_mut.ensures.value c.remember.ensures.pins (omega (arith, c.self.inside.pins.ok.0)) in
    subst (λ (ts : List NumberedPin). MayAnswer c.args.self.now (g.E.ApplyEvent.event c.args.event.now) (machine_of c.self.inside.ids c.apply_sort.new.world c.remember.new.records (c.self.inside.place + 1) c.self.inside.keep c.self.inside.next ts) c.in_ok-answer.answer) (sym pins.1)
    (subst (λ (r : Buffer Undo). MayAnswer c.args.self.now (g.E.ApplyEvent.event c.args.event.now) (machine_of c.self.inside.ids c.apply_sort.new.world r (c.self.inside.place + 1) c.self.inside.keep c.self.inside.next c.remember.new.pins) c.in_ok-answer.answer) (sym c.remember.ensures.records)
    (subst (λ (m : Machine). MayAnswer m (g.E.ApplyEvent.event c.args.event.now) (machine_of c.self.inside.ids c.apply_sort.new.world (with_record c.in_ok-answer.left c.self.inside.records) (c.self.inside.place + 1) c.self.inside.keep c.self.inside.next c.remember.new.pins) c.in_ok-answer.answer) c.self.view_is
    (step_pinned c.self.inside.ids (g.E.ApplyEvent.event c.args.event.now) c.self.inside.world c.apply_sort.new.world c.in_ok-answer.left c.self.inside.records c.self.inside.place c.self.inside.keep c.self.inside.next c.self.inside.pins.items c.remember.new.pins c.in_ok-answer.answer c.self.invariant.0 c.self.invariant.1 a c.if-self-ge-LAST_PLACE.false h.done pins.0)))

pub returns-clause-spares : goal.returns-clause-spares
returns-clause-spares g c =
    subst (λ (m : Machine). (region : ℕ) → (g.E.ApplyEvent.event c.args.event.now) ≡ Sweep region → SparesReached m.trail.current c.apply_sort.new.world) c.self.view_is
    (sweep_spares_reached_objects c.self.inside.world c.apply_sort.new.world (g.E.ApplyEvent.event c.args.event.now) c.self.invariant.0.legal (c.in_ok-answer.ensures.effect.answered, c.in_ok-answer.ensures.effect.state))

pub returns-clause-live : goal.returns-clause-live
returns-clause-live g c = finish_lives c.self.inside.world c.apply_sort.new.world (g.E.ApplyEvent.event c.args.event.now) c.self.invariant.0.legal (c.in_ok-answer.ensures.effect.answered, c.in_ok-answer.ensures.effect.state)

pub returns-clause-finds : goal.returns-clause-finds
returns-clause-finds g c =
    subst (λ (m : Machine). (g.E.ApplyEvent.event c.args.event.now) ≡ Finish → FindsSnapshot m.trail.past c.apply_sort.new.world) c.self.view_is
    (finish_finds c.self.inside.world c.apply_sort.new.world (g.E.ApplyEvent.event c.args.event.now) c.self.inside.records c.self.inside.place c.self.inside.keep c.self.invariant.0 (c.in_ok-answer.ensures.effect.answered, c.in_ok-answer.ensures.effect.state))
