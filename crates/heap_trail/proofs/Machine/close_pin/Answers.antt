use Rattle.std.proofs.Common.{◌≡◌, ◌≤◌, List, sym, ap, subst, ◌∙◌}
use Rattle.heap_class.specs.declared.Refusal.TheVariants.{NoPin}
use Rattle.heap_trail.specs.declared.Action.TheVariants.{ClosePin}
use Rattle.heap_trail.specs.declared.Reply.TheVariants.{Closed, Refused}
use Rattle.heap_trail.specs.declared.held.NumberedPin.{NumberedPin}
use Rattle.heap_trail.specs.Machine.{Machine, acted}
use Rattle.heap_trail.specs.Records.{IsPinning, machine_of}
use Rattle.heap_trail.proofs.PinSearch.{slot_found, pin_missing}
use Rattle.heap_trail.proofs.ClosedPins.{close_done, close_missing, pinning_without}
use Rattle.heap_trail.proofs.Machine.close_pin.Goals as goal

pub invariant_of-self : goal.invariant_of-self
invariant_of-self c =
    let i = c.self.inside in
    let there = slot_found c.args.pin i.pins.items c.deref.result.now c.slot_of.result c.in-Some.slot c.remove.result c.deref.ensures.value c.slot_of.ensures c.in-Some.is c.remove.ensures.value in (
      c.self.invariant.0,
      subst (λ (ss : List NumberedPin). IsPinning i.ids i.world i.records i.place i.next ss) (sym c.remove.ensures.items) (pinning_without i.ids i.world i.records i.place i.next c.in-Some.slot i.pins.items there.0.within c.self.invariant.1),
      subst (λ n. i.world.limits.pins ≤ n) (sym c.remove.ensures.capacity) c.self.invariant.2,
    )

pub returns-in-Some-clause-done : goal.returns-in-Some-clause-done
returns-in-Some-clause-done c =
    let i = c.self.inside in
    let after : Machine = machine_of i.ids i.world i.records i.place i.keep i.next c.remove.new.self.items in
    let there = slot_found c.args.pin i.pins.items c.deref.result.now c.slot_of.result c.in-Some.slot c.remove.result c.deref.ensures.value c.slot_of.ensures c.in-Some.is c.remove.ensures.value in
    subst (λ (m : Machine). acted m (ClosePin c.args.pin) ≡ (after, Closed)) c.self.view_is
    (subst (λ n. acted (machine_of i.ids i.world i.records i.place i.keep i.next i.pins.items) (ClosePin n) ≡ (after, Closed)) there.1
    (close_done i.ids i.world i.records i.place i.keep i.next c.in-Some.slot i.pins.items c.remove.result c.self.invariant.1 there.0
    ∙ ap (λ (ss : List NumberedPin). (machine_of i.ids i.world i.records i.place i.keep i.next ss, Closed)) (sym c.remove.ensures.items)))

pub returns-in-None-clause-refused : goal.returns-in-None-clause-refused
returns-in-None-clause-refused c =
    let i = c.self.inside in
    subst (λ (m : Machine). acted m (ClosePin c.args.pin) ≡ (m, Refused NoPin)) c.self.view_is
    (close_missing (machine_of i.ids i.world i.records i.place i.keep i.next i.pins.items) c.args.pin
    (pin_missing i.world i.next c.args.pin i.pins.items c.deref.result.now c.slot_of.result c.deref.ensures.value c.slot_of.ensures c.in-None.is))
