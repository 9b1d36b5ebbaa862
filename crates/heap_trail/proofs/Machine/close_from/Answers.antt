use Rattle.std.proofs.Common.{rules, ◌≡◌, ap, ◌∙◌, arith}
use Rattle.std.specs.Prelude.{nat_lt}
use Rattle.std.proofs.lemmas.Fn.{filter_same}
use Rattle.heap_trail.specs.declared.held.NumberedPin.{NumberedPin}
use Rattle.heap_trail.specs.Machine.{Machine}
use Rattle.heap_trail.specs.Pins.{pins_below}
use Rattle.heap_trail.specs.Records.{machine_with}
use Rattle.heap_trail.proofs.PinNumbers.{below, pinning_below, pins_are_below}
use Rattle.heap_trail.proofs.Machine.close_from.Goals as goal

pub invariant_of-self : goal.invariant_of-self
invariant_of-self c =
    let i = c.self.inside in
    let kept : c.retain.new.self.items ≡ below c.args.number i.pins.items =
    filter_same _ (λ (s : NumberedPin). nat_lt s.number c.args.number) _ (λ x b f k. search rules) i.pins.items c.retain.new.self.items c.retain.ensures.filtered in
    (c.self.invariant.0, pinning_below i.ids i.world i.records i.place i.next c.args.number i.pins.items c.retain.new.self.items c.self.invariant.1 kept, omega (arith, c.retain.ensures.capacity, c.self.invariant.2))

pub returns : goal.returns
returns c =
    let i = c.self.inside in
    let kept : c.retain.new.self.items ≡ below c.args.number i.pins.items =
    filter_same _ (λ (s : NumberedPin). nat_lt s.number c.args.number) _ (λ x b f k. search rules) i.pins.items c.retain.new.self.items c.retain.ensures.filtered in
    ap (machine_with i.ids i.world i.records i.place i.keep) (pins_are_below i.world i.next c.args.number i.pins.items c.retain.new.self.items kept)
    ∙ ap (λ (m : Machine). record m { pins = pins_below c.args.number m.pins }) c.self.view_is
