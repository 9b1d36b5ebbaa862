use Rattle.std.proofs.Common.{ap, subst}
use Rattle.heap_trail.specs.Machine.{Machine}
use Rattle.heap_trail.specs.Pins.{AreDumpable, AreNumbered}
use Rattle.heap_trail.specs.OpenPins.{pins_of}
use Rattle.heap_trail.proofs.PinNumbers.{pinning_pins_are_numbered, pins_of_machine_are_dumpable}
use Rattle.heap_trail.proofs.Machine.next_pin.Goals as goal

pub returns-clause-value : goal.returns-clause-value
unfolding pins_of
returns-clause-value c = ap (λ (m : Machine). m.pins.next) c.self.view_is

pub returns-clause-numbered : goal.returns-clause-numbered
returns-clause-numbered c =
    let i = c.self.inside in
    subst (λ (m : Machine). AreNumbered m.pins) c.self.view_is (pinning_pins_are_numbered i.ids i.world i.records i.place i.next i.pins.items c.self.invariant.1)

pub returns-clause-dumpable : goal.returns-clause-dumpable
returns-clause-dumpable c =
    let i = c.self.inside in
    subst (λ (m : Machine). AreDumpable m.pins) c.self.view_is (pins_of_machine_are_dumpable i.ids i.world i.records i.place i.next i.pins.items c.self.invariant.1)
