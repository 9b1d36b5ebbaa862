use Rattle.std.proofs.Common.{◌∙◌, Some, ap, sym}
use Rattle.heap_trail.specs.Pins.{pin_at}
use Rattle.question_words.proofs.PinStatuses.{not_open, pin_lost, place_kept}
use Rattle.question_words.proofs.at.ago_of_pin.Goals as goal

pub returns-in-Some-Kept-clause-steps : goal.returns-in-Some-Kept-clause-steps
returns-in-Some-Kept-clause-steps c =
    let m = c.args.machine.now in
    c.steps_ago.ensures.steps
    ∙ place_kept (pin_at c.args.pin m.pins) m.trail c.in-Some-Kept.place c.in-Some-Kept.field-0-1 (sym c.status_of_pin.ensures ∙ c.in-Some-Kept.is ∙ ap Some c.in-Some-Kept.field-0-is)

pub returns-in-Some-Lost-clause-steps : goal.returns-in-Some-Lost-clause-steps
returns-in-Some-Lost-clause-steps c =
    let m = c.args.machine.now in
    pin_lost (pin_at c.args.pin m.pins) m.trail c.in-Some-Lost.field-0-0 c.in-Some-Lost.cause (sym c.status_of_pin.ensures ∙ c.in-Some-Lost.is ∙ ap Some c.in-Some-Lost.field-0-is)

pub returns-in-None-clause-steps : goal.returns-in-None-clause-steps
returns-in-None-clause-steps c =
    let m = c.args.machine.now in
    not_open (pin_at c.args.pin m.pins) m.trail (sym c.status_of_pin.ensures ∙ c.in-None.is)
