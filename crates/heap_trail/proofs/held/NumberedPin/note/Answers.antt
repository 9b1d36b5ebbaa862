use Rattle.std.proofs.Common.{length, refl, subst}
use Rattle.heap_trail.specs.OpenPins.{IsSizedHeld}
use Rattle.heap_trail.proofs.PinCalls.{kept_pin_keeps_its_need, lost_pin_stays_after_step}
use Rattle.heap_trail.proofs.held.NumberedPin.note.Goals as goal

pub note-requires-clause-step : goal.note-requires-clause-step
note-requires-clause-step c = (c.requires.step.0, c.requires.step.1, c.args.world.now, c.requires.step.2, subst (λ h. IsSizedHeld (length c.args.world.now.regions) h) c.in-Kept.is c.requires.sized)

pub returns-in-Kept : goal.returns-in-Kept
returns-in-Kept c = kept_pin_keeps_its_need c.args.left.now c.args.world.now c.args.self.now _ c.in-Kept.place c.in-Kept.pin c.note.new.self c.in-Kept.cursor c.in-Kept.given refl c.in-Kept.is (c.note.ensures c.args.world.now)

pub returns-in-Lost : goal.returns-in-Lost
returns-in-Lost c = lost_pin_stays_after_step c.args.left.now c.args.world.now c.args.self.now _ c.in-Lost.place c.in-Lost.cause refl c.in-Lost.is
