use Rattle.std.proofs.Common.{◌≡◌, ◌∙◌, length, refl, sym, ap, subst, arith}
use Rattle.heap_step.proofs.Steps.{new_record_names_an_object}
use Rattle.heap_pins.specs.KeptCopies.{kept}
use Rattle.heap_pins.proofs.RoomForCopies.{object_within}
use Rattle.heap_pins.proofs.Walkable.{after_legal, cell_of_object_below_256}
use Rattle.heap_trail.specs.OpenPins.{IsSizedHeld}
use Rattle.heap_trail.proofs.PinCalls.{kept_pin_keeps_its_need, lost_pin_stays_after_step}
use Rattle.heap_trail.proofs.held.NumberedPin.note_new.Goals as goal

pub keep_new-requires-clause-region : goal.keep_new-requires-clause-region
keep_new-requires-clause-region c =
    let made = c.requires.made in
    let there = new_record_names_an_object c.requires.step.0 c.requires.step.1 c.args.world.now c.args.left.now c.requires.step.2 c.args.at c.args.fresh made.0 made.1 made.2 made.3 in
    let sized : length c.in-Kept.pin.copies ≡ length c.args.world.now.regions = subst (λ h. IsSizedHeld (length c.args.world.now.regions) h) c.in-Kept.is c.requires.sized in
    omega (arith, sized, object_within c.args.world.now.regions c.args.at there)

pub keep_new-requires-clause-cell : goal.keep_new-requires-clause-cell
keep_new-requires-clause-cell c =
    let made = c.requires.made in
    let there = new_record_names_an_object c.requires.step.0 c.requires.step.1 c.args.world.now c.args.left.now c.requires.step.2 c.args.at c.args.fresh made.0 made.1 made.2 made.3 in
    cell_of_object_below_256 c.args.world.now c.args.at (after_legal c.requires.step.0 c.requires.step.1 c.args.world.now c.args.left.now c.requires.step.2) there

pub returns-in-Kept : goal.returns-in-Kept
unfolding kept
returns-in-Kept c = kept_pin_keeps_its_need c.args.left.now c.args.world.now c.args.self.now _ c.in-Kept.place c.in-Kept.pin c.keep_new.new.self c.in-Kept.cursor c.in-Kept.given refl c.in-Kept.is
    (c.keep_new.ensures ∙ ap (λ l. kept l c.args.world.now c.in-Kept.pin) (sym c.requires.made.3))

pub returns-in-Lost : goal.returns-in-Lost
returns-in-Lost c = lost_pin_stays_after_step c.args.left.now c.args.world.now c.args.self.now _ c.in-Lost.place c.in-Lost.cause refl c.in-Lost.is
