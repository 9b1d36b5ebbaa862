use Rattle.std.proofs.Common.{length, sym, ◌∙◌}
use Rattle.heap_pins.proofs.RoomForCopies.{touched_region_is_in_heap}
use Rattle.heap_trail.proofs.PinCalls.{held_pin_has_region_place, settled_pin_is_unchanged, touched_is_noted}
use Rattle.heap_trail.proofs.held.NumberedPin.keep.Goals as goal

pub returns-else-not-is_settled-clause-kept : goal.returns-else-not-is_settled-clause-kept
returns-else-not-is_settled-clause-kept c = settled_pin_is_unchanged c.args.left.now c.args.world.now c.args.region c.args.self.now (touched_is_noted c.args.left.now c.args.region c.requires.touched) (sym c.is_settled.ensures ∙ c.if-not-is_settled.false)

pub copy_region-requires-clause-needed : goal.copy_region-requires-clause-needed
copy_region-requires-clause-needed c = (c.args.region, c.requires.touched, sym c.is_settled.ensures ∙ c.if-not-is_settled.true)

pub is_settled-requires : goal.is_settled-requires
is_settled-requires c = held_pin_has_region_place (length c.args.world.now.regions) c.args.region c.args.self.now.held c.requires.sized (touched_region_is_in_heap c.requires.step.0 c.requires.step.1 c.args.world.now c.args.left.now c.requires.step.2 c.args.region c.requires.touched)
