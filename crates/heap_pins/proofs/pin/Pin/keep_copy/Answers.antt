use Rattle.std.proofs.Common.{◌≡◌, length, false, sym, ap, subst, ◌∙◌, arith}
use Rattle.heap_region.specs.Pool.{RegionPool}
use Rattle.heap_pins.specs.KeptCopies.{has_copy}
use Rattle.heap_pins.specs.Pin.{PinContents}
use Rattle.heap_pins.specs.States.{AreOf, cell_states}
use Rattle.heap_pins.proofs.AddedCopies.{copy_is_put}
use Rattle.heap_pins.proofs.KeptSteps.{copied_region_is_kept, copied_region_keeps_the_pin, settled_states_are_before_step}
use Rattle.heap_pins.proofs.RoomForCopies.{touched_region_is_in_heap}
use Rattle.heap_pins.proofs.SharedCopies.{dead_cells_are_low}
use Rattle.heap_pins.proofs.pin.Pin.keep_copy.Goals as goal

pub has_copy-requires : goal.has_copy-requires
has_copy-requires c = omega (arith, c.requires.sized, touched_region_is_in_heap c.requires.step.0 c.requires.step.1 c.args.world.now c.args.left.now c.requires.step.2 c.args.region c.requires.touched)

pub returns-then-has_copy-clause-kept : goal.returns-then-has_copy-clause-kept
returns-then-has_copy-clause-kept c = copied_region_keeps_the_pin c.args.left.now c.args.world.now c.args.self.now c.args.region c.requires.touched (sym c.has_copy.ensures ∙ c.if-has_copy.true)

pub restore_states-requires : goal.restore_states-requires
restore_states-requires c = dead_cells_are_low c.requires.step.0 c.requires.step.1 c.args.world.now c.args.left.now c.requires.step.2

pub settle-requires : goal.settle-requires
settle-requires c = omega (arith, c.requires.sized, touched_region_is_in_heap c.requires.step.0 c.requires.step.1 c.args.world.now c.args.left.now c.requires.step.2 c.args.region c.requires.touched)

pub put-requires : goal.put-requires
put-requires c = omega (arith, c.requires.sized, touched_region_is_in_heap c.requires.step.0 c.requires.step.1 c.args.world.now c.args.left.now c.requires.step.2 c.args.region c.requires.touched, ap (λ (p : PinContents). length p.copies) c.self.view_is)

pub returns-clause-kept : goal.returns-clause-kept
returns-clause-kept c =
    let r = c.args.region in
    let p = c.args.self.now in
    let v = c.args.world.now in
    let free : has_copy r p ≡ false = sym c.if-has_copy.ensures in
    let before = c.restore_states.ensures (cell_states v.regions) r c.requires.touched
    (subst (λ (s : RegionPool). AreOf (cell_states s.regions) r 256 c.states_now-states.result) c.regions.ensures c.states_now-states.ensures) in
    let settled = settled_states_are_before_step c.requires.step.0 c.requires.step.1 c.args.world.now c.args.left.now c.requires.step.2 p r c.restore_states.new.states c.settle.new.states free before c.settle.ensures in
    copied_region_is_kept c.args.left.now v p _ r c.requires.touched free (copy_is_put p _ c.put.new.self r c.in_ok-copy.copy _ c.settle.new.states _ c.self.view_is c.put.ensures c.in_ok-copy.ensures.made settled)
