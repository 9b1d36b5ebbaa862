use Rattle.std.proofs.Common.{◌≡◌, ◌+◌, Bool, true, false, not, length, refl, sym, subst, arith, suc, ◌∙◌}
use Rattle.heap_pins.proofs.RoomForCopies.{noted_region_is_in_heap}
use Rattle.heap_trail.proofs.EachPin.{KeptUpTo, pin_of_list_is_sized, pins_kept_past_unchanged, pins_kept_to_the_end, unnoted_record_leaves_pins}
use Rattle.heap_trail.proofs.PinCalls.{held_pin_has_region_place, settled_pin_is_unchanged}
use Rattle.heap_trail.proofs.are_settled.Goals as goal

pub is_settled-requires : goal.is_settled-requires
is_settled-requires c =
    held_pin_has_region_place (length c.args.world.now.regions) c.in-Some.region c.index-pins-i.result.held
    (pin_of_list_is_sized (length c.args.world.now.regions) c.loop-i.i c.args.pins.now c.index-pins-i.result c.requires.sized c.loop-i-test.true c.index-pins-i.is)
    (noted_region_is_in_heap c.requires.step.0 c.requires.step.1 c.args.world.now c.args.left.now c.requires.step.2 c.in-Some.region (sym c.noted_region.ensures ∙ c.in-Some.is))

pub loop-i-preserved : goal.loop-i-preserved
loop-i-preserved c =
    let e : suc c.loop-i.i ≡ c.loop-i.i + 1 = omega arith in
    subst (λ n. KeptUpTo c.args.left.now c.args.world.now n c.args.pins.now c.args.pins.now) e
    (pins_kept_past_unchanged c.args.left.now c.args.world.now c.loop-i.i c.args.pins.now c.index-pins-i.result c.loop-i.invariant c.loop-i-test.true c.index-pins-i.is
    (settled_pin_is_unchanged c.args.left.now c.args.world.now c.in-Some.region c.index-pins-i.result (sym c.noted_region.ensures ∙ c.in-Some.is) (sym c.is_settled.ensures ∙ c.if-not-is_settled.false)))

pub returns-after-loop-i : goal.returns-after-loop-i
returns-after-loop-i c settled = pins_kept_to_the_end c.args.left.now c.args.world.now c.loop-i.i c.args.pins.now c.args.pins.now c.loop-i.invariant c.loop-i-test.false

pub returns-in-None : goal.returns-in-None
returns-in-None c settled = unnoted_record_leaves_pins c.args.left.now c.args.world.now c.args.pins.now (sym c.noted_region.ensures ∙ c.in-None.is) (sym c.ends_cycle.ensures ∙ false_by_not c.ends_cycle.result settled)
  where
    false_by_not : (b : Bool) → not b ≡ true → b ≡ false
    false_by_not true e = absurd (cc)
    false_by_not false e = refl
