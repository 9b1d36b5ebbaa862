use Rattle.std.proofs.Common.{◌≡◌, ◌+◌, length, sym, subst, arith, suc, ◌∙◌}
use Rattle.std.specs.Prelude.{slice_set}
use Rattle.heap_trail.specs.OpenPins.{IsSizedPin, MayKeep}
use Rattle.heap_trail.specs.declared.held.NumberedPin.{NumberedPin}
use Rattle.heap_trail.proofs.EachPin.{KeptUpTo, pin_to_keep_is_sized, pins_kept_one_further, pins_kept_to_the_end}
use Rattle.heap_trail.proofs.keep_each.Goals as goal

pub keep-requires-clause-sized : goal.keep-requires-clause-sized
keep-requires-clause-sized c = subst (λ (s : NumberedPin). IsSizedPin (length c.args.world.now.regions) s) c.index-pins-i.is
    (pin_to_keep_is_sized c.args.left.now c.args.world.now (length c.args.world.now.regions) c.loop-i.i c.args.pins.now c.loop-i.pins c.index-pins-i.result c.requires.sized c.loop-i.invariant.kept (omega (arith, c.loop-i-test.true, c.loop-i.auto.pins)) c.index-pins-i.is)

pub keep-requires-clause-touched : goal.keep-requires-clause-touched
keep-requires-clause-touched c = sym c.touched_region.ensures ∙ c.in-Some.is

pub loop-i-preserved : goal.loop-i-preserved
loop-i-preserved c =
    let e : suc c.loop-i.i ≡ c.loop-i.i + 1 = omega arith in
    record {
      kept = subst (λ n. KeptUpTo c.args.left.now c.args.world.now n c.args.pins.now (slice_set c.loop-i.pins c.loop-i.i c.keep.new.self)) e
          (pins_kept_one_further c.args.left.now c.args.world.now c.loop-i.i c.args.pins.now c.loop-i.pins c.index-pins-i.result c.keep.new.self c.loop-i.invariant.kept (omega (arith, c.loop-i-test.true, c.loop-i.auto.pins)) c.index-pins-i.is
          (subst (λ (s : NumberedPin). MayKeep c.args.left.now c.args.world.now s c.keep.new.self) (sym c.index-pins-i.is) c.keep.ensures.kept));
      shared = c.keep.ensures.shared;
    }

pub returns-after-loop-i : goal.returns-after-loop-i
returns-after-loop-i c = pins_kept_to_the_end c.args.left.now c.args.world.now c.loop-i.i c.args.pins.now c.loop-i.pins c.loop-i.invariant.kept (omega (arith, c.loop-i-test.false, c.loop-i.auto.pins))
