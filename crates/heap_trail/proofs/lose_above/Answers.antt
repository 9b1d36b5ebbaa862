use Rattle.std.proofs.Common.{◌≡◌, ◌+◌, sym, subst, arith, suc}
use Rattle.std.specs.Prelude.{slice_set}
use Rattle.heap_trail.specs.declared.held.NumberedPin.{NumberedPin}
use Rattle.heap_trail.proofs.LostPins.{UpTo, IsLost, slots_related_one_further, slots_related_to_the_end, lost_slots_after_rewind}
use Rattle.heap_trail.proofs.lose_above.Goals as goal

pub loop-i-preserved : goal.loop-i-preserved
loop-i-preserved c =
    let e : suc c.loop-i.i ≡ c.loop-i.i + 1 = omega arith in
    subst (λ n. UpTo (IsLost c.args.to) n c.args.pins.now (slice_set c.loop-i.pins c.loop-i.i c.rewind.new.self)) e
    (slots_related_one_further (IsLost c.args.to) c.loop-i.i c.args.pins.now c.loop-i.pins c.index-pins-i.result c.rewind.new.self c.loop-i.invariant (omega (arith, c.loop-i-test.true, c.loop-i.auto.pins)) c.index-pins-i.is
    (subst (λ (s : NumberedPin). IsLost c.args.to s c.rewind.new.self) (sym c.index-pins-i.is) c.rewind.ensures))

pub returns : goal.returns
returns c = lost_slots_after_rewind c.args.to c.args.pins.now c.loop-i.pins (slots_related_to_the_end (IsLost c.args.to) c.loop-i.i c.args.pins.now c.loop-i.pins c.loop-i.invariant (omega (arith, c.loop-i-test.false, c.loop-i.auto.pins)))
