use Rattle.std.proofs.Common.{◌<◌, length, arith}
use Rattle.hprof_lines.proofs.UpClasses.{one_up, no_more_up, end_up}
use Rattle.hprof_lines.proofs.slots.add_instance.Goals as goal

pub loop-preserved : goal.loop-preserved
loop-preserved c =
    let so_far = rw c.in-Some.is at c.loop.invariant in
    let before = rw c.sup-at.ensures.value at c.sup-at.ensures.before in
    let less : c.loop.counter < length c.args.plan.now.classes = omega (arith, c.loop-test.true, c.len-end.ensures.value) in
    rw (c.in_ok-rest-in-Some.ensures.slots, c.in_ok-rest-in-Some.ensures.rest, c.sup-at.ensures.value, c.field_count-kept.ensures.value, c.base_of-base.ensures.value, c.kinds_of.ensures)
    (one_up c.args.plan.now c.args.ids c.args.class (length c.args.plan.now.classes) c.loop.counter c.in-Some.k c.loop.rest.now c.loop.slots.items _ less so_far before)

pub returns-in-None : goal.returns-in-None
returns-in-None c =
    no_more_up c.args.plan.now c.args.ids c.args.class (length c.args.plan.now.classes) c.loop.counter c.loop.rest.now c.loop.slots.items _ (rw c.in-None.is at c.loop.invariant)

pub returns : goal.returns
returns c =
    end_up c.args.plan.now c.args.ids c.args.class (length c.args.plan.now.classes) c.loop.counter c.loop.at c.loop.rest.now c.loop.slots.items _ (omega (arith, c.loop-test.false, c.len-end.ensures.value)) c.loop.invariant
