use Rattle.hprof_lines.proofs.MoreValues.{one_element, no_elements}
use Rattle.hprof_lines.proofs.values.add_elements.Goals as goal

pub loop-slot-preserved : goal.loop-slot-preserved
loop-slot-preserved c =
    rw (c.in_ok-push.ensures.items, c.number_at-value.ensures.rest, c.number_at-value.ensures.number)
    (one_element c.args.ids c.args.kind c.args.count c.loop-slot.slot c.loop-slot.rest.now c.loop-slot.slots.items _ c.loop-slot-test.true c.loop-slot.invariant)

pub returns : goal.returns
returns c = no_elements c.args.ids c.args.kind c.args.count c.loop-slot.slot c.loop-slot.rest.now c.loop-slot.slots.items _ c.loop-slot-test.false c.loop-slot.invariant
