use Rattle.hprof_plan.specs.Fields.{own_parts}
use Rattle.hprof_plan.proofs.FieldLoops.{goes_on, ends, is_done}
use Rattle.hprof_plan.proofs.fields.own_fields.Goals as goal

pub returns-in-None : goal.returns-in-None
returns-in-None c = ends (own_parts c.args.ids) c.args.table.count c.loop.counter c.loop.rest.now c.loop.fields.items _ c.loop-test.true c.in-None.ensures c.loop.invariant

pub loop-preserved : goal.loop-preserved
loop-preserved c =
    rw c.in_ok-push-in-Some.ensures.items
    (goes_on (own_parts c.args.ids) c.args.table.count c.loop.counter c.loop.rest.now c.loop.fields.items c.in-Some.field c.in-Some.after.now _ c.loop-test.true c.in-Some.ensures c.loop.invariant)

pub returns : goal.returns
returns c = is_done (own_parts c.args.ids) c.args.table.count c.loop.counter c.loop.rest.now c.loop.fields.items _ c.loop-test.false c.loop.invariant
