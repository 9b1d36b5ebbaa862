use Rattle.std.proofs.Common.{map, min}
use Rattle.hprof_reader.specs.Fields.{static_told}
use Rattle.hprof_plan.specs.Fields.{static_parts}
use Rattle.hprof_plan.proofs.FieldLoops.{goes_on, ends, is_done, map_and}
use Rattle.hprof_plan.proofs.fields.read_statics.Goals as goal

pub returns-in-None : goal.returns-in-None
returns-in-None c = ends (static_parts c.args.ids) (min c.args.table.count 64) c.loop.counter c.loop.rest.now (map static_told c.loop.fields.items) _ (rw c.min-end.ensures at c.loop-test.true) c.in-None.ensures c.loop.invariant

pub loop-preserved : goal.loop-preserved
loop-preserved c =
    rw (c.in_ok-push-in-Some.ensures.items, map_and static_told c.loop.fields.items c.in-Some.field)
    (goes_on (static_parts c.args.ids) (min c.args.table.count 64) c.loop.counter c.loop.rest.now (map static_told c.loop.fields.items) (static_told c.in-Some.field) c.in-Some.after.now _ (rw c.min-end.ensures at c.loop-test.true) c.in-Some.ensures c.loop.invariant)

pub returns : goal.returns
returns c = is_done (static_parts c.args.ids) (min c.args.table.count 64) c.loop.counter c.loop.rest.now (map static_told c.loop.fields.items) _ (rw c.min-end.ensures at c.loop-test.false) c.loop.invariant
