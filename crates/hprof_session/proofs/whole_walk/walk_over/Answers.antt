use Rattle.hprof_session.proofs.Walked.{walk_of_no_items, walk_of_one_item_more}
use Rattle.hprof_session.specs.Walks.{left, item_told}
use Rattle.hprof_session.proofs.whole_walk.walk_over.Goals as goal

pub loop-init : goal.loop-init
loop-init c = walk_of_no_items (left c.args.walk)

pub loop-preserved : goal.loop-preserved
loop-preserved c =
    let e = c.in-Ok-Some.field-0-is in
    let h = rw e at c.in-Ok-Some.ensures.found in
    rw e (walk_of_one_item_more (left c.args.walk) c.loop.items c.loop.counter (left c.loop.at) (item_told c.in-Ok-Some.next.0) (left c.in-Ok-Some.next.1) c.loop.invariant h)
