use Rattle.heap_server.proofs.WorkerRuns.{taken_turn_is_tending, works_more}
use Rattle.heap_server.proofs.tending.tend.Goals as goal

pub returns-then-not-works_on : goal.returns-then-not-works_on
returns-then-not-works_on g c =
    works_more c.args.duty g.L.Heap.config c.args.seat c.loop.seat c.works_on.new.seat c.loop.invariant.0 (taken_turn_is_tending c.args.duty g.L.Heap.config c.loop.seat c.works_on.new.seat c.loop.witness c.works_on.new.witness c.works_on.ensures.works)

pub loop-preserved : goal.loop-preserved
loop-preserved g c =
    (works_more c.args.duty g.L.Heap.config c.args.seat c.loop.seat c.works_on.new.seat c.loop.invariant.0 (taken_turn_is_tending c.args.duty g.L.Heap.config c.loop.seat c.works_on.new.seat c.loop.witness c.works_on.new.witness c.works_on.ensures.works), c.works_on.ensures.role)
