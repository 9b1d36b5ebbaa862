use Rattle.heap_work.proofs.WorkerTurns.{resumed_work_begins_no_cycle}
use Rattle.heap_work.proofs.resume_worker.Goals as goal

pub returns-clause-begins : goal.returns-clause-begins
returns-clause-begins g c = resumed_work_begins_no_cycle g.L.Heap.config c.args.seat.now c.mark_from.new.seat c.args.turns c.mark_from.result c.mark_from.ensures.work
