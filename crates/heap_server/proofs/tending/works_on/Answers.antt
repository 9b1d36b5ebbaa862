use Rattle.heap_server.proofs.WorkerRuns.{marking_worker_takes_turn, role_stays, sweeping_worker_takes_turn, role_keeps}
use Rattle.heap_server.specs.Tending.{turn_limit}
use Rattle.heap_server.proofs.tending.works_on.Goals as goal

pub returns-in_default : goal.returns-in_default
returns-in_default g c = record {
  works = marking_worker_takes_turn c.args.duty g.L.Heap.config c.args.seat.now c.resume_worker.new.seat c.args.witness.now c.is_idle.new.witness c.is_idle.result c.resume_worker.result c.in-Mark.is c.if-is_idle.false c.is_idle.ensures c.resume_worker.ensures.run.work c.resume_worker.ensures.begins;
  role = role_stays c.args.duty g.L.Heap.config c.args.seat.now c.resume_worker.new.seat turn_limit c.resume_worker.result c.resume_worker.ensures.run.work c.requires;
}

pub returns-in_default-pending_worker : goal.returns-in_default-pending_worker
returns-in_default-pending_worker g c = record {
  works = sweeping_worker_takes_turn c.args.duty g.L.Heap.config c.args.seat.now c.pending_worker.new.seat c.args.witness.now c.is_idle.new.witness c.pending_worker.new.witness c.is_idle.result c.pending_worker.result c.in-Sweep.is c.if-is_idle.false c.is_idle.ensures c.pending_worker.ensures.work;
  role = role_keeps c.args.duty g.L.Heap.config c.args.seat.now c.pending_worker.new.seat c.is_idle.new.witness c.pending_worker.new.witness turn_limit c.pending_worker.result c.pending_worker.ensures.work c.requires;
}
