use Rattle.heap_runtime.proofs.CycleEnds.{sweep_work_claims_own_entries}
use Rattle.heap_runtime.proofs.actor.Actor.sweep_regions.Goals as goal

pub invariant_of-self : goal.invariant_of-self
invariant_of-self g c = sweep_work_claims_own_entries g.L.Heap.config c.self.inside.claims.items c.self.inside.seat c.sweep_worker-end.new.seat c.args.turns c.sweep_worker-end.result c.self.invariant c.sweep_worker-end.ensures.work
