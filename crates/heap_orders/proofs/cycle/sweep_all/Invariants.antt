use Rattle.std.proofs.Common.{length}
use Rattle.heap_world.specs.MarkSteps.{pending_regions}
use Rattle.heap_orders.specs.Collections.{AreTaken}
use Rattle.heap_orders.proofs.CycleSteps.{AreSweeping}
use Rattle.heap_orders.proofs.cycle.sweep_all.Given as goal

abbrev pub invariant-loop-region : goal.invariant-loop-region
invariant-loop-region g l = record {
  swept : AreTaken (g.S.Steps.since l.fn.steps l.fn.by) (λ taken. AreSweeping (g.S.Steps.seen l.fn.steps) taken l.swept (g.S.Steps.seen l.steps)) (g.S.Steps.since l.steps l.by);
  still : g.S.Steps.may l.by;
}

abbrev pub decreases-loop-region : goal.decreases-loop-region
decreases-loop-region g l = length (pending_regions (g.S.Steps.seen l.steps).trail.current.regions)
