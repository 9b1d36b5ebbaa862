use Rattle.std.proofs.Common.{◌≡◌, ◌-◌, false, []}
use Rattle.heap_trail.specs.Limits.{last_place}
use Rattle.heap_world.specs.MarkSteps.{pending_regions}
use Rattle.heap_orders.specs.Collections.{AreTaken, StepsLead}
use Rattle.heap_orders.proofs.cycle.mark_cycle.Given as goal

abbrev pub invariant-loop-condemned : goal.invariant-loop-condemned
invariant-loop-condemned g l = record {
  marked : AreTaken (g.S.Steps.since l.fn.steps l.fn.by) (λ taken. StepsLead false (g.S.Steps.seen l.fn.steps) taken false (g.S.Steps.seen l.steps) 0 0) (g.S.Steps.since l.steps l.by);
  swept : pending_regions (g.S.Steps.seen l.steps).trail.current.regions ≡ [];
  still : g.S.Steps.may l.by;
}

abbrev pub decreases-loop-condemned : goal.decreases-loop-condemned
decreases-loop-condemned g l = last_place - (g.S.Steps.seen l.steps).trail.place
