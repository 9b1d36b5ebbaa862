use Rattle.std.proofs.Common.{subst}
use Rattle.heap_class.specs.Refusals.{IsAnswered}
use Rattle.heap_sweep.specs.Sweep.{sweep_refusal, copies_dead}
use Rattle.heap_world.specs.State.{HeapState, pool_of}
use Rattle.heap_world.proofs.SweepSteps.{sweep_held, sweep_made}
use Rattle.heap_world.proofs.World.sweep.Goals as goal

pub invariant_of-self : goal.invariant_of-self
invariant_of-self c = sweep_held _ _ c.args.region _ _ c.sweep.result c.self.invariant c.sweep.ensures.answered c.sweep.ensures.swept c.sweep.ensures.unchanged

pub returns-clause-answered : goal.returns-clause-answered
returns-clause-answered c = subst (λ (w : HeapState). IsAnswered (sweep_refusal c.args.region (pool_of w)) (copies_dead c.args.region (pool_of w)) c.sweep.result) c.self.view_is c.sweep.ensures.answered

pub returns-clause-swept : goal.returns-clause-swept
returns-clause-swept c = sweep_made _ _ c.args.region _ c.sweep.result c.self.view_is c.sweep.ensures.swept
