use Rattle.heap_world.proofs.SweepSteps.{unreclaim_held}
use Rattle.heap_world.proofs.World.unreclaim.Goals as goal

pub restore-requires-clause-ready : goal.restore-requires-clause-ready
restore-requires-clause-ready c = rw (← c.self.view_is) at c.requires.ready

pub invariant_of-self : goal.invariant_of-self
invariant_of-self c = unreclaim_held _ _ _ c.args.region c.args.storage _ c.self.invariant c.self.view_is c.requires.legal c.restore.ensures.state
