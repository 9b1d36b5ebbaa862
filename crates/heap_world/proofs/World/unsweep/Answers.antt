use Rattle.heap_world.proofs.SweepSteps.{regions_before_the_sweep, unsweep_held, unsweep_made, unsweep_back}
use Rattle.heap_world.proofs.World.unsweep.Goals as goal

pub unsweep-requires : goal.unsweep-requires
unsweep-requires c = record { swept = regions_before_the_sweep _ _ c.args.region c.args.dead c.self.view_is c.requires.swept }

pub invariant_of-self : goal.invariant_of-self
invariant_of-self c = unsweep_held _ _ _ c.args.region c.args.dead _ c.self.invariant c.self.view_is c.requires.swept c.unsweep.ensures.back

pub returns-clause-unswept : goal.returns-clause-unswept
returns-clause-unswept c = unsweep_made _ _ c.args.region c.args.dead _ c.self.view_is c.requires.swept c.unsweep.ensures.back

pub returns-clause-back : goal.returns-clause-back
returns-clause-back c = λ before legal accepted left dead from. unsweep_back _ _ c.args.region c.args.dead _ c.self.view_is c.unsweep.ensures.back (before, legal, accepted, left, dead, from)
