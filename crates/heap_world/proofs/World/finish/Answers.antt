use Rattle.heap_world.proofs.Finish.{finish_held, finish_made, all_live}
use Rattle.heap_world.proofs.World.finish.Goals as goal

pub finish-requires : goal.finish-requires
finish-requires c = all_live _ c.self.invariant.legal

pub invariant_of-self : goal.invariant_of-self
invariant_of-self c = finish_held _ _ _ _ c.finish.result c.self.invariant c.finish.ensures.answered c.finish.ensures.marker c.finish.ensures.regions c.finish.ensures.unchanged

pub returns-clause-finished : goal.returns-clause-finished
returns-clause-finished c = finish_made _ _ _ _ _ c.finish.result c.self.view_is c.finish.ensures.marker c.finish.ensures.regions
