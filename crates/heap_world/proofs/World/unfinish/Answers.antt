use Rattle.heap_world.proofs.Finish.{unfinish_held, finished_before}
use Rattle.heap_world.proofs.World.unfinish.Goals as goal

pub unfinish-requires : goal.unfinish-requires
unfinish-requires c = let f = c.requires.finished in finished_before _ _ c.self.view_is f.0 f.1 f.2 f.3

pub invariant_of-self : goal.invariant_of-self
invariant_of-self c = unfinish_held _ _ _ c.args.log _ _ c.self.invariant c.self.view_is c.requires.legal c.unfinish.ensures.marker c.unfinish.ensures.regions
