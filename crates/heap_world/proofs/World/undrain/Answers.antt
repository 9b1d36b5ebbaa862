use Rattle.heap_world.proofs.MarkerEvents.{undrain_held}
use Rattle.heap_world.proofs.World.undrain.Goals as goal

pub invariant_of-self : goal.invariant_of-self
invariant_of-self c = undrain_held _ _ _ c.args.pushed _ _ c.self.invariant c.self.view_is c.requires.legal c.undrain.ensures.marker c.undrain.ensures.regions
