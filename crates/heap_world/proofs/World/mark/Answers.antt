use Rattle.heap_world.proofs.MarkerParts.{gray_sound, slots_there, children_there}
use Rattle.heap_world.proofs.MarkerEvents.{mark_held, mark_made}
use Rattle.heap_world.proofs.World.mark.Goals as goal

pub mark-requires : goal.mark-requires
mark-requires c = let h = c.self.invariant in record { sound = gray_sound _ _ h; slots = slots_there _ _ h; children = children_there _ _ h }

pub invariant_of-self : goal.invariant_of-self
invariant_of-self c = mark_held _ _ _ _ c.mark.result c.self.invariant c.mark.ensures.answered c.mark.ensures.marker c.mark.ensures.regions c.mark.ensures.unchanged

pub returns-clause-marked : goal.returns-clause-marked
returns-clause-marked c = mark_made _ _ _ _ _ c.mark.result c.self.view_is c.mark.ensures.marker c.mark.ensures.regions
