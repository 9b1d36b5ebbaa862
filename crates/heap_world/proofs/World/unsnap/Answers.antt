use Rattle.heap_world.proofs.MarkerEvents.{snapped_by, unsnap_held, unsnap_back}
use Rattle.heap_world.proofs.World.unsnap.Goals as goal

pub unsnap-requires : goal.unsnap-requires
unsnap-requires c = record { snapped = snapped_by _ _ c.self.view_is c.requires.snapped }

pub invariant_of-self : goal.invariant_of-self
invariant_of-self c = unsnap_held _ _ _ _ _ c.self.invariant c.self.view_is c.requires.snapped c.unsnap.ensures.marker c.unsnap.ensures.regions c.unsnap.ensures.back

pub returns-clause-back : goal.returns-clause-back
returns-clause-back c = λ before legal accepted from. unsnap_back _ _ _ _ _ c.self.view_is c.unsnap.ensures.marker c.unsnap.ensures.regions c.unsnap.ensures.back (before, legal, accepted, from)
