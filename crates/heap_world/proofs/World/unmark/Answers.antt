use Rattle.heap_world.proofs.MarkerEvents.{unmark_sound, unmark_held}
use Rattle.heap_world.proofs.World.unmark.Goals as goal

pub unmark-requires-clause-given : goal.unmark-requires-clause-given
unmark-requires-clause-given c = unmark_sound _ _ _ c.args.parent c.args.pushed c.self.invariant c.self.view_is c.requires.legal

pub invariant_of-self : goal.invariant_of-self
invariant_of-self c = unmark_held _ _ _ c.args.parent c.args.pushed _ _ c.self.invariant c.self.view_is c.requires.legal c.unmark.ensures.marker c.unmark.ensures.regions
