use Rattle.heap_world.proofs.KeptParts.{word_held}
use Rattle.heap_world.proofs.World.unput.Goals as goal

pub invariant_of-self : goal.invariant_of-self
invariant_of-self c = word_held _ _ _ _ _ _ _ c.self.invariant c.self.view_is c.set_word.ensures c.requires.legal
