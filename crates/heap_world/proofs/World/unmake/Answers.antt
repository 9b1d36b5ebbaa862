use Rattle.heap_world.proofs.CreationEvents.{another_object_in_equal_heap, unmade_held}
use Rattle.heap_world.proofs.World.unmake.Goals as goal

pub unalloc-requires-clause-another : goal.unalloc-requires-clause-another
unalloc-requires-clause-another c = another_object_in_equal_heap _ _ _ _ _ _ _ c.self.view_is c.requires.there c.requires.legal

pub invariant_of-self : goal.invariant_of-self
invariant_of-self c = unmade_held _ _ _ _ _ _ _ _ _ _ c.self.invariant c.self.view_is c.unalloc.ensures.state c.requires.legal c.write_register.ensures
