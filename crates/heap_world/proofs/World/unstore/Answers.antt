use Rattle.heap_world.proofs.Barrier.{log_entry_is_not_drained, store_undone_keeps_heap_sound, store_undone_makes_state}
use Rattle.heap_world.proofs.World.unstore.Goals as goal

pub unlog_old-requires : goal.unlog_old-requires
unlog_old-requires c = record { entry = log_entry_is_not_drained _ _ _ _ _ _ c.self.view_is c.requires.entry c.requires.legal }

pub invariant_of-self : goal.invariant_of-self
invariant_of-self c = store_undone_keeps_heap_sound _ _ _ _ _ _ _ _ _ c.self.invariant c.self.view_is c.unlog_old.ensures.log c.set_word.ensures c.requires.legal

pub returns : goal.returns
returns c = store_undone_makes_state _ _ _ _ _ _ _ _ _ c.self.view_is c.unlog_old.ensures.log c.set_word.ensures
