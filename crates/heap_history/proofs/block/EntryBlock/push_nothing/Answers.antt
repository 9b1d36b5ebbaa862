use Rattle.heap_history.proofs.Places.{empty_pack_tells_none, entry_of_one_pack_more, empty_pack_added_is_placed}
use Rattle.heap_history.proofs.block.EntryBlock.push_nothing.Goals as goal

pub invariant_of-self : goal.invariant_of-self
invariant_of-self c = rw c.push_reserved.ensures.items (empty_pack_added_is_placed _ _ c.pack_at.result c.self.invariant c.pack_at.ensures.0)

pub returns : goal.returns
returns c = rw (c.push_reserved.ensures.items, ← c.self.view_is) (entry_of_one_pack_more _ _ c.pack_at.result _ (empty_pack_tells_none _ c.pack_at.result c.pack_at.ensures.0))
