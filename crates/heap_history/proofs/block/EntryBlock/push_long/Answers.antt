use Rattle.std.proofs.Common.{◌≡◌, length, arith}
use Rattle.heap_history.proofs.Places.{long_pack_added_is_placed, entry_of_one_long_more}
use Rattle.heap_history.proofs.block.EntryBlock.push_long.Goals as goal

pub invariant_of-self : goal.invariant_of-self
invariant_of-self c =
    let at : c.pack_at.result.first ≡ length c.self.inside.longs.items = omega (arith, c.pack_at.ensures.1, c.len-place.ensures) in
    rw (c.push_reserved.ensures.items, c.push_reserved-2.ensures.items) (long_pack_added_is_placed _ _ _ c.args.long c.self.invariant at)

pub returns : goal.returns
returns c =
    let at : c.pack_at.result.first ≡ length c.self.inside.longs.items = omega (arith, c.pack_at.ensures.1, c.len-place.ensures) in
    rw (c.push_reserved.ensures.items, c.push_reserved-2.ensures.items, ← c.self.view_is) (entry_of_one_long_more _ _ _ c.args.long c.self.invariant c.pack_at.ensures.0 at)
