use Rattle.std.proofs.Common.{◌-◌, length, ap, arith}
use Rattle.std.proofs.lemmas.List.{length-reverse}
use Rattle.std.proofs.lemmas.List.FromFn.{length-range_with_len}
use Rattle.heap_region.proofs.slots.full_pool.Goals as goal

pub push_reserved-requires : goal.push_reserved-requires
push_reserved-requires c =
    omega (arith, ap length c.loop-i.invariant.pool, length-reverse c.loop-i.pool.items, length-range_with_len (c.args.count - c.loop-i.i) c.loop-i.i, c.loop-i.pool.ok.0, c.loop-i.invariant.capacity)
