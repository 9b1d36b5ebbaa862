use Rattle.std.proofs.Common.{arith}
use Rattle.heap_region.proofs.SlotReads.{slot_within}
use Rattle.heap_region.proofs.turned_slots.Slots.is_late.Goals as goal

pub index-requires : goal.index-requires
index-requires c =
    let i = c.self.inside in
    omega (arith, slot_within i.turns i.slots.items c.args.region (rw (← c.self.view_is) at c.requires), i.slots.ok.0)
