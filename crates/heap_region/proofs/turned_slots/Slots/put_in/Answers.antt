use Rattle.std.proofs.Common.{Some, arith, ap}
use Rattle.heap_region.proofs.LateTurns.{settled_shows}
use Rattle.heap_region.proofs.SlotReads.{slot_within, slot_written}
use Rattle.heap_region.proofs.turned_slots.Slots.put_in.Goals as goal

pub index_mut-requires : goal.index_mut-requires
index_mut-requires c =
    let i = c.self.inside in
    omega (arith, slot_within i.turns i.slots.items c.args.region (rw (← c.self.view_is) at c.requires), i.slots.ok.0)

pub returns : goal.returns
returns c =
    let i = c.self.inside in
    rw (← c.self.view_is) (slot_written i.turns i.slots.items c.args.region _ (Some c.args.storage) (ap Some (settled_shows i.turns c.args.storage)))
