use Rattle.std.proofs.Common.{arith, IsSome, sym, subst}
use Rattle.heap_region.specs.Layout.{pending_set}
use Rattle.heap_region.proofs.SlotReads.{slot_changed, slot_shows, used_slot_within}
use Rattle.heap_region.proofs.turned_slots.Slots.set_pending.Goals as goal

pub index_mut-requires : goal.index_mut-requires
index_mut-requires c =
    let i = c.self.inside in
    omega (arith, used_slot_within i.turns i.slots.items c.args.region (rw (← c.self.view_is) at c.requires), i.slots.ok.0)

pub set_pending_in-requires : goal.set_pending_in-requires
set_pending_in-requires c =
    let i = c.self.inside in
    let lt = used_slot_within i.turns i.slots.items c.args.region (rw (← c.self.view_is) at c.requires) in
    subst (IsSome) (sym (slot_shows i.turns i.slots.items c.args.region _ lt c.index_mut.ensures.value)) (rw (← c.self.view_is) at c.requires)

pub returns : goal.returns
returns c =
    let i = c.self.inside in
    let lt = used_slot_within i.turns i.slots.items c.args.region (rw (← c.self.view_is) at c.requires) in
    rw (← c.self.view_is) (slot_changed i.turns i.slots.items c.args.region (pending_set c.args.pending) _ _ lt c.index_mut.ensures.value c.set_pending_in.ensures)
