use Rattle.std.proofs.Common.{IsSome, None, arith, sym, ap, subst, ◌∙◌}
use Rattle.heap_region.specs.Slots.{shown_slot}
use Rattle.heap_region.proofs.SlotReads.{slot_shows, slot_written, used_slot_within}
use Rattle.heap_region.proofs.turned_slots.Slots.take_out.Goals as goal

pub index_mut-requires : goal.index_mut-requires
index_mut-requires c =
    let i = c.self.inside in
    omega (arith, used_slot_within i.turns i.slots.items c.args.region (rw (← c.self.view_is) at c.requires), i.slots.ok.0)

pub take_out-requires : goal.take_out-requires
take_out-requires c =
    let i = c.self.inside in
    let lt = used_slot_within i.turns i.slots.items c.args.region (rw (← c.self.view_is) at c.requires) in
    subst IsSome (sym (slot_shows i.turns i.slots.items c.args.region _ lt c.index_mut.ensures.value)) (rw (← c.self.view_is) at c.requires)

pub returns-clause-storage : goal.returns-clause-storage
returns-clause-storage c =
    let i = c.self.inside in
    let lt = used_slot_within i.turns i.slots.items c.args.region (rw (← c.self.view_is) at c.requires) in
    rw (← c.self.view_is) (sym (slot_shows i.turns i.slots.items c.args.region _ lt c.index_mut.ensures.value) ∙ c.take_out.ensures.storage)

pub returns-clause-state : goal.returns-clause-state
returns-clause-state c =
    let i = c.self.inside in
    rw (← c.self.view_is) (slot_written i.turns i.slots.items c.args.region _ None (ap (shown_slot i.turns) c.take_out.ensures.slot))
