use Rattle.std.proofs.Common.{IsSome, arith, sym, ap, subst, ◌∙◌}
use Rattle.heap_region.specs.Table.{first_in}
use Rattle.heap_region.proofs.KeptSlots.{first_shown, headed_region_is_used}
use Rattle.heap_region.proofs.SlotReads.{slot_shows, used_slot_within}
use Rattle.heap_region.proofs.turned_slots.Slots.free_head.Goals as goal

pub index-requires : goal.index-requires
index-requires c =
    let i = c.self.inside in
    omega (arith, used_slot_within i.turns i.slots.items c.args.region (headed_region_is_used _ (rw (← c.self.view_is) at c.requires)), i.slots.ok.0)

pub free_head_in-requires : goal.free_head_in-requires
free_head_in-requires c =
    let i = c.self.inside in
    let lt = used_slot_within i.turns i.slots.items c.args.region (headed_region_is_used _ (rw (← c.self.view_is) at c.requires)) in
    subst IsSome (sym (first_shown i.turns c.index.result.now ∙ ap first_in (slot_shows i.turns i.slots.items c.args.region _ lt c.index.ensures))) (rw (← c.self.view_is) at c.requires)

pub returns-clause-value : goal.returns-clause-value
returns-clause-value c =
    let i = c.self.inside in
    let lt = used_slot_within i.turns i.slots.items c.args.region (headed_region_is_used _ (rw (← c.self.view_is) at c.requires)) in
    rw (← c.self.view_is) (sym (first_shown i.turns c.index.result.now ∙ ap first_in (slot_shows i.turns i.slots.items c.args.region _ lt c.index.ensures)) ∙ c.free_head_in.ensures.value)
