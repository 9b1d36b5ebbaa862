use Rattle.std.proofs.Common.{arith, IfSome, IsSomeAnd, length, is_none, sym, subst, ap, ◌∙◌}
use Rattle.heap_region.specs.Layout.{Heads, IsWholeRegion, cell_filled}
use Rattle.heap_region.specs.Regions.{FitsWords}
use Rattle.heap_region.specs.Table.{first_in}
use Rattle.heap_region.proofs.SlotReads.{slot_changed, slot_read_again, slot_shows, used_slot_within}
use Rattle.heap_region.proofs.Tables.{slot_with_property_is_used}
use Rattle.heap_region.proofs.turned_slots.Slots.unfree.Goals as goal

pub index_mut-requires : goal.index_mut-requires
index_mut-requires c =
    let i = c.self.inside in
    omega (arith, used_slot_within i.turns i.slots.items c.args.region (slot_with_property_is_used _ _ (rw (← c.self.view_is) at c.requires)), i.slots.ok.0)

pub unfree_in-requires : goal.unfree_in-requires
unfree_in-requires c =
    let i = c.self.inside in
    let lt = used_slot_within i.turns i.slots.items c.args.region (slot_with_property_is_used _ _ (rw (← c.self.view_is) at c.requires)) in
    subst (λ x. IsSomeAnd x (λ u. Heads c.args.cell u.free × FitsWords u.cell_size (length c.args.object.now.words))) (sym (slot_shows i.turns i.slots.items c.args.region _ lt c.index_mut.ensures.value)) (rw (← c.self.view_is) at c.requires)

pub returns-clause-state : goal.returns-clause-state
returns-clause-state c =
    let i = c.self.inside in
    let lt = used_slot_within i.turns i.slots.items c.args.region (slot_with_property_is_used _ _ (rw (← c.self.view_is) at c.requires)) in
    rw (← c.self.view_is) (slot_changed i.turns i.slots.items c.args.region (λ u. cell_filled u c.args.cell c.args.object.now) _ _ lt c.index_mut.ensures.value c.unfree_in.ensures.state)

pub returns-clause-whole : goal.returns-clause-whole
returns-clause-whole c =
    let i = c.self.inside in
    let lt = used_slot_within i.turns i.slots.items c.args.region (slot_with_property_is_used _ _ (rw (← c.self.view_is) at c.requires)) in
    subst (λ x. IfSome x (λ u. IsWholeRegion u)) (sym (slot_read_again i.turns i.slots.items c.args.region _ lt)) c.unfree_in.ensures.whole

pub returns-clause-full : goal.returns-clause-full
returns-clause-full c =
    let i = c.self.inside in
    let lt = used_slot_within i.turns i.slots.items c.args.region (slot_with_property_is_used _ _ (rw (← c.self.view_is) at c.requires)) in
    c.unfree_in.ensures.full ∙ ap (λ x. is_none (first_in x)) (sym (slot_read_again i.turns i.slots.items c.args.region _ lt))
