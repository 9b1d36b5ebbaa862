use Rattle.std.proofs.Common.{◌≡◌, arith, IsSome, IfSome, is_none, sym, subst, ap, ◌∙◌}
use Rattle.heap_region.specs.Layout.{IsWholeRegion, header_of}
use Rattle.heap_region.specs.Pool.{cell_freed}
use Rattle.heap_region.specs.Regions.{slot_object}
use Rattle.heap_region.specs.Table.{first_in}
use Rattle.heap_region.proofs.ShownRegions.{slot_of_object_is_used}
use Rattle.heap_region.proofs.SlotReads.{slot_changed, slot_read_again, slot_shows, used_slot_within}
use Rattle.heap_region.proofs.turned_slots.Slots.free.Goals as goal

pub index_mut-requires : goal.index_mut-requires
index_mut-requires c =
    let i = c.self.inside in
    omega (arith, used_slot_within i.turns i.slots.items c.args.region (slot_of_object_is_used _ c.args.cell (rw (← c.self.view_is) at c.requires)), i.slots.ok.0)

pub free_in-requires : goal.free_in-requires
free_in-requires c =
    let i = c.self.inside in
    let lt = used_slot_within i.turns i.slots.items c.args.region (slot_of_object_is_used _ c.args.cell (rw (← c.self.view_is) at c.requires)) in
    subst (λ x. IsSome (slot_object x c.args.cell)) (sym (slot_shows i.turns i.slots.items c.args.region _ lt c.index_mut.ensures.value)) (rw (← c.self.view_is) at c.requires)

pub returns-clause-state : goal.returns-clause-state
returns-clause-state c =
    let i = c.self.inside in
    let lt = used_slot_within i.turns i.slots.items c.args.region (slot_of_object_is_used _ c.args.cell (rw (← c.self.view_is) at c.requires)) in
    rw (← c.self.view_is) (slot_changed i.turns i.slots.items c.args.region (λ u. cell_freed u c.args.cell) _ _ lt c.index_mut.ensures.value c.free_in.ensures.state)

pub returns-clause-whole : goal.returns-clause-whole
returns-clause-whole c =
    let i = c.self.inside in
    let lt = used_slot_within i.turns i.slots.items c.args.region (slot_of_object_is_used _ c.args.cell (rw (← c.self.view_is) at c.requires)) in
    subst (λ x. IfSome x (λ u. IsWholeRegion u)) (sym (slot_read_again i.turns i.slots.items c.args.region _ lt)) c.free_in.ensures.whole

pub returns-clause-full : goal.returns-clause-full
returns-clause-full c =
    let i = c.self.inside in
    let lt = used_slot_within i.turns i.slots.items c.args.region (slot_of_object_is_used _ c.args.cell (rw (← c.self.view_is) at c.requires)) in
    rw (← c.self.view_is) (c.free_in.ensures.full ∙ ap (λ x. is_none (first_in x)) (slot_shows i.turns i.slots.items c.args.region _ lt c.index_mut.ensures.value))

pub returns-clause-was : goal.returns-clause-was
returns-clause-was c =
    let i = c.self.inside in
    let lt = used_slot_within i.turns i.slots.items c.args.region (slot_of_object_is_used _ c.args.cell (rw (← c.self.view_is) at c.requires)) in
    rw (← c.self.view_is) (subst (λ x. IfSome (slot_object x c.args.cell) (λ o. c.free_in.result.1 ≡ header_of o)) (slot_shows i.turns i.slots.items c.args.region _ lt c.index_mut.ensures.value) c.free_in.ensures.was)
