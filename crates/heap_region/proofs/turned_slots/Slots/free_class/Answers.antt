use Rattle.std.proofs.Common.{IfSome, arith, ap, subst, ◌∙◌}
use Rattle.heap_region.specs.Layout.{IsWholeRegion}
use Rattle.heap_region.specs.Table.{free_class_of}
use Rattle.heap_region.proofs.KeptSlots.{class_shown, whole_if_kept}
use Rattle.heap_region.proofs.SlotReads.{slot_shows, slot_within}
use Rattle.heap_region.proofs.turned_slots.Slots.free_class.Goals as goal

pub index-requires : goal.index-requires
index-requires c =
    let i = c.self.inside in
    omega (arith, slot_within i.turns i.slots.items c.args.region (rw (← c.self.view_is) at c.requires), i.slots.ok.0)

pub returns-clause-value : goal.returns-clause-value
returns-clause-value c =
    let i = c.self.inside in
    let lt = slot_within i.turns i.slots.items c.args.region (rw (← c.self.view_is) at c.requires) in
    rw (← c.self.view_is) (c.free_class_in.ensures.value ∙ (class_shown i.turns c.index.result.now ∙ ap free_class_of (slot_shows i.turns i.slots.items c.args.region _ lt c.index.ensures)))

pub returns-clause-whole : goal.returns-clause-whole
returns-clause-whole c =
    let i = c.self.inside in
    let lt = slot_within i.turns i.slots.items c.args.region (rw (← c.self.view_is) at c.requires) in
    rw (← c.self.view_is) (subst (λ x. IfSome x (λ u. IsWholeRegion u)) (slot_shows i.turns i.slots.items c.args.region _ lt c.index.ensures) (whole_if_kept i.turns c.index.result.now c.free_class_in.ensures.whole))
