use Rattle.std.proofs.Common.{None, get_or, map, arith, ◌∙◌}
use Rattle.std.proofs.lemmas.List.{set-get_or}
use Rattle.heap_region.specs.Slots.{shown_slot}
use Rattle.heap_region.proofs.SlotReads.{slot_shows, slot_written}
use Rattle.heap_region.proofs.turned_slots.Slots.settle.Goals as goal

pub returns : goal.returns
returns c =
    let i = c.self.inside in
    rw (← c.self.view_is) (
    slot_written i.turns i.slots.items c.args.region _ (get_or (map (shown_slot i.turns) i.slots.items) c.args.region None)
    (c.settle_in.ensures ∙ slot_shows i.turns i.slots.items c.args.region _ (omega arith) c.index_mut.ensures.value)
    ∙ set-get_or (map (shown_slot i.turns) i.slots.items) c.args.region None
    )
