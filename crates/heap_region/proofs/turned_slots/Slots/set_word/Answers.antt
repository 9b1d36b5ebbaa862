use Rattle.std.proofs.Common.{◌<◌, length, arith, sym, subst}
use Rattle.heap_region.proofs.KeptSlots.{region_of_words_is_used, word_of_slot_written, words_of_found_slot, written_slot_is_whole}
use Rattle.heap_region.proofs.SlotReads.{used_slot_within}
use Rattle.heap_region.proofs.turned_slots.Slots.set_word.Goals as goal

pub index_mut-requires : goal.index_mut-requires
index_mut-requires c =
    let i = c.self.inside in
    omega (arith, used_slot_within i.turns i.slots.items c.args.region (region_of_words_is_used _ c.args.cell c.args.index (rw (← c.self.view_is) at c.requires)), i.slots.ok.0)

pub set_word_in-requires : goal.set_word_in-requires
set_word_in-requires c =
    let i = c.self.inside in
    let lt = used_slot_within i.turns i.slots.items c.args.region (region_of_words_is_used _ c.args.cell c.args.index (rw (← c.self.view_is) at c.requires)) in
    subst (λ ws. c.args.index < length ws) (sym (words_of_found_slot i.turns i.slots.items c.args.region c.args.cell _ lt c.index_mut.ensures.value)) (rw (← c.self.view_is) at c.requires)

pub returns-clause-state : goal.returns-clause-state
returns-clause-state c =
    let i = c.self.inside in
    let lt = used_slot_within i.turns i.slots.items c.args.region (region_of_words_is_used _ c.args.cell c.args.index (rw (← c.self.view_is) at c.requires)) in
    rw (← c.self.view_is) (word_of_slot_written i.turns i.slots.items c.args.region c.args.cell c.args.index c.args.value _ _ lt c.index_mut.ensures.value c.set_word_in.ensures.value)

pub returns-clause-whole : goal.returns-clause-whole
returns-clause-whole c =
    let i = c.self.inside in
    let lt = used_slot_within i.turns i.slots.items c.args.region (region_of_words_is_used _ c.args.cell c.args.index (rw (← c.self.view_is) at c.requires)) in
    written_slot_is_whole i.turns i.slots.items c.args.region _ lt c.set_word_in.ensures.whole
