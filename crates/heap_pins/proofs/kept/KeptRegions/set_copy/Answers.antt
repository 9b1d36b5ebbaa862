use Rattle.std.proofs.Common.{◌≡◌, ◌<◌, ◌∙◌, [], true, length, map, sym, ap, arith, slice_index_or}
use Rattle.std.specs.Prelude.{is_some, slice_set}
use Rattle.std.specs.Vec.{vec_capacity}
use Rattle.std.proofs.lemmas.List.{length-map}
use Rattle.heap_pins.specs.KeptRegions.{KeptContents}
use Rattle.heap_pins.specs.Slots.{bytes_in, copy_in}
use Rattle.heap_pins.proofs.SlotTables.{item_is_kept_of_region, item_is_read, flagged_table_is_table, item_is_written, same_bytes_are_written}
use Rattle.heap_pins.proofs.kept.KeptRegions.set_copy.Goals as goal

pub returns : goal.returns
returns c =
    let slots = c.slot_for-slot.new.slots in
    let kept = c.slot_for-slot.new.kept.items in
    let s = c.slot_for-slot.ensures.slot in
    let lt : c.args.region < length slots = omega (arith, c.requires, ap (λ (k : KeptContents). length k.copies) c.self.view_is, length-map c.self.inside.slots (copy_in c.self.inside.kept.items), s.count) in
    let item = item_is_kept_of_region kept slots c.args.region c.slot_for-slot.result c.index_mut.result.now lt s.slot (item_is_read kept c.slot_for-slot.result c.index_mut.result.now s.within c.index_mut.ensures.value) in
    let bytes : slice_index_or (map (bytes_in c.self.inside.kept.items) c.self.inside.slots) c.args.region [] ≡ c.index_mut.result.now.cells = ap (λ l. slice_index_or l c.args.region []) (sym s.cells) ∙ item.1 in
    item_is_written c.self.inside.slots c.self.inside.kept.items slots kept (vec_capacity c.slot_for-slot.new.kept) c.args.region c.slot_for-slot.result (record { copy = c.replace-old.new.self; cells = c.index_mut.result.now.cells }) c.slot_for-slot.ensures.table lt s
    ∙ (λ j. record {
      copies = slice_set (c.self.view_is j).copies c.args.region (c.replace-old.ensures.after j);
      cells = (same_bytes_are_written (map (bytes_in c.self.inside.kept.items) c.self.inside.slots) c.args.region c.index_mut.result.now.cells bytes ∙ ap (λ (k : KeptContents). k.cells) c.self.view_is) j;
    })

pub invariant_of-self : goal.invariant_of-self
invariant_of-self c =
    let slots = c.slot_for-slot.new.slots in
    let kept = c.slot_for-slot.new.kept.items in
    let s = c.slot_for-slot.ensures.slot in
    let lt : c.args.region < length slots = omega (arith, c.requires, ap (λ (k : KeptContents). length k.copies) c.self.view_is, length-map c.self.inside.slots (copy_in c.self.inside.kept.items), s.count) in
    flagged_table_is_table c.self.inside.copied.items c.self.inside.slots c.self.inside.kept.items slots kept (vec_capacity c.slot_for-slot.new.kept) c.args.region c.slot_for-slot.result (record { copy = c.replace-old.new.self; cells = c.index_mut.result.now.cells }) true c.self.invariant.flags c.slot_for-slot.ensures.table lt s (ap is_some c.replace-old.ensures.after)
