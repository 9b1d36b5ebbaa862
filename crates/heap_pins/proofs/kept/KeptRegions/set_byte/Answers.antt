use Rattle.std.proofs.Common.{◌≡◌, ◌<◌, ◌∙◌, [], None, length, map, sym, ap, arith, slice_index_or}
use Rattle.std.specs.Prelude.{slice_set}
use Rattle.std.specs.Vec.{vec_capacity}
use Rattle.std.proofs.lemmas.List.{length-map}
use Rattle.heap_pins.specs.KeptRegions.{KeptContents}
use Rattle.heap_pins.specs.Slots.{bytes_in, copy_in}
use Rattle.heap_pins.proofs.SlotTables.{item_is_kept_of_region, item_is_read, item_is_written, same_copy_is_written, written_table_is_table}
use Rattle.heap_pins.proofs.kept.KeptRegions.set_byte.Goals as goal

pub returns : goal.returns
returns c =
    let slots = c.slot_for-slot.new.slots in
    let kept = c.slot_for-slot.new.kept.items in
    let s = c.slot_for-slot.ensures.slot in
    let lt : c.args.region < length slots = omega (arith, c.requires.region, ap (λ (k : KeptContents). length k.copies) c.self.view_is, length-map c.self.inside.slots (copy_in c.self.inside.kept.items), s.count) in
    let item = item_is_kept_of_region kept slots c.args.region c.slot_for-slot.result c.index_mut.result.now lt s.slot (item_is_read kept c.slot_for-slot.result c.index_mut.result.now s.within c.index_mut.ensures.value) in
    let copied : slice_index_or (map (copy_in c.self.inside.kept.items) c.self.inside.slots) c.args.region None ≡ c.index_mut.result.now.copy = ap (λ l. slice_index_or l c.args.region None) (sym s.copies) ∙ item.0 in
    let bytes : slice_index_or (map (bytes_in c.self.inside.kept.items) c.self.inside.slots) c.args.region [] ≡ c.index_mut.result.now.cells = ap (λ l. slice_index_or l c.args.region []) (sym s.cells) ∙ item.1 in
    item_is_written c.self.inside.slots c.self.inside.kept.items slots kept (vec_capacity c.slot_for-slot.new.kept) c.args.region c.slot_for-slot.result (record { copy = c.index_mut.result.now.copy; cells = slice_set c.index_mut.result.now.cells c.args.cell c.args.byte }) c.slot_for-slot.ensures.table lt s
    ∙ (λ j. record {
      copies = (same_copy_is_written (map (copy_in c.self.inside.kept.items) c.self.inside.slots) c.args.region c.index_mut.result.now.copy copied ∙ ap (λ (k : KeptContents). k.copies) c.self.view_is) j;
      cells = (ap (λ l. slice_set (map (bytes_in c.self.inside.kept.items) c.self.inside.slots) c.args.region (slice_set l c.args.cell c.args.byte)) (sym bytes)
          ∙ ap (λ (k : KeptContents). slice_set k.cells c.args.region (slice_set (slice_index_or k.cells c.args.region []) c.args.cell c.args.byte)) c.self.view_is) j;
    })

pub invariant_of-self : goal.invariant_of-self
invariant_of-self c =
    let slots = c.slot_for-slot.new.slots in
    let kept = c.slot_for-slot.new.kept.items in
    let s = c.slot_for-slot.ensures.slot in
    let lt : c.args.region < length slots = omega (arith, c.requires.region, ap (λ (k : KeptContents). length k.copies) c.self.view_is, length-map c.self.inside.slots (copy_in c.self.inside.kept.items), s.count) in
    let item = item_is_kept_of_region kept slots c.args.region c.slot_for-slot.result c.index_mut.result.now lt s.slot (item_is_read kept c.slot_for-slot.result c.index_mut.result.now s.within c.index_mut.ensures.value) in
    let copied : slice_index_or (map (copy_in c.self.inside.kept.items) c.self.inside.slots) c.args.region None ≡ c.index_mut.result.now.copy = ap (λ l. slice_index_or l c.args.region None) (sym s.copies) ∙ item.0 in
    written_table_is_table c.self.inside.copied.items c.self.inside.slots c.self.inside.kept.items slots kept (vec_capacity c.slot_for-slot.new.kept) c.args.region c.slot_for-slot.result (record { copy = c.index_mut.result.now.copy; cells = slice_set c.index_mut.result.now.cells c.args.cell c.args.byte }) c.self.invariant.flags c.slot_for-slot.ensures.table lt s copied
