use Rattle.std.proofs.Common.{◌≡◌, ◌<◌, ◌-◌, ◌∙◌, None, false, length, map, suc, sym, ap, arith, slice_index_or}
use Rattle.std.proofs.lemmas.List.{length-map}
use Rattle.heap_pins.specs.KeptRegions.{KeptContents}
use Rattle.heap_pins.specs.Slots.{copy_in}
use Rattle.heap_pins.proofs.SlotTables.{item_is_kept_of_region, item_is_read, nothing_is_kept_of_region}
use Rattle.std.specs.Prelude.{is_some, slice_set}
use Rattle.std.specs.Vec.{vec_capacity}
use Rattle.heap_pins.specs.Slots.{bytes_in}
use Rattle.heap_pins.proofs.SlotTables.{flagged_table_is_table, item_is_written, item_was_there, same_bytes_are_written, same_copy_is_written}
use Rattle.heap_pins.proofs.kept.KeptRegions.take_copy.Goals as goal

pub returns-in-0-clause-taken : goal.returns-in-0-clause-taken
returns-in-0-clause-taken c =
    let slots = c.self.inside.slots in
    let kept = c.self.inside.kept.items in
    let lt : c.args.region < length slots = omega (arith, c.requires, ap (λ (k : KeptContents). length k.copies) c.self.view_is, length-map slots (copy_in kept)) in
    let number = c.get.ensures in
    let none = nothing_is_kept_of_region kept slots c.args.region lt (omega (arith, number, c.in-0.is)) in
    sym (ap (λ (k : KeptContents). slice_index_or k.copies c.args.region None) (sym c.self.view_is) ∙ none.0)

pub returns-in-0-clause-left : goal.returns-in-0-clause-left
returns-in-0-clause-left c =
    let slots = c.self.inside.slots in
    let kept = c.self.inside.kept.items in
    let lt : c.args.region < length slots = omega (arith, c.requires, ap (λ (k : KeptContents). length k.copies) c.self.view_is, length-map slots (copy_in kept)) in
    let number = c.get.ensures in
    let none = nothing_is_kept_of_region kept slots c.args.region lt (omega (arith, number, c.in-0.is)) in
    let same = same_copy_is_written c.args.self.now.copies c.args.region None (ap (λ (k : KeptContents). slice_index_or k.copies c.args.region None) (sym c.self.view_is) ∙ none.0) in
    λ j. record { copies = sym same j; cells = c.args.self.now.cells }

pub returns-in_default-clause-taken : goal.returns-in_default-clause-taken
returns-in_default-clause-taken c =
    let slots = c.self.inside.slots in
    let kept = c.self.inside.kept.items in
    let lt : c.args.region < length slots = omega (arith, c.requires, ap (λ (k : KeptContents). length k.copies) c.self.view_is, length-map slots (copy_in kept)) in
    let number = c.get.ensures in
    let i = c.get.result - 1 in
    let at : slice_index_or slots c.args.region 0 ≡ suc (c.get.result - 1) = omega (arith, number, c.in_default) in
    let item = item_is_kept_of_region kept slots c.args.region i c.index_mut.result.now lt at (item_is_read kept i c.index_mut.result.now (omega (arith, at, c.self.invariant.table.within c.args.region)) c.index_mut.ensures.value) in
    c.take-taken.ensures.value ∙ sym (ap (λ (k : KeptContents). slice_index_or k.copies c.args.region None) (sym c.self.view_is) ∙ item.0)

pub returns-in_default-clause-left : goal.returns-in_default-clause-left
returns-in_default-clause-left c =
    let slots = c.self.inside.slots in
    let kept = c.self.inside.kept.items in
    let lt : c.args.region < length slots = omega (arith, c.requires, ap (λ (k : KeptContents). length k.copies) c.self.view_is, length-map slots (copy_in kept)) in
    let number = c.get.ensures in
    let i = c.get.result - 1 in
    let at : slice_index_or slots c.args.region 0 ≡ suc (c.get.result - 1) = omega (arith, number, c.in_default) in
    let item = item_is_kept_of_region kept slots c.args.region i c.index_mut.result.now lt at (item_is_read kept i c.index_mut.result.now (omega (arith, at, c.self.invariant.table.within c.args.region)) c.index_mut.ensures.value) in
    item_is_written slots kept slots kept (vec_capacity c.self.inside.kept) c.args.region i (record { copy = c.take-taken.new.self; cells = c.index_mut.result.now.cells }) c.self.invariant.table lt
    (item_was_there slots kept (vec_capacity c.self.inside.kept) c.args.region i c.self.invariant.table at)
    ∙ (λ j. record {
      copies = slice_set (c.self.view_is j).copies c.args.region (c.take-taken.ensures.after j);
      cells = (same_bytes_are_written (map (bytes_in kept) slots) c.args.region c.index_mut.result.now.cells item.1 ∙ ap (λ (k : KeptContents). k.cells) c.self.view_is) j;
    })

pub invariant_of-self : goal.invariant_of-self
invariant_of-self c =
    let slots = c.self.inside.slots in
    let kept = c.self.inside.kept.items in
    let lt : c.args.region < length slots = omega (arith, c.requires, ap (λ (k : KeptContents). length k.copies) c.self.view_is, length-map slots (copy_in kept)) in
    let number = c.get.ensures in
    let i = c.get.result - 1 in
    let at : slice_index_or slots c.args.region 0 ≡ suc (c.get.result - 1) = omega (arith, number, c.in_default) in
    flagged_table_is_table c.self.inside.copied.items slots kept slots kept (vec_capacity c.self.inside.kept) c.args.region i (record { copy = c.take-taken.new.self; cells = c.index_mut.result.now.cells }) false c.self.invariant.flags c.self.invariant.table lt
    (item_was_there slots kept (vec_capacity c.self.inside.kept) c.args.region i c.self.invariant.table at) (ap is_some c.take-taken.ensures.after)
