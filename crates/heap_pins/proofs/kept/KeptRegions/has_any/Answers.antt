use Rattle.std.proofs.Common.{◌<◌, ◌∙◌, [], None, length, sym, ap, arith, slice_index_or}
use Rattle.std.proofs.lemmas.List.{length-map}
use Rattle.heap_pins.specs.KeptRegions.{KeptContents}
use Rattle.heap_pins.specs.Slots.{copy_in}
use Rattle.heap_pins.proofs.SlotTables.{nothing_is_kept_of_region, zero_by_flag}
use Rattle.heap_pins.proofs.kept.KeptRegions.has_any.Goals as goal

pub returns : goal.returns
returns c h =
    let slots = c.self.inside.slots in
    let kept = c.self.inside.kept.items in
    let lt : c.args.region < length slots = omega (arith, c.requires, ap (λ (k : KeptContents). length k.copies) c.self.view_is, length-map slots (copy_in kept)) in
    let number = c.get.ensures in
    let none = nothing_is_kept_of_region kept slots c.args.region lt (sym number ∙ zero_by_flag c.get.result h) in (
      ap (λ (k : KeptContents). slice_index_or k.copies c.args.region None) (sym c.self.view_is) ∙ none.0,
      ap (λ (k : KeptContents). slice_index_or k.cells c.args.region []) (sym c.self.view_is) ∙ none.1,
    )
