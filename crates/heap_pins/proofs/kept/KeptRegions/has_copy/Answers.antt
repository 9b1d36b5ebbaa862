use Rattle.std.proofs.Common.{◌<◌, ◌∙◌, None, false, length, ap, arith, slice_index_or}
use Rattle.std.specs.Prelude.{is_some}
use Rattle.std.specs.Vec.{vec_capacity}
use Rattle.std.proofs.lemmas.List.{get_or_read, length-map}
use Rattle.heap_pins.specs.KeptRegions.{KeptContents}
use Rattle.heap_pins.specs.Slots.{copy_in}
use Rattle.heap_pins.proofs.SlotTables.{flag_tells, flags_are_as_many}
use Rattle.heap_pins.proofs.kept.KeptRegions.has_copy.Goals as goal

pub index-requires : goal.index-requires
index-requires c = omega (arith, c.requires, ap (λ (k : KeptContents). length k.copies) c.self.view_is, length-map c.self.inside.slots (copy_in c.self.inside.kept.items), flags_are_as_many c.self.inside.copied.items c.self.inside.slots c.self.inside.kept.items (vec_capacity c.self.inside.kept) c.self.invariant)

pub returns : goal.returns
returns c =
    let copied = c.self.inside.copied.items in
    let slots = c.self.inside.slots in
    let kept = c.self.inside.kept.items in
    let lt : c.args.region < length copied = omega (arith, c.requires, ap (λ (k : KeptContents). length k.copies) c.self.view_is, length-map slots (copy_in kept), flags_are_as_many copied slots kept (vec_capacity c.self.inside.kept) c.self.invariant) in
    get_or_read copied c.args.region c.index.result.now lt c.index.ensures false
    ∙ flag_tells copied slots kept (vec_capacity c.self.inside.kept) c.args.region c.self.invariant
    ∙ ap (λ (k : KeptContents). is_some (slice_index_or k.copies c.args.region None)) c.self.view_is
