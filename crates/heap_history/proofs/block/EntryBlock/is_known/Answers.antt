use Rattle.std.proofs.Common.{◌≡◌, ◌<◌, length, sym, ap, ◌∙◌, arith}
use Rattle.std.specs.Prelude.{Some, slice_get}
use Rattle.heap_history.specs.Blocks.{BlockState}
use Rattle.heap_history.specs.Packs.{entry_in}
use Rattle.heap_history.proofs.Cases.{bool_cases_weakened}
use Rattle.heap_history.proofs.Places.{pack_at_index_is_placed, empty_pack_tells_none, told_is_not_forgotten, missing_is_not_forgotten, entry_at_pack_index, no_entry_past_packs, filled_pack_tells_some_entry}
use Rattle.heap_history.proofs.block.EntryBlock.is_known.Goals as goal

pub returns-then-at-len : goal.returns-then-at-len
returns-then-at-len c =
    let none = no_entry_past_packs c.self.inside.longs.items c.self.inside.packs.items c.args.at (omega (arith, c.len.ensures, c.if-at-len.true)) in
    missing_is_not_forgotten _ (ap (λ (s : BlockState). slice_get s.entries c.args.at) (sym c.self.view_is) ∙ none)

pub returns : goal.returns
returns c =
    let longs = c.self.inside.longs.items in
    let packs = c.self.inside.packs.items in
    let p = c.index.result.now in
    let lt : c.args.at < length packs = omega (arith, c.len.ensures, c.if-at-len.false) in
    let is : slice_get c.args.self.now.entries c.args.at ≡ Some (entry_in longs p) =
    ap (λ (s : BlockState). slice_get s.entries c.args.at) (sym c.self.view_is) ∙ entry_at_pack_index longs packs c.args.at p lt c.index.ensures in
    let placed = pack_at_index_is_placed (length longs) packs c.args.at p c.self.invariant lt c.index.ensures in
    bool_cases_weakened c.tells_some.result _ _ _ _ c.tells_some.ensures (λ some. told_is_not_forgotten _ _ is (filled_pack_tells_some_entry longs p some placed)) (λ no. is ∙ ap Some (empty_pack_tells_none longs p no))
