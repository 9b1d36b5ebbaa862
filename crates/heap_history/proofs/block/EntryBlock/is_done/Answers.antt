use Rattle.std.proofs.Common.{◌≡◌, ◌<◌, List, length, sym, ap, subst, ◌∙◌, arith}
use Rattle.std.specs.Prelude.{Some, slice_get}
use Rattle.std.proofs.lemmas.Option.{IfSome_then}
use Rattle.heap_history.specs.declared.pack.LongPack.{LongPack}
use Rattle.heap_history.specs.Blocks.{BlockState, HasPlace}
use Rattle.heap_history.specs.History.{entry}
use Rattle.heap_history.specs.Packs.{entry_in}
use Rattle.heap_history.proofs.Cases.{case_of_none_weakened}
use Rattle.heap_history.proofs.Places.{pack_at_index_is_placed, no_entry_at_index, entry_at_pack_index, no_entry_past_packs, pack_entry_told_at_index}
use Rattle.heap_history.proofs.block.EntryBlock.is_done.Goals as goal

pub tells-requires : goal.tells-requires
tells-requires c =
    let longs = c.self.inside.longs.items in
    let packs = c.self.inside.packs.items in
    let p = c.index-pack.result.now in
    let lt : c.args.at < length packs = omega (arith, c.len.ensures, c.if-at-len.false) in
    subst (λ (l : List LongPack). HasPlace (length l) p) (sym c.as_slice.ensures.value) (pack_at_index_is_placed (length longs) packs c.args.at p c.self.invariant lt c.index-pack.ensures)

pub returns-then-at-len-clause-kept : goal.returns-then-at-len-clause-kept
returns-then-at-len-clause-kept c =
    let none = no_entry_past_packs c.self.inside.longs.items c.self.inside.packs.items c.args.at (omega (arith, c.len.ensures, c.if-at-len.true)) in
    no_entry_at_index _ (entry c.args.seat c.args.action.now c.args.answer) (ap (λ (s : BlockState). slice_get s.entries c.args.at) (sym c.self.view_is) ∙ none)

pub returns-clause-kept : goal.returns-clause-kept
returns-clause-kept c =
    let longs = c.self.inside.longs.items in
    let packs = c.self.inside.packs.items in
    let p = c.index-pack.result.now in
    let lt : c.args.at < length packs = omega (arith, c.len.ensures, c.if-at-len.false) in
    let is : slice_get c.args.self.now.entries c.args.at ≡ Some (entry_in c.as_slice.result.now p) =
    ap (λ (s : BlockState). slice_get s.entries c.args.at) (sym c.self.view_is) ∙ entry_at_pack_index longs packs c.args.at p lt c.index-pack.ensures ∙ ap (λ (l : List LongPack). Some (entry_in l p)) (sym c.as_slice.ensures.value) in
    IfSome_then c.tells.result c.tells.ensures.kept (λ b h. pack_entry_told_at_index b _ _ (entry c.args.seat c.args.action.now c.args.answer) is h)

pub returns-clause-unkept : goal.returns-clause-unkept
returns-clause-unkept c =
    let longs = c.self.inside.longs.items in
    let packs = c.self.inside.packs.items in
    let p = c.index-pack.result.now in
    let lt : c.args.at < length packs = omega (arith, c.len.ensures, c.if-at-len.false) in
    let is : slice_get c.args.self.now.entries c.args.at ≡ Some (entry_in c.as_slice.result.now p) =
    ap (λ (s : BlockState). slice_get s.entries c.args.at) (sym c.self.view_is) ∙ entry_at_pack_index longs packs c.args.at p lt c.index-pack.ensures ∙ ap (λ (l : List LongPack). Some (entry_in l p)) (sym c.as_slice.ensures.value) in
    case_of_none_weakened c.tells.result _ _ c.tells.ensures.unkept (λ q. is ∙ ap Some q)
