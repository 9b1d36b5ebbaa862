use Rattle.std.proofs.Common.{◌≡◌, ◌<◌, length, ◌∙◌, ap, arith}
use Rattle.heap_class.specs.Classes.{name_table}
use Rattle.hprof_text.specs.Sizes.{names_size, utf8_size}
use Rattle.std.specs.Prelude.{sum_by}
use Rattle.hprof_text.proofs.Bounds.{id_small}
use Rattle.hprof_text.proofs.Loops.{sum_so_far, take_of_whole_length, indexed_item_from_slice}
use Rattle.hprof_text.proofs.sizes.names_size.Goals as goal

pub loop-index-preserved : goal.loop-index-preserved
loop-index-preserved c =
    let names = name_table c.args.classes.now in
    let i = c.loop-index.index in
    let x = c.name_at.result.now in
    let h : i < length names = omega arith in
    let e = sum_so_far (utf8_size c.args.ids) names i x h (indexed_item_from_slice names i x c.name_at.ensures.value) in
    (omega (arith, e, c.loop-index.invariant.0, c.bytes.ensures), omega (arith, c.loop-index.invariant.1, c.bytes.ensures, id_small c.args.ids, c.name_at.ensures.limit))

pub returns-clause-value : goal.returns-clause-value
unfolding names_size
returns-clause-value c =
    let names = name_table c.args.classes.now in
    let e : c.loop-index.index ≡ length names = omega arith in
    c.loop-index.invariant.0 ∙ ap (sum_by (utf8_size c.args.ids)) (take_of_whole_length c.loop-index.index names e)
