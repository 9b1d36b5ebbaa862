use Rattle.std.proofs.Common.{◌∙◌, ◌==◌, length, sym}
use Rattle.std.proofs.lemmas.Bool.{eqb-true}
use Rattle.heap_questions.specs.Histogram.{row_number}
use Rattle.heap_questions.proofs.Retained.{both_of_and}
use Rattle.heap_questions.proofs.differences.add_changes.Goals as goal

pub add_slots-requires-clause-like : goal.add_slots-requires-clause-like
add_slots-requires-clause-like c =
    let o = c.args.old.now in
    let n = c.args.new.now in
    eqb-true (length o.words) (length n.words) (both_of_and (row_number o.kind == row_number n.kind) (length o.words == length n.words) (sym c.is_like.ensures ∙ c.if-is_like.true)).1
