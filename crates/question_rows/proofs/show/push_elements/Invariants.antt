use Rattle.std.proofs.Common.{◌≡◌, ◌++◌, drop}
use Rattle.question_rows.specs.Objects.{element_rows, rows_joined}
use Rattle.question_rows.proofs.show.push_elements.Given as goal

abbrev pub invariant-loop-index : goal.invariant-loop-index
invariant-loop-index l =
    l.text.items ++ rows_joined (drop l.index (element_rows l.kind 0 l.words)) ≡ l.fn.text.items ++ rows_joined (drop l.from (element_rows l.kind 0 l.words))
