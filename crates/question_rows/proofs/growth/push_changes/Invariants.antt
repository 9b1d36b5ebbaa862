use Rattle.std.proofs.Common.{◌≡◌, ◌++◌, ◌+◌, drop}
use Rattle.question_rows.specs.Growths.{changed_texts}
use Rattle.question_rows.proofs.growth.push_changes.Given as goal

abbrev pub invariant-loop-index : goal.invariant-loop-index
invariant-loop-index l =
    l.text.items ++ changed_texts l.classes (l.first + l.index) (drop l.index l.changes) ≡ l.fn.text.items ++ changed_texts l.classes l.first l.changes
