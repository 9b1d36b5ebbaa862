use Rattle.std.proofs.Common.{◌≡◌, ◌+◌, ◌++◌, length}
use Rattle.question_rows.specs.Objects.{rows_joined}
use Rattle.question_rows.specs.Trees.{branches}
use Rattle.question_rows.proofs.TreeRows.{rows_below}
use Rattle.question_rows.proofs.tree.+push_level.Given as goal

abbrev pub decreases-push_level : goal.decreases-push_level
decreases-push_level g l = l.below

abbrev pub invariant-loop-slot : goal.invariant-loop-slot
invariant-loop-slot g l = record {
  text : l.rows.text.items ≡ l.fn.rows.text.items ++ rows_joined (branches (rows_below l.below l.index l.level) l.index l.level l.object l.slot);
  room : l.rows.room + length (branches (rows_below l.below l.index l.level) l.index l.level l.object l.slot) ≡ l.fn.rows.room;
}
