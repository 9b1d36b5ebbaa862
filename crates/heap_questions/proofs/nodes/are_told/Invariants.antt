use Rattle.std.proofs.Common.{◌≤◌, ◌*◌, length}
use Rattle.heap_questions.specs.Hints.{AreToldTo}
use Rattle.heap_questions.proofs.nodes.are_told.Given as goal

abbrev pub invariant-loop-place : goal.invariant-loop-place
invariant-loop-place l = record {
  within : l.node ≤ length l.nodes;
  told : AreToldTo l.first l.hints l.nodes (l.place * 64) l.node;
}
