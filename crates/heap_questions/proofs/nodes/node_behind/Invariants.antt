use Rattle.std.proofs.Common.{◌≡◌, ◌<◌, ◌≤◌, ◌+◌, ◌-◌, ◌*◌, ◌/◌, ◌^◌, length}
use Rattle.heap_questions.specs.Hints.{AreToldTo}
use Rattle.heap_questions.proofs.nodes.node_behind.Given as goal

abbrev pub invariant-loop-rest : goal.invariant-loop-rest
invariant-loop-rest l = record {
  rest : l.rest ≡ l.fn.hint.bits / 2 ^ l.step;
  step : l.step ≤ 64;
  fits : l.fn.hint.bits < 2 ^ 64;
  within : l.node ≤ length l.nodes;
  told : AreToldTo l.first l.hints l.nodes (l.place * 64 + l.step) l.node;
}

abbrev pub decreases-loop-rest : goal.decreases-loop-rest
decreases-loop-rest l = 64 - l.step
