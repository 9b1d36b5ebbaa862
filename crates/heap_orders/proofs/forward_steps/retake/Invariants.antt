use Rattle.std.proofs.Common.{◌≡◌, ◌+◌}
use Rattle.heap_orders.specs.Redos.{TakesAgain}
use Rattle.heap_orders.proofs.forward_steps.retake.Given as goal

abbrev pub invariant-loop-done : goal.invariant-loop-done
invariant-loop-done l = record {
  taken : TakesAgain l._done l.fn.machine l.fn.redo l.machine l.redo;
  ahead : l._done + l.redo.ahead ≡ l.fn.redo.ahead;
}
