use Rattle.std.proofs.Common.{◌≡◌, ◌+◌}
use Rattle.heap_questions.specs.Newest.{steps_back}
use Rattle.heap_questions.specs.PastTrails.{IsPinAgo}
use Rattle.heap_questions.proofs.past.steps.history.Given as goal

abbrev pub invariant-loop-n : goal.invariant-loop-n
invariant-loop-n l = record {
  pin : IsPinAgo l.pin l.machine.trail (l.ago + l.n);
  steps : l.steps.items ≡ steps_back l.machine.trail l.ago l.n;
}
