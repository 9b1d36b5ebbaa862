use Rattle.heap_questions.specs.PastTrails.{IsPinAgo}
use Rattle.heap_questions.proofs.past.seen.past_pin.Given as goal

abbrev pub invariant-loop-n : goal.invariant-loop-n
invariant-loop-n l = IsPinAgo l.pin l.machine.trail l.n
