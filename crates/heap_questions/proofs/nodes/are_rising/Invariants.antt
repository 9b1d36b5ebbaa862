use Rattle.heap_questions.proofs.Halving.{AreRisingTo}
use Rattle.heap_questions.proofs.nodes.are_rising.Given as goal

abbrev pub invariant-loop-i : goal.invariant-loop-i
invariant-loop-i l = AreRisingTo l.nodes l.i
