use Rattle.heap_questions.proofs.EndedCycles.{AreCyclesTo}
use Rattle.heap_questions.proofs.past.cycles.newest_cycles.Given as goal

abbrev pub invariant-loop-n : goal.invariant-loop-n
invariant-loop-n l = AreCyclesTo l.machine.trail l.n l.dead l.left l.cycles.items
