use Rattle.heap_questions.proofs.PastLives.{AreLivesTo}
use Rattle.heap_questions.proofs.past.lives.newest_lives.Given as goal

abbrev pub invariant-loop-n : goal.invariant-loop-n
invariant-loop-n l = AreLivesTo l.machine.trail l.id l.region l.size l.stood l.newest l.n l.lives.items
