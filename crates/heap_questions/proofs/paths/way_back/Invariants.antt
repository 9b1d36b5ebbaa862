use Rattle.std.proofs.Common.{List, ℕ}
use Rattle.heap_questions.specs.Search.{Found, IsQueueOf, with_registers}
use Rattle.heap_questions.proofs.WaysBack.{GoesOnFrom}
use Rattle.heap_questions.proofs.paths.way_back.Given as goal

abbrev pub invariant-loop-here : goal.invariant-loop-here
invariant-loop-here g l = (registers : List ℕ) (q : List Found) → IsQueueOf (with_registers (g.V.View.image l.view) registers) l.nodes l.queue q → GoesOnFrom (with_registers (g.V.View.image l.view) registers) q l.index l.here l.hops.items

abbrev pub decreases-loop-here : goal.decreases-loop-here
decreases-loop-here g l = l.here.from
