use Rattle.std.proofs.Common.{List, ℕ, ◌-◌, length}
use Rattle.heap_questions.specs.Search.{IsSearch, with_registers}
use Rattle.heap_questions.proofs.search.search_on.Given as goal

abbrev pub invariant-loop-goal : goal.invariant-loop-goal
invariant-loop-goal g l = (registers : List ℕ) → IsSearch (with_registers (g.V.View.image l.view) registers) l.nodes l.initial.reach.seen.items l.initial.reach.queue.items 0
    → IsSearch (with_registers (g.V.View.image l.view) registers) l.nodes l.reach.seen.items l.reach.queue.items l.head

abbrev pub decreases-loop-goal : goal.decreases-loop-goal
decreases-loop-goal g l = length l.nodes - l.head
