use Rattle.std.proofs.Common.{ℕ, ◌<◌}
use Rattle.heap_questions.specs.Distances.{IsFitNode, distance_by}
use Rattle.heap_questions.proofs.distances.are_distances.Given as goal

abbrev pub invariant-loop-node : goal.invariant-loop-node
invariant-loop-node g l = (k : ℕ) → k < l.node → IsFitNode (g.V.View.image l.view) (distance_by l.nodes l.table) l.goal l.nodes k
