use Rattle.heap_questions.specs.Distances.{distance_by}
use Rattle.heap_questions.proofs.ShortestWays.{IsPartOfWay}
use Rattle.heap_questions.proofs.ways.add_way.Given as goal

abbrev pub invariant-loop-left : goal.invariant-loop-left
invariant-loop-left g l = IsPartOfWay (g.V.View.image l.view) (distance_by l.nodes l.table) l.start l.goal l.fn.hops.items l.hops.items l.here l.left

abbrev pub decreases-loop-left : goal.decreases-loop-left
decreases-loop-left g l = l.left
