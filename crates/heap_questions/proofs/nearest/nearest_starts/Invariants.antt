use Rattle.std.proofs.Common.{[], ◌*◌}
use Rattle.heap_questions.specs.Distances.{AreNearest, distance_by}
use Rattle.heap_questions.specs.Search.{slot_span}
use Rattle.heap_questions.specs.Starts.{with_starts}
use Rattle.heap_questions.proofs.nearest.nearest_starts.Given as goal

abbrev pub invariant-loop-r : goal.invariant-loop-r
invariant-loop-r g l = AreNearest (distance_by l.nodes l.table) (with_starts (g.V.View.image l.view) []).registers (l.r * slot_span) l.most l.starts.items
