use Rattle.std.proofs.Common.{[], ◌+◌, ◌*◌}
use Rattle.heap_questions.specs.Distances.{AreNearest, distance_by}
use Rattle.heap_questions.specs.Search.{slot_span}
use Rattle.heap_questions.specs.Starts.{with_starts}
use Rattle.heap_questions.proofs.nearest.add_slots.Given as goal

abbrev pub invariant-loop-slot : goal.invariant-loop-slot
invariant-loop-slot g l = AreNearest (distance_by l.nodes l.table) (with_starts (g.V.View.image l.view) []).registers (l.register * slot_span + l.slot) l.most l.starts.items
