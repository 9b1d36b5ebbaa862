use Rattle.heap_questions.specs.Distances.{distance_by}
use Rattle.heap_questions.specs.Graph.{slot_names}
use Rattle.heap_questions.proofs.KnownDistances.{NoneNearer}
use Rattle.heap_questions.proofs.ways.nearer_along.Given as goal

abbrev pub invariant-loop-slot : goal.invariant-loop-slot
invariant-loop-slot l = NoneNearer (distance_by l.nodes l.table) (slot_names l.classes l.object) l.left l.slot
