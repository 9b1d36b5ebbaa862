use Rattle.std.proofs.Common.{◌*◌, map}
use Rattle.heap_questions.specs.PathsApart.{route_of}
use Rattle.heap_questions.specs.Search.{IsBeginning, slot_span}
use Rattle.heap_questions.specs.Starts.{with_starts}
use Rattle.heap_questions.proofs.starts.find_starts.Given as goal

abbrev pub invariant-loop-r : goal.invariant-loop-r
invariant-loop-r g l = IsBeginning (with_starts (g.V.View.image l.view) (map route_of l.paths)) l.nodes l.reach.seen.items l.reach.queue.items (l.r * slot_span)
