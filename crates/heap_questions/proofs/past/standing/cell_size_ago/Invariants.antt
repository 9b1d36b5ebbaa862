use Rattle.std.proofs.Common.{◌≤◌}
use Rattle.heap_region.specs.Limits.{heap_words}
use Rattle.heap_trail.specs.Trail.{state_ago}
use Rattle.heap_questions.specs.PastTrails.{HasCellSize}
use Rattle.heap_questions.proofs.past.standing.cell_size_ago.Given as goal

abbrev pub invariant-loop-n : goal.invariant-loop-n
invariant-loop-n l = record {
  value : HasCellSize (state_ago l.n l.machine.trail) l.region l.size;
  limit : l.size ≤ heap_words;
}
