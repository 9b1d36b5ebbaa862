use Rattle.std.proofs.Common.{◌≡◌}
use Rattle.std.specs.Prelude.{is_some}
use Rattle.heap_region.specs.Regions.{object_at}
use Rattle.heap_trail.specs.Trail.{state_ago}
use Rattle.heap_questions.proofs.past.standing.stood_ago.Given as goal

abbrev pub invariant-loop-n : goal.invariant-loop-n
invariant-loop-n l = l.stood ≡ is_some (object_at (state_ago l.n l.machine.trail).regions l.at)
