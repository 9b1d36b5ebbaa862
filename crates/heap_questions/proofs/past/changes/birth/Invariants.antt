use Rattle.std.proofs.Common.{ℕ, ◌<◌, ◌+◌}
use Rattle.std.specs.Prelude.{IsSome}
use Rattle.heap_region.specs.Regions.{object_at}
use Rattle.heap_trail.specs.Trail.{state_ago}
use Rattle.heap_questions.proofs.past.changes.birth.Given as goal

abbrev pub invariant-loop-n : goal.invariant-loop-n
invariant-loop-n l = (m : ℕ) → m < l.n + 1 → IsSome (object_at (state_ago m l.past).regions l.at)
