use Rattle.std.proofs.Common.{◌≡◌}
use Rattle.heap_trail.specs.Trail.{state_ago}
use Rattle.heap_questions.specs.RegionSummaries.{summaries}
use Rattle.heap_questions.proofs.past.summaries.region_summaries.Given as goal

abbrev pub invariant-loop-n : goal.invariant-loop-n
invariant-loop-n l = l.all.items ≡ summaries (state_ago l.n l.machine.trail).regions
