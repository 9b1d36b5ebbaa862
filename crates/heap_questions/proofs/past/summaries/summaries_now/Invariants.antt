use Rattle.std.proofs.Common.{◌≡◌, take}
use Rattle.heap_questions.specs.RegionSummaries.{summaries}
use Rattle.heap_questions.proofs.past.summaries.summaries_now.Given as goal

abbrev pub invariant-loop-region : goal.invariant-loop-region
invariant-loop-region l = l.all.items ≡ summaries (take l.region l.regions.regions)
