use Rattle.std.proofs.Common.{◌≡◌}
use Rattle.std.specs.Prelude.{option_map}
use Rattle.heap_questions.specs.RegionSummaries.{all_live}
use Rattle.heap_questions.proofs.PastRegions.{first_mapped}
use Rattle.heap_questions.proofs.past.summaries.undo_finish.Given as goal

abbrev pub invariant-loop-region : goal.invariant-loop-region
invariant-loop-region l = l.all.items ≡ first_mapped l.region (option_map all_live) l.fn.all.items
