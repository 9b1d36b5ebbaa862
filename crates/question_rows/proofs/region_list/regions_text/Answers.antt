use Rattle.std.proofs.Common.{subst, sym}
use Rattle.heap_questions.specs.RegionSummaries.{HaveFew}
use Rattle.question_rows.proofs.region_list.regions_text.Goals as goal

pub push_regions-requires : goal.push_regions-requires
push_regions-requires c = subst HaveFew (sym c.as_slice.ensures.value) c.in_ok-all.ensures.few
