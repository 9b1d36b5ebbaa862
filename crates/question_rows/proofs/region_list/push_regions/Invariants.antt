use Rattle.std.proofs.Common.{◌≡◌, ◌++◌, ◌≤◌, List, length}
use Rattle.std.specs.Prelude.{flat_map}
use Rattle.heap_world.specs.Regions.{Region}
use Rattle.heap_questions.specs.RegionSummaries.{summaries}
use Rattle.question_rows.specs.RegionLists.{region_row}
use Rattle.question_rows.proofs.UsedRegions.{used_before}
use Rattle.question_rows.proofs.region_list.push_regions.Given as goal

abbrev pub invariant-loop-region : goal.invariant-loop-region
invariant-loop-region l = record {
  lines : (regions : List Region) → l.all ≡ summaries regions → l.text.items ≡ l.fn.text.items ++ flat_map (region_row regions) (used_before regions l.region);
  counted : (regions : List Region) → l.all ≡ summaries regions → l.count ≡ length (used_before regions l.region);
  few : l.count ≤ l.region;
}
