use Rattle.std.proofs.Common.{◌≡◌, ◌++◌, ◌≤◌, length}
use Rattle.std.specs.Prelude.{flat_map}
use Rattle.question_rows.specs.CellLists.{region_text}
use Rattle.question_rows.proofs.UsedRegions.{used_before}
use Rattle.question_rows.proofs.cell_list.push_regions.Given as goal

abbrev pub invariant-loop-region : goal.invariant-loop-region
invariant-loop-region l = record {
  lines : l.text.items ≡ l.fn.text.items ++ flat_map (region_text l.cells) (used_before l.cells.regions l.region);
  counted : l.count ≡ length (used_before l.cells.regions l.region);
  few : l.count ≤ l.region;
}
