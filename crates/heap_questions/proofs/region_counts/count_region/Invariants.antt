use Rattle.std.proofs.Common.{◌≡◌, ◌+◌, ◌≤◌, take}
use Rattle.std.specs.Prelude.{count_by}
use Rattle.heap_region.specs.Live.{is_live}
use Rattle.heap_region.specs.Live.{is_dead}
use Rattle.heap_questions.proofs.region_counts.count_region.Given as goal

abbrev pub invariant-loop-cell : goal.invariant-loop-cell
invariant-loop-cell l = record {
  live : l.live ≡ count_by is_live (take l.cell l.storage.cells);
  dead : l.dead ≡ count_by is_dead (take l.cell l.storage.cells);
  few : l.live + l.dead ≤ l.cell;
}
