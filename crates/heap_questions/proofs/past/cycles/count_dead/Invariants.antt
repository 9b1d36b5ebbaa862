use Rattle.std.proofs.Common.{◌≡◌, ◌≤◌, ◌*◌, take}
use Rattle.heap_questions.specs.RegionCounts.{dead_objects}
use Rattle.heap_questions.proofs.past.cycles.count_dead.Given as goal

abbrev pub invariant-loop-region : goal.invariant-loop-region
invariant-loop-region l = record {
  counted : l.dead ≡ dead_objects (take l.region l.regions.regions);
  few : l.dead ≤ l.region * 256;
}
