use Rattle.std.proofs.Common.{◌≡◌, ◌+◌, ◌≤◌}
use Rattle.question_rows.proofs.UsedRegions.{waiting_from}
use Rattle.question_rows.proofs.status.unswept_count.Given as goal

abbrev pub invariant-loop-region : goal.invariant-loop-region
invariant-loop-region l = record {
  counted : l.count + waiting_from l.regions.regions l.region ≡ waiting_from l.regions.regions 0;
  few : l.count ≤ l.region;
}
