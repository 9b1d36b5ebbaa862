use Rattle.std.proofs.Common.{◌≡◌, ◌≤◌, take}
use Rattle.std.specs.Prelude.{count_by}
use Rattle.question_rows.specs.Growths.{differs}
use Rattle.question_rows.proofs.growth.count_changes.Given as goal

abbrev pub invariant-loop-change : goal.invariant-loop-change
invariant-loop-change l = record {
  counted : l.count ≡ count_by differs (take l.change-index l.changes);
  few : l.count ≤ l.change-index;
}
