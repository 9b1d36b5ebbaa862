use Rattle.std.proofs.Common.{◌≡◌, take}
use Rattle.std.specs.Prelude.{sum_by}
use Rattle.question_rows.proofs.histogram.sum_of.Given as goal

abbrev pub invariant-loop-row : goal.invariant-loop-row
invariant-loop-row l = record {
  objects : l.objects ≡ sum_by (λ r. r.objects) (take l.row-index l.rows);
  bytes : l.bytes ≡ sum_by (λ r. r.bytes) (take l.row-index l.rows);
}
