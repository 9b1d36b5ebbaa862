use Rattle.std.proofs.Common.{◌≡◌}
use Rattle.hprof_lines.specs.LeftOut.{lost_fields}
use Rattle.hprof_lines.proofs.left_out.lost_fields.Given as goal

abbrev pub invariant-loop-k : goal.invariant-loop-k
invariant-loop-k l = l.count ≡ lost_fields l.plan l.k
