use Rattle.std.proofs.Common.{◌≡◌, ◌≤◌, take}
use Rattle.std.specs.Prelude.{count_by}
use Rattle.hprof_lines.specs.LeftOut.{is_lost}
use Rattle.hprof_lines.specs.Objects.{objects_told}
use Rattle.hprof_lines.proofs.left_out.lost_in.Given as goal

abbrev pub invariant-loop-value : goal.invariant-loop-value
invariant-loop-value l =
    (l.count ≡ count_by (is_lost (objects_told l.all)) (take l.value-index l.values)) × (l.count ≤ l.value-index)
