use Rattle.std.proofs.Common.{◌≡◌, ◌≤◌, take}
use Rattle.std.specs.Prelude.{count_by}
use Rattle.hprof_lines.specs.LeftOut.{is_root_lost}
use Rattle.hprof_lines.specs.Objects.{objects_told}
use Rattle.hprof_lines.proofs.left_out.lost_roots.Given as goal

abbrev pub invariant-loop-root : goal.invariant-loop-root
invariant-loop-root l =
    (l.count ≡ count_by (is_root_lost (objects_told l.all)) (take l.root-index l.roots)) × (l.count ≤ l.root-index)
