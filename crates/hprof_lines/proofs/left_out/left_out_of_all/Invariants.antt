use Rattle.std.proofs.Common.{List}
use Rattle.hprof_session.specs.Surveys.{bytes_left}
use Rattle.hprof_session.specs.Walks.{ItemTold, left}
use Rattle.hprof_lines.specs.Objects.{objects_told}
use Rattle.hprof_lines.specs.Passes.{IsWhole}
use Rattle.hprof_lines.proofs.Counting.{IsCounting}
use Rattle.hprof_lines.proofs.left_out.left_out_of_all.Given as goal

abbrev pub invariant-items : goal.invariant-items
invariant-items l =
    (items : List ItemTold) → IsWhole (left l.walk) items → IsCounting (objects_told l.all) l.so_far l.i (left l.at) items

abbrev pub decreases-items : goal.decreases-items
decreases-items l = bytes_left (left l.at)
