use Rattle.std.proofs.Common.{List}
use Rattle.hprof_session.specs.Surveys.{bytes_left}
use Rattle.hprof_session.specs.Walks.{ItemTold, left}
use Rattle.hprof_lines.specs.Objects.{objects_told}
use Rattle.hprof_lines.specs.Passes.{IsWhole}
use Rattle.hprof_lines.proofs.Passing.{IsPassing}
use Rattle.hprof_lines.proofs.passes.write_pass.Given as goal

abbrev pub invariant-items : goal.invariant-items
invariant-items g l =
    (items : List ItemTold) → IsWhole (left l.walk) items
    → IsPassing l.pass (objects_told l.all) l.i (left l.at) l.lines (g.O.Outlet.seen l.initial.outlet) (g.O.Outlet.seen l.outlet) items

abbrev pub decreases-items : goal.decreases-items
decreases-items g l = bytes_left (left l.at)
