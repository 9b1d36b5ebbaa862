use Rattle.std.proofs.Common.{drop}
use Rattle.hprof_session.specs.Places.{lines_of}
use Rattle.hprof_lines.specs.Objects.{objects_told}
use Rattle.hprof_lines.specs.StaticObjects.{statics_events}
use Rattle.hprof_lines.proofs.Puttings.{IsPutting}
use Rattle.hprof_lines.proofs.static_objects.write_statics.Given as goal

abbrev pub invariant-loop-n : goal.invariant-loop-n
invariant-loop-n g l =
    IsPutting (g.O.Outlet.seen l.initial.outlet) (g.O.Outlet.seen l.outlet) l.lines
    (statics_events l.pass (objects_told l.all) l.n (drop l.n l.statics))
    (lines_of (statics_events l.pass (objects_told l.all) 0 l.statics))
