use Rattle.std.proofs.Common.{◌+◌, ◌≤◌, ◌++◌, drop}
use Rattle.hprof_session.specs.Places.{lines_of}
use Rattle.hprof_lines.specs.Objects.{objects_told}
use Rattle.hprof_lines.specs.Roots.{clear_events, kinds_events, roots_events}
use Rattle.hprof_lines.proofs.Puttings.{IsPutting}
use Rattle.hprof_lines.proofs.roots.write_roots.Given as goal

abbrev pub invariant-loop-j : goal.invariant-loop-j
invariant-loop-j g l = record {
  room : l.first ≤ 1024;
  putting : IsPutting (g.O.Outlet.seen l.initial.outlet) (g.O.Outlet.seen l.outlet) l.lines
      (kinds_events (objects_told l.all) l.roots (l.all.plan.now.roots + 1 + l.j) l.first (drop l.j l.tags) ++ clear_events)
      (lines_of (roots_events (objects_told l.all) l.roots l.tags));
}
