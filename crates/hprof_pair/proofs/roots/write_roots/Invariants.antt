use Rattle.std.proofs.Common.{◌+◌, ◌≤◌, ◌++◌, drop}
use Rattle.hprof_session.specs.Places.{lines_of}
use Rattle.hprof_lines.specs.Roots.{clear_events}
use Rattle.hprof_lines.proofs.Puttings.{IsPutting}
use Rattle.hprof_pair.specs.Events.{kinds_events, roots_events}
use Rattle.hprof_pair.specs.Pairs.{pair_told}
use Rattle.hprof_pair.proofs.roots.write_roots.Given as goal

abbrev pub invariant-loop-j : goal.invariant-loop-j
invariant-loop-j g l = record {
  room : l.first ≤ 1024;
  putting : IsPutting (g.O.Outlet.seen l.initial.outlet) (g.O.Outlet.seen l.outlet) l.lines
      (kinds_events (pair_told l.pair) l.roots (l.pair.first.all.plan.now.roots + 1 + l.j) l.first (drop l.j l.tags) ++ clear_events)
      (lines_of (roots_events (pair_told l.pair) l.roots l.tags));
}
