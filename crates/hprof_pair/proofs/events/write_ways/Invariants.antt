use Rattle.std.proofs.Common.{drop}
use Rattle.std.specs.Prelude.{flat_map}
use Rattle.hprof_session.specs.Places.{lines_of}
use Rattle.hprof_lines.proofs.Puttings.{IsPutting}
use Rattle.hprof_pair.specs.Ways.{way_events}
use Rattle.hprof_pair.proofs.events.write_ways.Given as goal

abbrev pub invariant-loop-way : goal.invariant-loop-way
invariant-loop-way g l =
    IsPutting (g.O.Outlet.seen l.initial.outlet) (g.O.Outlet.seen l.outlet) l.lines
    (flat_map way_events (drop l.way-index l.ways)) (lines_of (flat_map way_events l.ways))
