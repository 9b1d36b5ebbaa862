use Rattle.std.proofs.Common.{◌-◌}
use Rattle.hprof_session.specs.Places.{lines_of}
use Rattle.hprof_lines.proofs.Puttings.{IsPutting}
use Rattle.hprof_pair.specs.Dumps.{count_of, dump_told}
use Rattle.hprof_pair.specs.Events.{events_from, made_events}
use Rattle.hprof_pair.specs.Pairs.{pair_told}
use Rattle.hprof_pair.proofs.events.write_made.Given as goal

abbrev pub invariant-loop-n : goal.invariant-loop-n
invariant-loop-n g l =
    IsPutting (g.O.Outlet.seen l.initial.outlet) (g.O.Outlet.seen l.outlet) l.lines
    (events_from (made_events (pair_told l.pair)) l.n ((count_of (dump_told l.pair.second)) - l.n))
    (lines_of (events_from (made_events (pair_told l.pair)) 0 (count_of (dump_told l.pair.second))))
