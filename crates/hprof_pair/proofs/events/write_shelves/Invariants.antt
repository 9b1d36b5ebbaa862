use Rattle.std.proofs.Common.{◌-◌}
use Rattle.hprof_session.specs.Places.{lines_of, place_events}
use Rattle.hprof_lines.proofs.Puttings.{IsPutting}
use Rattle.hprof_pair.specs.Events.{events_from, shelved_count}
use Rattle.hprof_pair.specs.Pairs.{pair_told}
use Rattle.hprof_pair.proofs.events.write_shelves.Given as goal

abbrev pub invariant-loop-n : goal.invariant-loop-n
invariant-loop-n g l =
    IsPutting (g.O.Outlet.seen l.initial.outlet) (g.O.Outlet.seen l.outlet) l.lines
    (events_from (place_events (pair_told l.pair).first.all.plan.roots) l.n ((shelved_count (pair_told l.pair)) - l.n))
    (lines_of (events_from (place_events (pair_told l.pair).first.all.plan.roots) 0 (shelved_count (pair_told l.pair))))
