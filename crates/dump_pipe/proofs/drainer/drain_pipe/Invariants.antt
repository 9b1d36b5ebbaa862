use Rattle.std.proofs.Common.{◌≡◌, ◌+◌}
use Rattle.crossbeam_channel.specs.Claims.{view, IsSeatAt}
use Rattle.crossbeam_channel.specs.Ends.{receives_on}
use Rattle.dump_pipe.specs.Pipes.{list_of}
use Rattle.dump_pipe.proofs.DrainSteps.{IsDraining}
use Rattle.dump_pipe.proofs.drainer.drain_pipe.Given as goal

abbrev pub invariant-loop : goal.invariant-loop
invariant-loop g l =
    (goal.iterator-loop g).can_next l.iterator' × (goal.iterator-loop g).is_finite l.iterator'
    × IsSeatAt (receives_on l.receiver) l.end × (l.counter.meter ≡ l.initial.counter.meter) × (l.counter.known ≡ l.initial.counter.known + l.total)
    × IsDraining (list_of (view l.initial.end)) (view l.end) (g.O.Outlet.seen l.initial.outlet) (g.O.Outlet.seen l.outlet) l.total
