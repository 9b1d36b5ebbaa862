use Rattle.std.proofs.Common.{◌≡◌, ◌+◌}
use Rattle.dump_pump.proofs.PumpSteps.{IsOpen}
use Rattle.dump_pipe.proofs.pumps.pump_counted.Given as goal

abbrev pub invariant-loop-pumped : goal.invariant-loop-pumped
invariant-loop-pumped g l =
    IsOpen (g.S.Source.seen l.initial.source) (g.S.Source.seen l.source) (g.O.Outlet.seen l.initial.outlet) (g.O.Outlet.seen l.outlet) l.total
    × (g.S.Source.kept l.source ≡ g.S.Source.kept l.initial.source) × (l.counter.meter ≡ l.initial.counter.meter) × (l.counter.known ≡ l.initial.counter.known + l.total)

abbrev pub decreases-loop-pumped : goal.decreases-loop-pumped
decreases-loop-pumped g l = (g.S.Source.seen l.source).left
