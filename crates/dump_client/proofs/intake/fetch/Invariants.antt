use Rattle.dump_client.proofs.ComingBytes.{IsComing}
use Rattle.dump_client.proofs.intake.fetch.Given as goal

abbrev pub invariant-loop : goal.invariant-loop
invariant-loop g l =
    IsComing (g.I.Inlet.seen l.initial.inlet) (g.I.Inlet.seen l.inlet) (g.O.Outlet.seen l.initial.outlet) (g.O.Outlet.seen l.outlet) l.scan l.bytes
