use Rattle.heap_server.specs.Copies.{IsGoing}
use Rattle.heap_server.proofs.copy.copy_all.Given as goal

abbrev pub invariant-loop : goal.invariant-loop
invariant-loop g l = IsGoing (g.I.Inlet.seen l.initial.inlet) (g.I.Inlet.seen l.inlet) (g.O.Outlet.seen l.initial.outlet) (g.O.Outlet.seen l.outlet)
