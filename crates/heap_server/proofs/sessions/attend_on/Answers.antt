use Rattle.std.proofs.Common.{sym, subst}
use Rattle.heap_server.specs.Stations.{IsAttendedOn}
use Rattle.heap_server.proofs.sessions.attend_on.Goals as goal

pub returns-then-terms-clause-attended : goal.returns-then-terms-clause-attended
returns-then-terms-clause-attended g c =
    subst (λ b. IsAttendedOn b g.L.Heap.config c.args.terms.now c.args.seat (g.I.Inlet.seen c.args.inlet) (g.I.Inlet.seen c.attend_staying.result.inlet) (g.O.Outlet.seen c.args.outlet.now) (g.O.Outlet.seen c.attend_staying.new.outlet) c.attend_staying.result.seat c.attend_staying.result.end)
    (sym c.if-terms.true) c.attend_staying.ensures.attended

pub returns-else-terms-clause-attended : goal.returns-else-terms-clause-attended
returns-else-terms-clause-attended g c =
    subst (λ b. IsAttendedOn b g.L.Heap.config c.args.terms.now c.args.seat (g.I.Inlet.seen c.args.inlet) (g.I.Inlet.seen c.attend.result.inlet) (g.O.Outlet.seen c.args.outlet.now) (g.O.Outlet.seen c.attend.new.outlet) c.attend.result.seat c.attend.result.end)
    (sym c.if-terms.false) c.attend.ensures.attended
