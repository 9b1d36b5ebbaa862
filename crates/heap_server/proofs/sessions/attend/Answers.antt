use Rattle.std.proofs.Common.{true, false, ◌∙◌, ap}
use Rattle.seat_session.specs.SeatStations.{Station}
use Rattle.heap_server.proofs.ClientSessions.{session_on_terms_is_attended}
use Rattle.heap_server.proofs.sessions.attend.Goals as goal

pub returns-then-terms-clause-attended : goal.returns-then-terms-clause-attended
returns-then-terms-clause-attended g c =
    session_on_terms_is_attended g.L.Heap.config c.args.terms.now true c.in-Ok.ahead.failed c.in-Ok.ahead.bytes.items (g.I.Inlet.seen c.args.inlet) (g.I.Inlet.seen c.read_line.new.inlet) (g.I.Inlet.seen c.serve_client-end.result.1) c.args.seat c.into_seat-seat.result c.witness.result c.new-asking.result c.serve_client-end.new.commands (g.O.Outlet.seen c.args.outlet.now)
    (g.O.Outlet.seen c.serve_client-end.new.outlet) c.serve_client-end.result.0 c.if-terms.true c.in-Ok.ensures c.witness.ensures (c.new-asking.ensures ∙ c.new.ensures ∙ c.new-joined.ensures) (c.into_seat-seat.ensures.seat ∙ ap (λ (x : Station). x.seat) c.into_commands.ensures) c.serve_client-end.ensures

pub returns-else-terms-clause-attended : goal.returns-else-terms-clause-attended
returns-else-terms-clause-attended g c =
    session_on_terms_is_attended g.L.Heap.config c.args.terms.now false c.in-Ok.ahead.failed c.in-Ok.ahead.bytes.items (g.I.Inlet.seen c.args.inlet) (g.I.Inlet.seen c.read_line.new.inlet) (g.I.Inlet.seen c.serve_client-end-else-terms.result.1) c.args.seat c.into_seat-seat-else-terms.result c.witness.result c.new-acting.result c.serve_client-end-else-terms.new.commands (g.O.Outlet.seen c.args.outlet.now)
    (g.O.Outlet.seen c.serve_client-end-else-terms.new.outlet) c.serve_client-end-else-terms.result.0 c.if-terms.false c.in-Ok.ensures c.witness.ensures (c.new-acting.ensures ∙ c.new-joined.ensures) (c.into_seat-seat-else-terms.ensures.seat ∙ ap (λ (x : Station). x.seat) c.into_commands-else-terms.ensures) c.serve_client-end-else-terms.ensures
