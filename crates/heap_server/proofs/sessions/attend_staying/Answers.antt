use Rattle.std.proofs.Common.{[], ◌∙◌, ap, subst}
use Rattle.seat_session.specs.SeatStations.{Station}
use Rattle.seat_session.specs.StayingSeats.{ClosesEach, StayingStation}
use Rattle.heap_server.proofs.ClientSessions.{staying_session_is_attended}
use Rattle.heap_server.proofs.sessions.attend_staying.Goals as goal

pub returns-clause-attended : goal.returns-clause-attended
returns-clause-attended g c =
    let noted : Station → StayingStation = λ x. record { seat = x.seat; seen = x.seen; bookmarks = x.bookmarks; pins = []; questions = c.args.terms.now.questions } in
    staying_session_is_attended g.L.Heap.config c.args.terms.now c.in-Ok.ahead.failed c.in-Ok.ahead.bytes.items (g.I.Inlet.seen c.args.inlet) (g.I.Inlet.seen c.read_line.new.inlet) (g.I.Inlet.seen c.serve_client-end.result.1) c.args.seat c.into_seat-seat.result c.witness.result c.into_seat-seat.ensures.closes.0 c.new-staying.result c.serve_client-end.new.commands (g.O.Outlet.seen c.args.outlet.now)
    (g.O.Outlet.seen c.serve_client-end.new.outlet) c.serve_client-end.result.0 c.in-Ok.ensures c.witness.ensures (c.new-staying.ensures ∙ c.new.ensures ∙ ap noted c.new-joined.ensures) (c.into_seat-seat.ensures.seat ∙ ap (λ (x : StayingStation). x.seat) c.into_commands.ensures) (subst (λ (x : StayingStation). ClosesEach g.L.Heap.config x.pins x.seen c.into_seat-seat.ensures.closes.0) c.into_commands.ensures c.into_seat-seat.ensures.closes.1) c.serve_client-end.ensures
