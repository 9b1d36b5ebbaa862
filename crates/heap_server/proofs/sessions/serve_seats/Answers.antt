use Rattle.std.proofs.Common.{rules, sym, subst}
use Rattle.heap_server.specs.SessionSeats.{AreUsers, IsSat}
use Rattle.heap_server.specs.Stations.{InTurn}
use Rattle.heap_server.proofs.SeatOrder.{lead_more}
use Rattle.heap_server.proofs.SittingTurns.{begun_session_is_sat}
use Rattle.heap_server.proofs.sessions.serve_seats.Goals as goal

pub loop-seat-preserved : goal.loop-seat-preserved
loop-seat-preserved g c =
    let was = c.loop-seat.invariant in
    let next = c.in-Some.ensures.some in
    let Sat = IsSat g.L.Heap.config g.L.Heap.tables c.args.terms.now in
    let sat = c.join_ended.ensures.sit c.args.terms.now c.args.seats c.loop-seat.seats was.1 in
    let begun = begun_session_is_sat g.L.Heap.config g.L.Heap.tables c.args.terms.now c.in-Some.seat c.begin_session-sitting.result c.begin_session-sitting.ensures in (
      (subst AreUsers next was.0).1,
      subst (λ xs. InTurn Sat c.args.seats xs c.take.new.self) (sym c.push_reserved.ensures.items)
          (lead_more Sat c.args.seats c.join_ended.new.sittings.items c.in-Some.seat c.take.new.self c.begin_session-sitting.result (subst (λ l. InTurn Sat c.args.seats c.join_ended.new.sittings.items l) next sat) begun),
      search rules,
      search rules,
      search rules,
      search rules,
      search rules,
    )
