use Rattle.std.proofs.Common.{rules, sym, subst}
use Rattle.heap_server.specs.SessionSeats.{AreUsers}
use Rattle.heap_server.specs.Staying.{IsStayBegun}
use Rattle.heap_server.specs.Stations.{InTurn}
use Rattle.heap_server.proofs.SeatOrder.{lead_more}
use Rattle.heap_server.proofs.staying.begin_stays.Goals as goal

pub loop-seat-preserved : goal.loop-seat-preserved
loop-seat-preserved g c =
    let was = c.loop-seat.invariant in
    let next = c.in-Some.ensures.some in
    let Begun = IsStayBegun c.args.post.now.terms in (
      (subst AreUsers next was.0).1,
      subst (λ xs. InTurn Begun c.args.seats xs c.take.new.self) (sym c.push_reserved.ensures.items)
          (lead_more Begun c.args.seats c.loop-seat.standing.items c.in-Some.seat c.take.new.self c.begin_stay.result (subst (λ l. InTurn Begun c.args.seats c.loop-seat.standing.items l) next was.1) c.begin_stay.ensures),
      search rules,
      search rules,
    )
