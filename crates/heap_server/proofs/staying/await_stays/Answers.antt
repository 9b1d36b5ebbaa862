use Rattle.std.proofs.Common.{rules, List, sym, subst}
use Rattle.heap_lock.specs.LockStates.{SeatModel}
use Rattle.heap_server.specs.Staying.{IsSeatStay, IsStayBegun}
use Rattle.heap_server.specs.Stations.{InTurn}
use Rattle.heap_server.specs.declared.staying.SeatStay.{SeatStay}
use Rattle.heap_server.proofs.SeatOrder.{lead_first, lead_more}
use Rattle.heap_server.proofs.staying.await_stays.Goals as goal

pub loop-seat-preserved : goal.loop-seat-preserved
loop-seat-preserved g c = (
  search rules,
  (λ terms seats rest begun.
      let Begun = IsStayBegun terms in
      let Stays = IsSeatStay g.L.Heap.config g.L.Heap.tables terms in
      let was = c.loop-seat.invariant.1 terms seats rest begun in
      let first = lead_first Begun was.0 c.in-Some.seat c.pop_front.new.self.items rest (subst (λ l. InTurn Begun was.0 l rest) c.in-Some.ensures.items was.2) in (
        first.1,
        subst (λ (l : List SeatStay). InTurn Stays seats l first.1) (sym c.push_reserved.ensures.items)
            (lead_more Stays seats c.loop-seat.stays.items first.0 first.1 c.await_stay.result (subst (λ (l : List SeatModel). InTurn Stays seats c.loop-seat.stays.items l) first.2 was.1) (c.await_stay.ensures terms first.0 first.3)),
        first.4,
      )),
)
