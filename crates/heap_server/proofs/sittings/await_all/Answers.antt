use Rattle.std.proofs.Common.{rules, List, sym, subst}
use Rattle.heap_lock.specs.LockStates.{SeatModel}
use Rattle.heap_server.specs.SessionSeats.{IsSat}
use Rattle.heap_server.specs.Stations.{IsSeatEnd, InTurn}
use Rattle.heap_server.specs.declared.sessions.SeatEnd.{SeatEnd}
use Rattle.heap_server.proofs.SeatOrder.{lead_first, lead_more}
use Rattle.heap_server.proofs.sittings.await_all.Goals as goal

pub loop-sitting-preserved : goal.loop-sitting-preserved
loop-sitting-preserved g c = (
  search rules,
  (λ terms seats rest begun.
      let Sat = IsSat g.L.Heap.config g.L.Heap.tables terms in
      let Ends = IsSeatEnd g.L.Heap.config g.L.Heap.tables terms in
      let was = c.loop-sitting.invariant.1 terms seats rest begun in
      let first = lead_first Sat was.0 c.in-Some.sitting c.pop_front.new.self.items rest (subst (λ l. InTurn Sat was.0 l rest) c.in-Some.ensures.items was.2) in (
        first.1,
        subst (λ (l : List SeatEnd). InTurn Ends seats l first.1) (sym c.push_reserved.ensures.items)
            (lead_more Ends seats c.loop-sitting.ends.items first.0 first.1 c.into_end.result (subst (λ (l : List SeatModel). InTurn Ends seats c.loop-sitting.ends.items l) first.2 was.1) (c.into_end.ensures terms first.0 first.3)),
        first.4,
      )),
)
