use Rattle.std.proofs.Common.{sym, subst}
use Rattle.heap_lock.specs.LockStates.{SeatModel}
use Rattle.heap_server.specs.Stations.{IsClientOf}
use Rattle.heap_server.proofs.sittings.end_of.Goals as goal

pub returns : goal.returns
returns g c =
    let config = g.L.Heap.config in
    let h = c.args.thread.promise in
    let r = c.join-traffic.result in
    (c.into_unnamed.ensures.seat, subst (λ (x : SeatModel). IsClientOf config h.terms h.seat.value x r.0.end r.0.traffic) (sym c.into_unnamed.ensures.seat_model) c.join-traffic.ensures)
