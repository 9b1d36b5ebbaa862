use Rattle.std.proofs.Common.{◌≡◌, sym, subst}
use Rattle.std.specs.Prelude.{IfSome, option_map}
use Rattle.heap_lock.specs.LockStates.{SeatModel}
use Rattle.heap_server.specs.Staying.{AreSessions}
use Rattle.heap_server.specs.declared.sessions.Terms.{Terms}
use Rattle.heap_server.proofs.staying.await_stay.Goals as goal

pub returns-in-Some : goal.returns-in-Some
returns-in-Some g c terms s begun =
    let config = g.L.Heap.config in
    let r = c.join-sessions.result in
    let viewed = subst (λ o. IfSome {T = SeatModel × Terms} o (λ r. r ≡ (s, terms))) (sym c.standing.view_is) begun in
    let is = subst (λ o. IfSome {T = SeatModel × Terms} (option_map (λ h. (h.promise.seat.value, h.promise.terms)) o) (λ r. r ≡ (s, terms))) c.in-Some.is viewed in
    let joined = subst (λ h. AreSessions config h.promise.terms h.promise.seat.value r.0.items r.1) c.in-Some.thread-is c.join-sessions.ensures in
    let begun_so = subst (λ (q : SeatModel × Terms). AreSessions config q.1 q.0 r.0.items r.1) is joined in
    (c.into_unnamed.ensures.seat, subst (λ (x : SeatModel). AreSessions config terms s r.0.items x) (sym c.into_unnamed.ensures.seat_model) begun_so)
