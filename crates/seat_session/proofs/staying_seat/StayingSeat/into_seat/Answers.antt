use Rattle.std.proofs.Common.{ℕ, List, subst}
use Rattle.seat_session.specs.StayingSeats.{ClosesEach, StayingStation}
use Rattle.seat_session.proofs.staying_seat.StayingSeat.into_seat.Goals as goal

pub returns-clause-closes : goal.returns-clause-closes
returns-clause-closes g c =
    let config = g.L.Heap.config in
    let last = c.close_each.new.joined.seen in
    let each = subst (λ (l : List ℕ). ClosesEach config l c.self.inside.joined.seen last) c.as_slice.ensures.value c.close_each.ensures.closes in
    (last, subst (λ (x : StayingStation). ClosesEach config x.pins x.seen last) c.self.view_is each)
