use Rattle.std.proofs.Common.{◌≡◌, List, length}
use Rattle.heap_lock.specs.Calls.{Call}
use Rattle.seat_session.specs.StayingSeats.{ClosesEach}
use Rattle.seat_session.proofs.staying_seat.close_each.Given as goal

abbrev pub invariant-loop-pin : goal.invariant-loop-pin
invariant-loop-pin g l =
    (l.joined.seat ≡ l.initial.joined.seat)
    × ((last : List Call) → ClosesEach g.L.Heap.config l.rest l.joined.seen last → ClosesEach g.L.Heap.config l.initial.rest l.initial.joined.seen last)

abbrev pub decreases-loop-pin : goal.decreases-loop-pin
decreases-loop-pin g l = length l.rest
