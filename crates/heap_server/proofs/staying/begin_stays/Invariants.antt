use Rattle.std.proofs.Common.{◌≡◌, ◌+◌, ◌≤◌, length, vec_len, vec_capacity}
use Rattle.heap_server.specs.SessionSeats.{AreUsers}
use Rattle.heap_server.specs.Staying.{IsStayBegun}
use Rattle.heap_server.specs.Stations.{InTurn}
use Rattle.heap_server.proofs.staying.begin_stays.Given as goal

abbrev pub invariant-loop-seat : goal.invariant-loop-seat
invariant-loop-seat g l =
    AreUsers l.seats × InTurn (IsStayBegun l.post.terms) l.initial.seats l.standing.items l.seats
    × (vec_len l.standing + length l.seats ≤ vec_capacity l.standing)
    × (vec_len l.standing + length l.seats ≡ length l.initial.seats)

abbrev pub decreases-loop-seat : goal.decreases-loop-seat
decreases-loop-seat g l = length l.seats
