use Rattle.std.proofs.Common.{◌≡◌, ◌+◌, ◌≤◌, false, [], length, vec_len, vec_capacity}
use Rattle.heap_server.specs.SessionSeats.{AreUsers, IsSat}
use Rattle.heap_server.specs.Stations.{InTurn}
use Rattle.heap_server.proofs.sessions.serve_seats.Given as goal

abbrev pub invariant-loop-seat : goal.invariant-loop-seat
invariant-loop-seat g l =
    AreUsers l.seats × InTurn (IsSat g.L.Heap.config g.L.Heap.tables l.terms) l.initial.seats l.sittings.items l.seats
    × (vec_len l.sittings + length l.seats ≡ l.count) × (l.count ≤ vec_capacity l.sittings) × (l.sessions.items ≡ [])
    × (l.count ≤ vec_capacity l.sessions) × (l.refused ≡ false)

abbrev pub decreases-loop-seat : goal.decreases-loop-seat
decreases-loop-seat g l = length l.seats
