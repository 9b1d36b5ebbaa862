use Rattle.std.proofs.Common.{◌+◌, ◌≤◌, List, length, vec_len, vec_capacity}
use Rattle.heap_lock.specs.LockStates.{SeatModel}
use Rattle.heap_server.specs.Staying.{IsSeatStay, IsStayBegun}
use Rattle.heap_server.specs.Stations.{InTurn}
use Rattle.heap_server.specs.declared.sessions.Terms.{Terms}
use Rattle.heap_server.proofs.staying.await_stays.Given as goal

abbrev pub invariant-loop-seat : goal.invariant-loop-seat
invariant-loop-seat g l =
    (vec_len l.stays + length l.left.items ≤ vec_capacity l.stays)
    × ((terms : Terms) (seats rest : List SeatModel) → InTurn (IsStayBegun terms) seats l.fn.standing.items rest
    → (next : List SeatModel) × InTurn (IsSeatStay g.L.Heap.config g.L.Heap.tables terms) seats l.stays.items next × InTurn (IsStayBegun terms) next l.left.items rest)

abbrev pub decreases-loop-seat : goal.decreases-loop-seat
decreases-loop-seat g l = length l.left.items
