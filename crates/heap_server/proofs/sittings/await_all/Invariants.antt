use Rattle.std.proofs.Common.{◌+◌, ◌≤◌, List, length, vec_len, vec_capacity}
use Rattle.heap_lock.specs.LockStates.{SeatModel}
use Rattle.heap_server.specs.SessionSeats.{IsSat}
use Rattle.heap_server.specs.Stations.{IsSeatEnd, InTurn}
use Rattle.heap_server.specs.declared.sessions.Terms.{Terms}
use Rattle.heap_server.proofs.sittings.await_all.Given as goal

abbrev pub invariant-loop-sitting : goal.invariant-loop-sitting
invariant-loop-sitting g l =
    (vec_len l.ends + length l.left.items ≤ vec_capacity l.ends)
    × ((terms : Terms) (seats rest : List SeatModel) → InTurn (IsSat g.L.Heap.config g.L.Heap.tables terms) seats l.fn.sittings.items rest
    → (next : List SeatModel) × InTurn (IsSeatEnd g.L.Heap.config g.L.Heap.tables terms) seats l.ends.items next × InTurn (IsSat g.L.Heap.config g.L.Heap.tables terms) next l.left.items rest)

abbrev pub decreases-loop-sitting : goal.decreases-loop-sitting
decreases-loop-sitting g l = length l.left.items
