use Rattle.std.proofs.Common.{◌≡◌}
use Rattle.heap_server.specs.Tending.{Tends, role_for}
use Rattle.heap_server.proofs.tending.tend.Given as goal

abbrev pub invariant-loop : goal.invariant-loop
invariant-loop g l = Tends l.duty g.L.Heap.config l.initial.seat l.seat × (l.seat.role ≡ role_for l.duty)
