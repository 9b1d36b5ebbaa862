use Rattle.std.proofs.Common.{◌≡◌, vec_capacity, vec_len}
use Rattle.heap_server.specs.SessionSeats.{SitOn}
use Rattle.heap_server.proofs.sittings.join_ended.Given as goal

abbrev pub invariant-loop-i : goal.invariant-loop-i
invariant-loop-i g l =
    SitOn g.L.Heap.config g.L.Heap.tables l.fn.sittings.items l.sittings.items
    × (vec_len l.sittings ≡ vec_len l.fn.sittings) × (vec_capacity l.sittings ≡ vec_capacity l.fn.sittings)
