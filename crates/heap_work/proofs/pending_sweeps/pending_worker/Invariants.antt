use Rattle.std.proofs.Common.{◌≡◌}
use Rattle.heap_lock.specs.declared.role.Role.TheVariants.{Sweeper}
use Rattle.heap_work.specs.Gates.{LetsBegin}
use Rattle.heap_work.proofs.PendingTurns.{IsOnPending}
use Rattle.heap_work.proofs.pending_sweeps.pending_worker.Given as goal

abbrev pub invariant-loop-turn : goal.invariant-loop-turn
invariant-loop-turn g l =
    IsOnPending g.L.Heap.config l.initial.seat l.initial.witness l.seat l.witness l.turn
    × LetsBegin g.G.Gate.says l.initial.gate l.turn l.gate
    × (l.seat.role ≡ Sweeper)
