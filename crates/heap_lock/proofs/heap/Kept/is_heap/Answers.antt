use Rattle.std.proofs.Common.{subst}
use Rattle.heap_lock.specs.LockStates.{IsHeap, LockState}
use Rattle.heap_lock.proofs.DumperCalls.{ledger_under_lock_is_heaps}
use Rattle.heap_lock.proofs.heap.Kept.is_heap.Goals as goal

pub returns : goal.returns
returns g c =
    let k = c.self.invariant.0 in
    subst (λ (h : LockState). IsHeap g.L.Heap.config g.L.Heap.rolls h) c.self.view_is (ledger_under_lock_is_heaps _ _ _ _ _ _ c.self.inside.ledger k c.self.invariant.1, k.folds, c.self.invariant.2)
