use Rattle.std.proofs.Common.{subst}
use Rattle.heap_lock.specs.Calls.{IsHeapLedger, IsLegalLedger}
use Rattle.heap_lock.specs.LockStates.{LockState}
use Rattle.heap_lock.proofs.DumperCalls.{ledger_under_lock_is_heaps, ledger_under_lock_is_legal, seen_ledger_is_legal}
use Rattle.heap_lock.proofs.heap.Kept.show.Goals as goal

pub invariant_of-witness : goal.invariant_of-witness
invariant_of-witness g c = seen_ledger_is_legal _ _ _ _ _ _ c.self.inside.ledger c.show.result c.self.invariant.0 c.self.invariant.1 c.show.ensures.side

pub returns-clause-legal : goal.returns-clause-legal
returns-clause-legal g c = subst (λ (h : LockState). IsLegalLedger g.L.Heap.config h.ledger) c.self.view_is (ledger_under_lock_is_legal _ _ _ _ _ _ c.self.inside.ledger c.self.invariant.0 c.self.invariant.1)

pub returns-clause-heap : goal.returns-clause-heap
returns-clause-heap g c = subst (λ (h : LockState). IsHeapLedger g.L.Heap.config h.machine h.chronicle h.ledger) c.self.view_is (ledger_under_lock_is_heaps _ _ _ _ _ _ c.self.inside.ledger c.self.invariant.0 c.self.invariant.1)
