use Rattle.std.proofs.Common.{subst}
use Rattle.heap_lock.specs.Calls.{IsLegalLedger}
use Rattle.heap_lock.specs.LockStates.{LockState}
use Rattle.heap_lock.proofs.DumperCalls.{ledger_under_lock_is_legal, seen_ledger_is_legal}
use Rattle.heap_lock.proofs.heap.Kept.witness.Goals as goal

pub invariant_of-result : goal.invariant_of-result
invariant_of-result g c = seen_ledger_is_legal _ _ _ _ _ _ c.self.inside.ledger c.seen.result c.self.invariant.0 c.self.invariant.1 c.seen.ensures.side

pub returns-clause-legal : goal.returns-clause-legal
returns-clause-legal g c = subst (λ (h : LockState). IsLegalLedger g.L.Heap.config h.ledger) c.self.view_is (ledger_under_lock_is_legal _ _ _ _ _ _ c.self.inside.ledger c.self.invariant.0 c.self.invariant.1)
