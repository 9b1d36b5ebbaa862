use Rattle.std.proofs.Common.{◌∙◌, ap, subst}
use mathlib.Core.List.{IsPrefix}
use Rattle.heap_lock.specs.Calls.{IsHeapLedger}
use Rattle.heap_lock.specs.LockStates.{LockState}
use Rattle.seat_session.proofs.held_heap.see_all.Goals as goal

pub returns-clause-heap : goal.returns-clause-heap
returns-clause-heap g c =
    (subst (λ (k : LockState). IsHeapLedger g.L.Heap.config k.machine k.chronicle k.ledger) c.agree.ensures.same c.show.ensures.heap, c.agree.ensures.share)

pub returns-clause-begins : goal.returns-clause-begins
returns-clause-begins g c = subst (λ (k : LockState). IsPrefix c.args.witness.now k.ledger) c.agree.ensures.same c.show.ensures.begins

pub returns-clause-sees : goal.returns-clause-sees
returns-clause-sees g c = c.show.ensures.witness ∙ ap (λ (k : LockState). k.ledger) c.agree.ensures.same

pub returns-clause-same : goal.returns-clause-same
returns-clause-same g c = c.show.ensures.same ∙ c.agree.ensures.same
