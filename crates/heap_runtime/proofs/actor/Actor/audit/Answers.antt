use Rattle.std.proofs.Common.{sym, ap, ◌∙◌, subst, List, length}
use Rattle.heap_lock.specs.Action.{Action}
use Rattle.heap_lock.specs.Receipt.{Receipt}
use Rattle.heap_lock.specs.Audits.{IsVerdict}
use Rattle.heap_history.specs.Chronicles.{dropped_of}
use Rattle.heap_lock.specs.LockStates.{LockState}
use Rattle.heap_runtime.proofs.OwnClaims.{audit_under_lock_tells_claims, never_fails}
use Rattle.heap_runtime.proofs.actor.Actor.audit.Goals as goal

pub returns-clause-stands : goal.returns-clause-stands
returns-clause-stands g c =
    let s = c.self.inside.seat in
    let claims = c.self.inside.claims.items in
    let k = c.deref_mut.result.now in
    let k1 = c.deref_mut-2.result.now in
    let k2 = c.deref-2.result.now in
    let said = subst (λ (l : List (Action × Receipt)). IsVerdict (dropped_of k2.rolls (length k2.chronicle)) k2.chronicle l c.audit.result) c.as_slice.ensures.value c.audit.ensures in
    let rolled = ap (λ (x : LockState). x.rolls) (c.deref-2.ensures ∙ sym c.deref.ensures) ∙ c.chronicle.ensures.rolls.1 in
    never_fails g.L.Heap.config g.L.Heap.rolls s c.args.witness.now claims c.audit.result c.show.new.witness c.self.invariant
    (audit_under_lock_tells_claims g.L.Heap.config g.L.Heap.rolls s c.args.witness.now c.show.new.witness claims c.audit.result k k1 k2 c.agree.ensures.share (c.deref_mut-2.ensures.value ∙ c.agree.ensures.same) c.show.ensures.begins c.show.ensures.heap c.show.ensures.witness
    (c.deref-2.ensures ∙ c.show.ensures.same) rolled said)
