use Rattle.std.proofs.Common.{◌∙◌, ap, subst}
use Rattle.heap_trail.specs.declared.Action.TheVariants.{OpenPin}
use Rattle.heap_trail.specs.declared.Reply.TheVariants.{Pinned}
use Rattle.heap_lock.specs.Calls.{IsLegalLedger}
use Rattle.heap_lock.specs.LockStates.{LockState}
use Rattle.heap_lock.proofs.WitnessedCalls.{dumper_act_is_witnessed}
use Rattle.heap_lock.proofs.heap.Shared.open_pin.Goals as goal

pub returns : goal.returns
returns g c =
    let held = c.deref_mut-3.ensures.value in
    let k = c.deref_mut.result.now in
    let k1 = c.deref_mut-2.result.now in
    let k2 = c.open_held-done.new.self in
    let same = c.deref_mut-2.ensures.value ∙ c.show.ensures.same in
    let is = c.show-2.ensures.witness ∙ ap (λ (s : LockState). s.ledger) held in
    let legal = subst (λ (s : LockState). IsLegalLedger g.L.Heap.config s.ledger) held c.show-2.ensures.legal in
    dumper_act_is_witnessed g.L.Heap.config c.args.witness.now c.show-2.new.witness (OpenPin c.args.at) (λ p. Pinned p.pin p.at) c.open_held-done.result k k1 k2 c.show.ensures.begins same c.open_held-done.ensures.done c.open_held-done.ensures.refused is legal
