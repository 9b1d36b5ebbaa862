use Rattle.std.proofs.Common.{inl, inr, sym}
use Rattle.std.proofs.lemmas.Result.{err_from_is_err_and}
use Rattle.heap_world.specs.Events.{store_refusal}
use Rattle.heap_world.proofs.NamedSlots.{one_missing}
use Rattle.heap_world.proofs.FirstRefusals.{refusal_of_test_that_holds}
use Rattle.heap_world.proofs.WriteEvents.{store_no_slot, store_value, store_accepted}
use Rattle.heap_world.proofs.World.store_place.Goals.{then-not-has_register-via-then-not-has_register, then-not-has_register-via-else-not-has_register+then-not-has_register-2}
use Rattle.heap_world.proofs.World.store_place.Goals as goal

pub returns-then-not-has_register-clause-refused : goal.returns-then-not-has_register-clause-refused
unfolding store_refusal
returns-then-not-has_register-clause-refused c = refusal_of_test_that_holds _ _ _ (one_missing _ _ (elim c.then-not-has_register.branch [
  | then-not-has_register-via-then-not-has_register w ↦ inl (sym w.if-not-has_register.ensures)
  | then-not-has_register-via-else-not-has_register+then-not-has_register-2 w ↦ inr (sym w.if-not-has_register-2.ensures)
]))

pub returns-in_err-at-clause-refused : goal.returns-in_err-at-clause-refused
returns-in_err-at-clause-refused c =
    let p = err_from_is_err_and c.from_residual.result c.from_residual.ensures.1 in
    rw (p.1, p.2) (store_no_slot _ _ _ _ _ _ (sym c.if-not-has_register.ensures) (sym c.if-not-has_register-2.ensures) (rw c.register.ensures at c.in_err-at.ensures.refused))

pub returns-then-not-is_reference-clause-refused : goal.returns-then-not-is_reference-clause-refused
returns-then-not-is_reference-clause-refused c = let slot = rw c.register.ensures at c.in_ok-at.ensures.slot in
    store_value _ _ _ _ _ c.in_ok-at.kind (sym c.if-not-has_register.ensures) (sym c.if-not-has_register-2.ensures) slot.0 slot.1 (sym c.if-not-is_reference.ensures)

pub returns-clause-accepted : goal.returns-clause-accepted
returns-clause-accepted c = let slot = rw c.register.ensures at c.in_ok-at.ensures.slot in
    store_accepted _ _ _ _ _ c.in_ok-at.kind (sym c.if-not-has_register.ensures) (sym c.if-not-has_register-2.ensures) slot.0 slot.1 (sym c.if-not-is_reference.ensures)
