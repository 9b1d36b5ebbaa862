use Rattle.std.proofs.Common.{inl, inr, sym, ◌∙◌}
use Rattle.std.proofs.lemmas.Result.{err_from_is_err_and}
use Rattle.heap_world.specs.Events.{load_refusal}
use Rattle.heap_world.proofs.FirstRefusals.{refusal_of_test_that_holds}
use Rattle.heap_world.proofs.RegisterEvents.{load_no_slot, load_accepted, loaded_legal, load_reference, load_value}
use Rattle.heap_world.proofs.NamedSlots.{one_missing, reference_by, word_by}
use Rattle.heap_world.proofs.Slot.{slot_by}
use Rattle.heap_world.proofs.World.load.Goals.{then-not-has_register-via-then-not-has_register, then-not-has_register-via-else-not-has_register+then-not-has_register-2}
use Rattle.heap_world.proofs.World.load.Goals as goal

pub returns-then-not-has_register-clause-answered : goal.returns-then-not-has_register-clause-answered
unfolding load_refusal
returns-then-not-has_register-clause-answered c = inl (refusal_of_test_that_holds _ _ _ (one_missing _ _ (elim c.then-not-has_register.branch [
  | then-not-has_register-via-then-not-has_register w ↦ inl (sym w.if-not-has_register.ensures)
  | then-not-has_register-via-else-not-has_register+then-not-has_register-2 w ↦ inr (sym w.if-not-has_register-2.ensures)
])))

pub returns-in_err-at-clause-answered : goal.returns-in_err-at-clause-answered
returns-in_err-at-clause-answered c =
    let p = err_from_is_err_and c.from_residual.result c.from_residual.ensures.1 in
    rw (p.1, p.2) (inl (load_no_slot _ _ _ _ _ _ (sym c.if-not-has_register.ensures) (sym c.if-not-has_register-2.ensures) (rw c.register.ensures at c.in_err-at.ensures.refused)))

pub word-word-requires-clause-there : goal.word-word-requires-clause-there
word-word-requires-clause-there c = (slot_by _ _ _ _ _ _ c.in_ok-at.kind c.self.invariant c.self.view_is c.in_ok-at.ensures.placed c.in_ok-at.ensures.slot.1).there

pub word-word-requires-clause-within : goal.word-word-requires-clause-within
word-word-requires-clause-within c = (slot_by _ _ _ _ _ _ c.in_ok-at.kind c.self.invariant c.self.view_is c.in_ok-at.ensures.placed c.in_ok-at.ensures.slot.1).within

pub set_register-requires-clause-legal : goal.set_register-requires-clause-legal
set_register-requires-clause-legal c = loaded_legal _ _ _ _ _ _ (sym c.if-not-has_register-2.ensures)
    (sym (reference_by _ _ _ _ _ c.in_ok-at.kind _ c.register.ensures c.in_ok-at.ensures.slot.1 c.if-reference.ensures))
    (word_by _ _ _ _ _ _ _ _ _ c.in_ok-at.kind c.self.invariant c.self.view_is c.register.ensures c.in_ok-at.ensures.placed c.in_ok-at.ensures.slot.1 c.word-word.ensures)

pub returns-then-reference-clause-answered : goal.returns-then-reference-clause-answered
returns-then-reference-clause-answered c = let slot = rw c.register.ensures at c.in_ok-at.ensures.slot in
    load_accepted _ _ _ _ _ c.in_ok-at.kind (sym c.if-not-has_register.ensures) (sym c.if-not-has_register-2.ensures) slot.0 slot.1

pub returns-then-reference-clause-loaded : goal.returns-then-reference-clause-loaded
returns-then-reference-clause-loaded c = c.set_register.ensures ∙ load_reference _ _ _ _ _ _
    (sym (reference_by _ _ _ _ _ c.in_ok-at.kind _ c.register.ensures c.in_ok-at.ensures.slot.1 c.if-reference.ensures))
    (word_by _ _ _ _ _ _ _ _ _ c.in_ok-at.kind c.self.invariant c.self.view_is c.register.ensures c.in_ok-at.ensures.placed c.in_ok-at.ensures.slot.1 c.word-word.ensures)

pub returns-then-reference-clause-word : goal.returns-then-reference-clause-word
returns-then-reference-clause-word c =
    word_by _ _ _ _ _ _ _ _ _ c.in_ok-at.kind c.self.invariant c.self.view_is c.register.ensures c.in_ok-at.ensures.placed c.in_ok-at.ensures.slot.1 c.word-word.ensures

pub returns-then-reference-clause-reference : goal.returns-then-reference-clause-reference
returns-then-reference-clause-reference c = reference_by _ _ _ _ _ c.in_ok-at.kind _ c.register.ensures c.in_ok-at.ensures.slot.1 c.is_reference-reference.ensures

pub returns-else-reference-clause-answered : goal.returns-else-reference-clause-answered
returns-else-reference-clause-answered c = let slot = rw c.register.ensures at c.in_ok-at.ensures.slot in
    load_accepted _ _ _ _ _ c.in_ok-at.kind (sym c.if-not-has_register.ensures) (sym c.if-not-has_register-2.ensures) slot.0 slot.1

pub returns-else-reference-clause-loaded : goal.returns-else-reference-clause-loaded
returns-else-reference-clause-loaded c = load_value _ _ _ _ _
    (sym (reference_by _ _ _ _ _ c.in_ok-at.kind _ c.register.ensures c.in_ok-at.ensures.slot.1 c.if-reference.ensures))

pub returns-else-reference-clause-word : goal.returns-else-reference-clause-word
returns-else-reference-clause-word c =
    word_by _ _ _ _ _ _ _ _ _ c.in_ok-at.kind c.self.invariant c.self.view_is c.register.ensures c.in_ok-at.ensures.placed c.in_ok-at.ensures.slot.1 c.word-word.ensures

pub returns-else-reference-clause-reference : goal.returns-else-reference-clause-reference
returns-else-reference-clause-reference c = reference_by _ _ _ _ _ c.in_ok-at.kind _ c.register.ensures c.in_ok-at.ensures.slot.1 c.is_reference-reference.ensures
