-- The events that write a register: clear, move and load.
use Rattle.std.proofs.Common.{◌≡◌, ◌≢◌, ◌⊎◌, ℕ, Bool, true, false, Some, None, refl, sym, ap, subst, ◌∙◌}
use mathlib.Core.Logic.{inl, inr}
use Rattle.std.specs.Prelude.{if◌then◌else◌, not}
use Rattle.heap_class.specs.declared.Kind.{Kind}
use Rattle.heap_class.specs.declared.Refusal.{Refusal}
use Rattle.heap_class.specs.declared.Refusal.TheVariants.{BadRegister, NullRegister, BadSlot}
use Rattle.heap_world.specs.State.{HeapState, is_register, register, with_register, slot_kind, word_of}
use Rattle.heap_world.specs.Legal.{IsLegal}
use Rattle.heap_world.specs.Events.{is_reference_slot, move_refusal, after_move, clear_refusal, load_refusal, after_load}
use Rattle.heap_world.proofs.Clauses.{legal_heap_has_clauses, clauses_make_heap_legal, HasClauses}
use Rattle.heap_world.proofs.Registers.{MayHold, register_member, write_legal, slot_names, second_register}
use Rattle.heap_world.proofs.FirstRefusals.{refusal_of_test_that_holds, refusal_of_later_tests, no_refusal_without_tests}
use Rattle.heap_class.proofs.Refusals.{no_refusal_test_holds}
use Rattle.heap_world.proofs.NamedSlots.{one_missing, not_of_two_truths_is_false, no_slot, refusals_past_named_slot}

-- ---- a register is cleared

pub clear_no_register : (m r : ℕ) (w : HeapState) → is_register w m r ≡ false → clear_refusal m r w ≡ Some BadRegister
unfolding clear_refusal
clear_no_register m r w e = refusal_of_test_that_holds _ _ _ (ap not e)

pub clear_of_register_accepted : (m r : ℕ) (w : HeapState) → is_register w m r ≡ true → clear_refusal m r w ≡ None
unfolding clear_refusal
clear_of_register_accepted m r w e = refusal_of_later_tests _ _ _ _ (ap not e) no_refusal_without_tests

pub clauses_after_clear : (w : HeapState) (m r : ℕ) → HasClauses w → HasClauses (with_register m r 0 w)
clauses_after_clear w m r l = write_legal w m r 0 (inl refl) l

pub legal_after_register_cleared : (w : HeapState) (m r : ℕ) → IsLegal w → IsLegal (with_register m r 0 w)
legal_after_register_cleared w m r l = clauses_make_heap_legal (with_register m r 0 w) (clauses_after_clear w m r (legal_heap_has_clauses w l))

-- ---- a register is copied

pub move_no_register : (m to from_m from : ℕ) (w : HeapState) → (is_register w m to ≡ false) ⊎ (is_register w from_m from ≡ false) → move_refusal m to from_m from w ≡ Some BadRegister
unfolding move_refusal
move_no_register m to from_m from w h = refusal_of_test_that_holds _ _ _ (one_missing _ _ h)

pub move_between_registers_accepted : (m to from_m from : ℕ) (w : HeapState) → is_register w m to ≡ true → is_register w from_m from ≡ true → move_refusal m to from_m from w ≡ None
unfolding move_refusal
move_between_registers_accepted m to from_m from w e f = refusal_of_later_tests _ _ _ _ (not_of_two_truths_is_false _ _ e f) no_refusal_without_tests

pub clauses_after_move : (w : HeapState) (m to from_m from : ℕ) → HasClauses w → move_refusal m to from_m from w ≡ None → HasClauses (after_move m to from_m from w)
unfolding move_refusal after_move
clauses_after_move w m to from_m from l accepted = write_legal w m to (register w from_m from) (inr (inl (register_member w from_m from (second_register _ _ (no_refusal_test_holds _ accepted).0)))) l

pub legal_after_register_moved : (w : HeapState) (m to from_m from x : ℕ) → is_register w from_m from ≡ true → x ≡ register w from_m from → IsLegal w → IsLegal (with_register m to x w)
legal_after_register_moved w m to from_m from x h e l = clauses_make_heap_legal (with_register m to x w) (write_legal w m to x (subst (MayHold w) (sym e) (inr (inl (register_member w from_m from h)))) (legal_heap_has_clauses w l))

pub register_written_is_move : (w : HeapState) (m to from_m from x : ℕ) → x ≡ register w from_m from → with_register m to x w ≡ after_move m to from_m from w
unfolding after_move
register_written_is_move w m to from_m from x e = ap (λ y. with_register m to y w) e

-- ---- a load

pub load_no_slot : (m to from slot : ℕ) (w : HeapState) (e : Refusal) → is_register w m to ≡ true → is_register w m from ≡ true
    → ((e ≡ NullRegister) × (register w m from ≡ 0)) ⊎ ((e ≡ BadSlot) × (register w m from ≢ 0) × (slot_kind w (register w m from) slot ≡ None)) → load_refusal m to from slot w ≡ Some e
unfolding load_refusal
load_no_slot m to from slot w e a b h = no_slot w (register w m from) slot _ _ e (not_of_two_truths_is_false _ _ a b) h

pub load_accepted : (m to from slot : ℕ) (w : HeapState) (k : Kind) → is_register w m to ≡ true → is_register w m from ≡ true → register w m from ≢ 0 → slot_kind w (register w m from) slot ≡ Some k → load_refusal m to from slot w ≡ None
unfolding load_refusal
load_accepted m to from slot w k a b n s = refusals_past_named_slot w (register w m from) slot k _ _ None (not_of_two_truths_is_false _ _ a b) n s no_refusal_without_tests

pub load_legal : (w : HeapState) (m to from slot : ℕ) → HasClauses w → load_refusal m to from slot w ≡ None → HasClauses (after_load m to from slot w)
unfolding load_refusal after_load
load_legal w m to from slot l accepted = go (is_reference_slot w (register w m from) slot) refl
  where
    go : (b : Bool) → is_reference_slot w (register w m from) slot ≡ b → HasClauses (if b then with_register m to (word_of w (register w m from) slot) w else w)
    go true e = write_legal w m to (word_of w (register w m from) slot)
        (elim (slot_names w (register w m from) slot e) [ inl z ↦ inl z | inr n ↦ inr (inr (inl (register w m from, register_member w m from (second_register _ _ (no_refusal_test_holds _ accepted).0), n))) ]) l
    go false e = l

pub loaded_legal : (w : HeapState) (m to from slot x : ℕ) → is_register w m from ≡ true → is_reference_slot w (register w m from) slot ≡ true → x ≡ word_of w (register w m from) slot → IsLegal w → IsLegal (with_register m to x w)
loaded_legal w m to from slot x h r e l = clauses_make_heap_legal (with_register m to x w) (write_legal w m to x (subst (MayHold w) (sym e) may) (legal_heap_has_clauses w l))
  where
    may : MayHold w (word_of w (register w m from) slot)
    may = elim (slot_names w (register w m from) slot r) [ inl z ↦ inl z | inr n ↦ inr (inr (inl (register w m from, register_member w m from h, n))) ]

pub load_reference : (w : HeapState) (m to from slot x : ℕ) → is_reference_slot w (register w m from) slot ≡ true → x ≡ word_of w (register w m from) slot → with_register m to x w ≡ after_load m to from slot w
unfolding after_load
load_reference w m to from slot x r e = ap (λ y. with_register m to y w) e ∙ ap (λ b. if b then with_register m to (word_of w (register w m from) slot) w else w) (sym r)

pub load_value : (w : HeapState) (m to from slot : ℕ) → is_reference_slot w (register w m from) slot ≡ false → w ≡ after_load m to from slot w
unfolding after_load
load_value w m to from slot r = ap (λ b. if b then with_register m to (word_of w (register w m from) slot) w else w) (sym r)

pub load_phase : (w : HeapState) (m to from slot : ℕ) → (after_load m to from slot w).phase ≡ w.phase
unfolding after_load
load_phase w m to from slot = go (is_reference_slot w (register w m from) slot)
  where
    go : (b : Bool) → (if b then with_register m to (word_of w (register w m from) slot) w else w).phase ≡ w.phase
    go true = refl
    go false = refl
