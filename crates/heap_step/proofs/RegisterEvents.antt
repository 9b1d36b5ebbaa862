-- The events that write a register are sound.
use Rattle.std.proofs.Common.{Bool, None, ap, false, refl, sym, true, ℕ, ◌&&◌, ◌*◌, ◌+◌, ◌∙◌, ◌≡◌, ◌⊎◌}
use Rattle.std.proofs.lemmas.List.{length-set, set-get_or, set-set}
use Rattle.std.specs.Prelude.{if◌then◌else◌, nat_lt}
use mathlib.Core.Logic.{inr}
use Rattle.heap_class.proofs.Refusals.{no_refusal_test_holds}
use Rattle.heap_world.proofs.Clauses.{HasClauses}
use Rattle.heap_world.proofs.RegisterEvents.{load_phase, clauses_after_clear, load_legal, clauses_after_move}
use Rattle.heap_world.proofs.Registers.{both_registers}
use Rattle.heap_world.proofs.Shapes.{KeepsShape, same_object_keeps_shape}
use Rattle.heap_world.specs.Events.{after_load, after_move, clear_refusal, is_reference_slot, load_refusal, move_refusal}
use Rattle.heap_world.specs.Legal.{IsMarked, Sheltered}
use Rattle.heap_world.specs.State.{HeapState, is_register, register, with_register, word_of}
use Rattle.heap_step.specs.Apply.{refusal_of, state_after, reg_record}
use Rattle.heap_step.specs.Laws.{IsRestored, StaysFound}
use Rattle.heap_step.specs.Records.{undo_record, undone}
use Rattle.heap_step.specs.declared.Event.{Event}
use Rattle.heap_step.proofs.Fits.{true_if_not_is_false}
use Rattle.heap_step.proofs.Soundness.{IsSound}

-- a register that is written twice, the second time with what it had, is as it was
register_back : (w : HeapState) (m r x : ℕ) → with_register m r (register w m r) (with_register m r x w) ≡ w
register_back w m r x = ap (λ l. record w { registers = l }) (set-set w.registers (8 * m + r) x (register w m r) ∙ set-get_or w.registers (8 * m + r) 0)

-- a register that is there is still there when a word goes to one
written_register : (w : HeapState) (m r x : ℕ) → is_register w m r ≡ true → is_register (with_register m r x w) m r ≡ true
written_register w m r x there = ap (λ k. nat_lt r 8 && nat_lt (8 * m + r) k) (length-set w.registers (8 * m + r) x) ∙ there

load_back : (w : HeapState) (m to from slot : ℕ) → IsRestored (Event.Load m to from slot) w
unfolding state_after undone undo_record reg_record after_load
load_back w m to from slot legal accepted = go (is_reference_slot w (register w m from) slot)
  where
    go : (b : Bool) → with_register m to (register w m to) (if b then with_register m to (word_of w (register w m from) slot) w else w) ≡ w
    go true = register_back w m to _
    go false = ap (λ l. record w { registers = l }) (set-get_or w.registers (8 * m + to) 0)

load_fits : (w : HeapState) (m to from slot : ℕ) → load_refusal m to from slot w ≡ None → is_register (after_load m to from slot w) m to ≡ true
unfolding load_refusal after_load
load_fits w m to from slot accepted = go (is_reference_slot w (register w m from) slot)
  where
    there : is_register w m to ≡ true
    there = (both_registers _ _ (no_refusal_test_holds _ accepted).0).0

    go : (b : Bool) → is_register (if b then with_register m to (word_of w (register w m from) slot) w else w) m to ≡ true
    go true = written_register w m to _ there
    go false = there

load_stays : (w : HeapState) (m to from slot : ℕ) → HasClauses w → load_refusal m to from slot w ≡ None → StaysFound w (after_load m to from slot w)
unfolding after_load
load_stays w m to from slot l accepted i j x h = go (is_reference_slot w (register w m from) slot)
  where
    go : (b : Bool) → let v : HeapState = (if b then with_register m to (word_of w (register w m from) slot) w else w) in IsMarked v x ⊎ Sheltered v x
    go true = h
    go false = h

load_shape : (w : HeapState) (m to from slot x : ℕ) → KeepsShape w (after_load m to from slot w) x
unfolding after_load
load_shape w m to from slot x = go (is_reference_slot w (register w m from) slot)
  where
    go : (b : Bool) → KeepsShape w (if b then with_register m to (word_of w (register w m from) slot) w else w) x
    go true = same_object_keeps_shape w (with_register m to (word_of w (register w m from) slot) w) x refl
    go false = same_object_keeps_shape w w x refl

pub load_sound : (m : ℕ) (to : ℕ) (from : ℕ) (slot : ℕ) → IsSound (Event.Load m to from slot)
unfolding refusal_of state_after undo_record undone reg_record
load_sound m to from slot = record {
  legal = λ w. load_legal w m to from slot;
  back = λ w. load_back w m to from slot;
  fits = λ w legal. load_fits w m to from slot;
  found = λ w. load_stays w m to from slot;
  shape = λ w l accepted x live. load_shape w m to from slot x;
  run = λ w i. inr (sym (load_phase w m to from slot) ∙ i);
}

pub move_event_is_sound : (m : ℕ) (to : ℕ) (from_m : ℕ) (from : ℕ) → IsSound (Event.Move m to from_m from)
unfolding refusal_of state_after undo_record undone reg_record after_move move_refusal
move_event_is_sound m to from_m from = record {
  legal = λ w. clauses_after_move w m to from_m from;
  back = λ w legal accepted. register_back w m to (register w from_m from);
  fits = λ w legal accepted. written_register w m to _ (both_registers _ _ (no_refusal_test_holds _ accepted).0).0;
  found = λ w l accepted i j x h. h;
  shape = λ w l accepted x live. same_object_keeps_shape w (with_register m to (register w from_m from) w) x refl;
  run = λ w. inr;
}

pub clear_event_is_sound : (m : ℕ) (r : ℕ) → IsSound (Event.Clear m r)
unfolding refusal_of state_after undo_record undone reg_record clear_refusal
clear_event_is_sound m r = record {
  legal = λ w l accepted. clauses_after_clear w m r l;
  back = λ w legal accepted. register_back w m r 0;
  fits = λ w legal accepted. written_register w m r 0 (true_if_not_is_false _ (no_refusal_test_holds _ accepted).0);
  found = λ w l accepted i j x h. h;
  shape = λ w l accepted x live. same_object_keeps_shape w (with_register m r 0 w) x refl;
  run = λ w. inr;
}
