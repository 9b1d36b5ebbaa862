-- The events that make objects are sound.
use Rattle.std.proofs.Common.{Bool, None, Option, Some, ap, arith, false, length, refl, subst, sym, true, ℕ, ◌&&◌, ◌*◌, ◌+◌, ◌∙◌, ◌≡◌, ◌≢◌, ◌≤◌}
use Rattle.std.specs.Option.{option_map_or}
use Rattle.std.specs.Prelude.{is_none, nat_lt}
use mathlib.Core.Logic.{inr}
use Rattle.heap_class.proofs.Refusals.{no_refusal_test_holds}
use Rattle.heap_class.specs.Classes.{slots_of}
use Rattle.heap_class.specs.Kinds.{is_reference}
use Rattle.heap_class.specs.declared.Kind.{Kind}
use Rattle.heap_class.specs.declared.ObjKind.{ObjKind}
use Rattle.heap_class.specs.declared.ObjKind.TheVariants.{Array, Instance, Prim}
use Rattle.heap_class.specs.declared.ObjRef.{ObjRef}
use Rattle.heap_region.specs.Pool.{new_place}
use Rattle.heap_world.proofs.New.{found_objects_after_new_object, clauses_after_new_object}
use Rattle.heap_world.proofs.CreationEvents.{new_phase, new_object_keeps_shapes}
use Rattle.heap_world.specs.Events.{after_new, is_full, new_array_refusal, new_object, new_prim_refusal, new_refusal}
use Rattle.heap_world.proofs.Clauses.{HasClauses}
use Rattle.heap_world.proofs.Shapes.{KeepsShape}
use Rattle.heap_world.specs.Legal.{IsLegal, MayHold}
use Rattle.heap_world.specs.Limits.{AreLimits}
use Rattle.heap_world.specs.State.{HeapState, is_register, pool_of, register}
use Rattle.heap_step.specs.Apply.{refusal_of, state_after, new_record, reg_record}
use Rattle.heap_step.specs.Laws.{StaysFound}
use Rattle.heap_step.specs.Records.{undo_record, undone}
use Rattle.heap_step.specs.declared.Event.{Event}
use Rattle.heap_step.specs.declared.Undo.{Undo}
use Rattle.heap_step.proofs.CreationUndo.{created_back}
use Rattle.heap_step.proofs.Fits.{Fits, true_if_not_is_false}
use Rattle.heap_step.proofs.Places.{new_registers, new_object_stands_at_place}
use Rattle.heap_step.proofs.Soundness.{IsSound}

allowed_by_refusal : (most n : ℕ) → nat_lt most n ≡ false → n ≤ most
allowed_by_refusal most n h = grind arith

nonreference_kind_is_not_object : (k : Kind) → is_reference k ≡ false → k ≢ Kind.Object
nonreference_kind_is_not_object k h e = let a : true ≡ false = sym (ap is_reference e) ∙ h in clash a
  where
    clash : true ≡ false → ⊥
    clash b = cc

-- the register may hold such an object, and there is room for it
abbrev MayMake : HeapState → ℕ → ℕ → ObjKind → ℕ → Type 0
MayMake w m r kind n = MayHold w m r kind n × (is_full n w ≡ false)

may_make_instance : (w : HeapState) (m r class : ℕ) → AreLimits w.limits → new_refusal m r class w ≡ None → MayMake w m r (Instance class) (length (slots_of w.classes class))
unfolding new_refusal
may_make_instance w m r class limits accepted = let h = no_refusal_test_holds _ accepted in (record { there = true_if_not_is_false _ h.0; of_kind = (true_if_not_is_false _ h.1.1.0, refl); allowed = tt }, h.1.1.1.0)

may_make_array : (w : HeapState) (m r class len : ℕ) → AreLimits w.limits → new_array_refusal m r class len w ≡ None → MayMake w m r (Array class) len
unfolding new_array_refusal
may_make_array w m r class len limits accepted =
    let h = no_refusal_test_holds _ accepted in
    let few : len ≤ w.limits.elements = allowed_by_refusal w.limits.elements len h.1.1.1.0 in
    (record { there = true_if_not_is_false _ h.0; of_kind = (true_if_not_is_false _ h.1.1.0, omega (arith, few, limits.elements)); allowed = few }, h.1.1.1.1.0)

may_make_prim : (w : HeapState) (m r : ℕ) (kind : Kind) (len : ℕ) → AreLimits w.limits → new_prim_refusal m r kind len w ≡ None → MayMake w m r (Prim kind) len
unfolding new_prim_refusal
may_make_prim w m r kind len limits accepted =
    let h = no_refusal_test_holds _ accepted in
    let few : len ≤ w.limits.elements = allowed_by_refusal w.limits.elements len h.1.1.0 in
    (record { there = true_if_not_is_false _ h.0; of_kind = (nonreference_kind_is_not_object kind h.1.0, omega (arith, few, limits.elements)); allowed = few }, h.1.1.1.0)

-- a new object in a register that is there
created_fits : (w : HeapState) (m r n : ℕ) (kind : ObjKind) → IsLegal w → is_register w m r ≡ true → is_full n w ≡ false → Fits (new_record m r n w) (after_new m r kind n w)
unfolding new_record is_full
created_fits w m r n kind legal there room = go (new_place n (pool_of w)) refl room
  where
    go : (p : Option (ObjRef × Bool)) → new_place n (pool_of w) ≡ p → is_none p ≡ false → Fits (option_map_or (λ (p : ObjRef × Bool). Undo.New p.0 p.1 m r (register w m r)) p (reg_record m r w)) (after_new m r kind n w)
    go None place h = cc
    go (Some p) place h = (
      (new_object kind n w, new_object_stands_at_place w m r n kind p.0 p.1 legal place),
      ap (λ k. nat_lt r 8 && nat_lt (8 * m + r) k) (new_registers w m r n kind p.0 p.1 place) ∙ there,
    )

-- an event that makes an object is sound
created_sound : (e : Event) (m r : ℕ) (kind : ObjKind) (len : HeapState → ℕ) → ((w : HeapState) → AreLimits w.limits → refusal_of e w ≡ None → MayMake w m r kind (len w)) → ((w : HeapState) → state_after e w ≡ after_new m r kind (len w) w) → ((w : HeapState) → undo_record e w ≡ new_record m r (len w) w) → IsSound e
created_sound e m r kind len may after left = record {
  legal = λ w l accepted. let h = may w l.sized.limits accepted in subst HasClauses (sym (after w)) (clauses_after_new_object w m r kind (len w) l h.0.of_kind h.1);
  back = λ w legal accepted. (λ i. undone (left w i) (after w i)) ∙ created_back w m r (len w) kind legal (may w legal.sized.limits accepted).1;
  fits = λ w legal accepted. let h = may w legal.sized.limits accepted in subst (Fits (undo_record e w)) (sym (after w)) (subst (λ (u : Undo). Fits u (after_new m r kind (len w) w)) (sym (left w)) (created_fits w m r (len w) kind legal h.0.there h.1));
  found = λ w l accepted. let h = may w l.sized.limits accepted in subst (StaysFound w) (sym (after w)) (λ i j x h'. found_objects_after_new_object w m r kind (len w) l h.0.of_kind h.1 i x h');
  shape = λ w l accepted x live. subst (λ (v : HeapState). KeepsShape w v x) (sym (after w)) (new_object_keeps_shapes w m r kind (len w) x l);
  run = λ w i. inr (sym (new_phase w m r kind (len w)) ∙ sym (ap (λ (v : HeapState). v.phase) (after w)) ∙ i);
}

pub new_event_is_sound : (m : ℕ) (r : ℕ) (class : ℕ) → IsSound (Event.New m r class)
unfolding refusal_of state_after undo_record
new_event_is_sound m r class = created_sound _ m r (Instance class) (λ w. length (slots_of w.classes class)) (λ w. may_make_instance w m r class) (λ w. refl) (λ w. refl)

pub new_array_sound : (m : ℕ) (r : ℕ) (class : ℕ) (len : ℕ) → IsSound (Event.NewArray m r class len)
unfolding refusal_of state_after undo_record
new_array_sound m r class len = created_sound _ m r (Array class) (λ w. len) (λ w. may_make_array w m r class len) (λ w. refl) (λ w. refl)

pub new_prim_sound : (m : ℕ) (r : ℕ) (kind : Kind) (len : ℕ) → IsSound (Event.NewPrim m r kind len)
unfolding refusal_of state_after undo_record
new_prim_sound m r kind len = created_sound _ m r (Prim kind) (λ w. len) (λ w. may_make_prim w m r kind len) (λ w. refl) (λ w. refl)
