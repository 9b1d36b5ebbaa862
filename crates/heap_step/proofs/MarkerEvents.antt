-- The marker's events but a finish are sound.
use Rattle.std.proofs.Common.{None, [], ap, arith, false, length, refl, subst, sym, true, ◌+◌, ◌-◌, ◌<◌, ◌∙◌, ◌∷◌, ◌≡◌, ◌≤◌, ◌⊎◌}
use Rattle.std.proofs.lemmas.Bool.{eqb-false}
use Rattle.std.specs.Prelude.{slice_index}
use mathlib.Core.Logic.{inl, inr}
use Rattle.heap_class.proofs.Refusals.{no_refusal_test_holds}
use Rattle.heap_mark.proofs.ShadedLists.{shading_of_a_list}
use Rattle.heap_mark.proofs.UndoneSteps.{drain_undone, mark_undone, snap_undone}
use Rattle.heap_mark.specs.MarkSteps.{MarkState, drain_refusal, drained_once, is_marking, mark_refusal, snap_refusal}
use Rattle.heap_mark.specs.declared.Phase.TheVariants.{Idle}
use Rattle.heap_world.proofs.MarkerEvents.{drain_greys, clauses_after_drain, drain_state, not_refused_means_below, mark_greys, clauses_after_mark, shaded_heap_is_after_mark, snap_legal, drain_phase, mark_phase, drain_shape, mark_shape, snap_shape}
use Rattle.heap_world.proofs.Marks.{idle_is}
use Rattle.heap_world.proofs.Tricolour.{greys_found}
use Rattle.heap_world.specs.Events.{after_drain, after_mark, after_snap}
use Rattle.heap_world.specs.Legal.{IsMarked, Sheltered}
use Rattle.heap_world.specs.State.{HeapState, marking_of, with_marking}
use Rattle.heap_step.specs.Apply.{refusal_of, state_after}
use Rattle.heap_step.specs.Records.{undo_record, undone}
use Rattle.heap_step.specs.declared.Event.{Event}
use Rattle.heap_step.specs.declared.Undo.{Undo}
use Rattle.heap_step.proofs.Soundness.{IsSound}

mark_event_is_undone : (w : HeapState) → mark_refusal (marking_of w) ≡ None → undone (Undo.Mark (slice_index w.gray 0) (length (after_mark w).gray + 1 - length w.gray)) (after_mark w) ≡ w
unfolding undone after_mark mark_refusal
mark_event_is_undone w accepted = ap (λ (s : MarkState). with_marking s w) (mark_undone w.classes (marking_of w) (no_refusal_test_holds _ accepted).1.0)

drain_event_is_undone : (w : HeapState) → undone (Undo.Drain (length (after_drain w).gray - length w.gray)) (after_drain w) ≡ w
unfolding undone after_drain
drain_event_is_undone w = ap (λ (s : MarkState). with_marking s w) (drain_undone (marking_of w))

pub snap_sound : IsSound Event.Snap
unfolding refusal_of state_after undo_record undone snap_refusal after_snap
snap_sound = record {
  legal = snap_legal;
  back = λ w legal accepted.
      let idle : w.phase ≡ Idle = idle_is w.phase (no_refusal_test_holds _ accepted).0 in
      ap (λ (s : MarkState). with_marking s w) (snap_undone w.registers (marking_of w) (legal.idle idle).gray idle (legal.idle idle).unmarked);
  fits = λ w legal accepted. (w, legal, accepted, refl);
  found = λ w l accepted i j x h. let b : true ≡ false = sym (ap is_marking i) ∙ (no_refusal_test_holds _ accepted).0 in cc;
  shape = λ w l accepted x live. snap_shape w x;
  run = λ w i. inl refl;
}

pub mark_sound : IsSound Event.Mark
unfolding refusal_of state_after undo_record undone mark_refusal
mark_sound = record {
  legal = clauses_after_mark;
  back = λ w legal accepted. mark_event_is_undone w accepted;
  fits = λ w legal accepted. omega (arith, eqb-false (length w.gray) 0 (no_refusal_test_holds _ accepted).1.0);
  found = λ w l accepted i j x h. subst (λ v. IsMarked v x ⊎ Sheltered v x) (shaded_heap_is_after_mark w i) (greys_found w _ (mark_greys w (no_refusal_test_holds _ accepted).1.0) x h);
  shape = λ w l accepted x live. mark_shape w x;
  run = λ w i. inr (sym (mark_phase w) ∙ i);
}

drain_fits : (w : HeapState) → (length (after_drain w).gray - length w.gray ≤ length (after_drain w).gray) × (0 < (after_drain w).drained)
unfolding after_drain drained_once
drain_fits w = (omega arith, omega (arith, (shading_of_a_list (slice_index w.log w.drained ∷ []) begun).drained))
  where
    begun : MarkState
    begun = record (marking_of w) { drained = w.drained + 1 }

pub drain_sound : IsSound Event.Drain
unfolding refusal_of state_after undo_record undone drain_refusal
drain_sound = record {
  legal = clauses_after_drain;
  back = λ w legal accepted. drain_event_is_undone w;
  fits = λ w legal accepted. drain_fits w;
  found = λ w l accepted i j x h. subst (λ v. IsMarked v x ⊎ Sheltered v x) (drain_state w i) (greys_found w _ (drain_greys w (not_refused_means_below w.drained (length w.log) (no_refusal_test_holds _ accepted).1.0)) x h);
  shape = λ w l accepted x live. drain_shape w x;
  run = λ w i. inr (sym (drain_phase w) ∙ i);
}
