-- A finish is sound.
use Rattle.std.proofs.Common.{◌≡◌, ℕ, true, false, List, refl, sym, ap, subst, ◌∙◌, Option, Some, None, map}
use Rattle.std.specs.Prelude.{slice_get, option_map, option_and_then, IfSome}
use Rattle.heap_class.proofs.Refusals.{no_refusal_test_holds}
use Rattle.heap_region.specs.Regions.{Object, UsedRegion, Region, Empty, InUse, used_part, used_at, object_at, in_used}
use Rattle.heap_mark.specs.MarkSteps.{each_object, each_region, pending_regions, finish_refusal, finished_region, finished, unfinished_region, unfinished}
use Rattle.heap_mark.specs.declared.Phase.TheVariants.{Idle, Marking}
use Rattle.heap_world.proofs.Finish.{clauses_after_finish, finish_shape}
use Rattle.heap_world.specs.State.{HeapState}
use Rattle.heap_world.specs.Legal.{IsLegal}
use Rattle.heap_world.specs.Events.{after_finish}
use Rattle.heap_step.specs.declared.Event.{Event}
use Rattle.heap_step.specs.Apply.{state_after, refusal_of}
use Rattle.heap_step.specs.Records.{undone, undo_record}
use Rattle.heap_step.specs.Laws.{IsRestored, StaysFound}
use Rattle.heap_step.proofs.Soundness.{IsSound}
use Rattle.heap_mark.proofs.Finishes.{none_pending, map_back, phase_is, all_drained, pending_in}

-- a live object, finished and undone
finished_object_undone : (o : Object) → o.live ≡ true → record { kind = o.kind; words = o.words; live = true; mark = o.mark } ≡ o
finished_object_undone o e = ap (λ b. record o { live = b }) (sym e)

-- the cells of a region whose objects are all live
finished_live_cells_undone : (cells : List (Option Object)) → ((c : ℕ) (o : Object) → slice_get cells c ≡ Some (Some o) → o.live ≡ true)
    → map (option_map {T = Object} (λ o. record o { live = true; mark = o.live })) (map (option_map {T = Object} (λ o. record o { live = o.mark; mark = false })) cells) ≡ cells
finished_live_cells_undone cells h = map_back _ _ cells back
  where
    back : (c : ℕ) (x : Option Object) → slice_get cells c ≡ Some x → option_map {T = Object} (λ o. record o { live = true; mark = o.live }) (option_map {T = Object} (λ o. record o { live = o.mark; mark = false }) x) ≡ x
    back c None e = refl
    back c (Some o) e = ap Some (finished_object_undone o (h c o e))

finished_live_regions_undone : (regions : List Region) → ((r : ℕ) → pending_in (slice_get regions r) ≡ false) → ((r c : ℕ) (u : UsedRegion) (o : Object) → slice_get regions r ≡ Some (InUse u) → slice_get u.cells c ≡ Some (Some o) → o.live ≡ true)
    → each_region unfinished_region (each_region finished_region regions) ≡ regions
unfolding each_region unfinished_region finished_region each_object in_used
finished_live_regions_undone regions swept live = map_back _ _ regions back
  where
    back : (r : ℕ) (x : Region) → slice_get regions r ≡ Some x → in_used unfinished_region (in_used finished_region x) ≡ x
    back r Empty e = refl
    back r (InUse u) e = λ i. InUse (record u { pending = (sym (swept r) ∙ ap pending_in e) i; cells = finished_live_cells_undone u.cells (λ c o. live r c u o e) i })

-- an object that the rule speaks of, where its region isn't pending
object_of_settled_region_lives : (w : HeapState) → IsLegal w → (r c : ℕ) (u : UsedRegion) (o : Object) → slice_get w.regions r ≡ Some (InUse u) → slice_get u.cells c ≡ Some (Some o) → u.pending ≡ false → o.live ≡ true
unfolding object_at used_at
object_of_settled_region_lives w legal r c u o here there swept =
    let used : used_at w.regions r ≡ Some u = ap (option_and_then used_part) here in
    let found : object_at w.regions (record { region = r; cell = c }) ≡ Some o = ap (option_and_then (λ (v : UsedRegion). option_and_then (λ (x : Option Object). x) (slice_get v.cells c))) used ∙ ap (option_and_then (λ (x : Option Object). x)) there in
    subst (λ (v : Option UsedRegion). IfSome v (λ v. v.pending ≡ false → o.live ≡ true)) used (legal.swept_live (record { region = r; cell = c }) o found) swept

finish_event_is_undone : (w : HeapState) → IsRestored Event.Finish w
unfolding undone undo_record state_after after_finish refusal_of finish_refusal finished unfinished pending_regions
finish_event_is_undone w legal accepted =
    let swept : (r : ℕ) → pending_in (slice_get w.regions r) ≡ false = none_pending w.regions 0 (no_refusal_test_holds _ accepted).1.1.0 in
    let regions : each_region unfinished_region (each_region finished_region w.regions) ≡ w.regions
    = finished_live_regions_undone w.regions swept (λ r c u o here there. object_of_settled_region_lives w legal r c u o here there (sym (ap pending_in here) ∙ swept r)) in
    λ i. record w { regions = regions i; drained = all_drained _ _ _ (no_refusal_test_holds _ accepted).1.0 legal.drained_within i; phase = phase_is w.phase (no_refusal_test_holds _ accepted).0 i }

finish_phase : (w : HeapState) → (after_finish w).phase ≡ Idle
unfolding after_finish finished
finish_phase w = refl

-- a finish ends the cycle
finish_stays : (w : HeapState) → StaysFound w (after_finish w)
unfolding after_finish finished
finish_stays w i j x h = absurd (clash j)
  where
    clash : Idle ≡ Marking → ⊥
    clash e = cc

pub finish_sound : IsSound Event.Finish
unfolding refusal_of state_after undo_record undone
finish_sound = record {
  legal = clauses_after_finish;
  back = finish_event_is_undone;
  fits = λ w legal accepted. (w, legal, accepted, refl);
  found = λ w l accepted. finish_stays w;
  shape = λ w l accepted x live. finish_shape w x;
  run = λ w i. let c : Idle ≡ Marking = sym (finish_phase w) ∙ i in cc;
}
