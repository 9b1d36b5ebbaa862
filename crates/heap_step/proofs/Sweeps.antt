-- A sweep is sound.
use Rattle.std.proofs.Common.{Bool, List, None, Option, Some, [], ap, false, not, refl, subst, suc, sym, true, zero, ℕ, ◌∙◌, ◌∷◌, ◌≡◌, ◌||◌}
use Rattle.std.specs.List.{list_any}
use Rattle.std.specs.Option.{option_map_or}
use Rattle.std.specs.Prelude.{if◌then◌else◌, slice_index_or, unwrap_or}
use mathlib.Core.Logic.{inl, inr}
use Rattle.heap_class.proofs.Refusals.{no_refusal_test_holds}
use Rattle.heap_region.specs.Pool.{RegionPool, fresh_region, restored}
use Rattle.heap_region.specs.Live.{is_live}
use Rattle.heap_region.specs.Regions.{Object, UsedRegion, used_at}
use Rattle.heap_region.specs.Legal.{MayRestore}
use Rattle.heap_region.proofs.Restores.{released_may_be_restored}
use Rattle.heap_sweep.proofs.Ready.{swept_whole}
use Rattle.heap_sweep.proofs.SweepUndo.{sweep_that_left_none_undone, pending_is, sweep_that_left_objects_undone}
use Rattle.heap_sweep.specs.Sweep.{dead_at, dead_cells, has_live, is_emptied, sweep_refusal, swept, unswept}
use Rattle.heap_world.proofs.Clauses.{HasClauses}
use Rattle.heap_world.proofs.Finish.{marked_object_live}
use Rattle.heap_world.proofs.Shapes.{same_object_keeps_shape}
use Rattle.heap_world.proofs.Sweep.{sweep_leaves_live, sweep_legal, accepted_sweep_spares_live}
use Rattle.heap_world.proofs.Tricolour.{spares_sheltered}
use Rattle.heap_world.specs.Events.{after_sweep}
use Rattle.heap_world.specs.Legal.{IsLegal}
use Rattle.heap_world.specs.State.{HeapState, pool_of, with_pool}
use Rattle.heap_step.specs.Apply.{refusal_of, state_after, sweep_record}
use Rattle.heap_step.specs.Laws.{IsRestored, StaysFound}
use Rattle.heap_step.specs.Records.{undo_record, undone}
use Rattle.heap_step.specs.declared.Event.{Event}
use Rattle.heap_step.specs.declared.Undo.{Undo}
use Rattle.heap_step.proofs.Fits.{Fits, IsInhabited, IsLifeless}
use Rattle.heap_step.proofs.Soundness.{IsSound}

sweep_event_is_undone : (w : HeapState) (region : ℕ) → IsRestored (Event.Sweep region) w
unfolding undone undo_record sweep_record state_after after_sweep refusal_of sweep_refusal dead_at
sweep_event_is_undone w region legal accepted = go (is_emptied region (pool_of w)) refl
  where
    found : (u : UsedRegion) × (used_at w.regions region ≡ Some u) × (u.pending ≡ true)
    found = pending_is w.regions region (no_refusal_test_holds _ accepted).0

    v : HeapState
    v = with_pool (swept region (pool_of w)) w

    go : (b : Bool) → is_emptied region (pool_of w) ≡ b → undone (if b then Undo.Reclaim region (unwrap_or (used_at w.regions region) (fresh_region 4)) else Undo.Sweep region (dead_at region (pool_of w))) v ≡ w
    go true e = ap (λ (s : RegionPool). with_pool s w) (ap (λ (x : Option UsedRegion). restored region (unwrap_or x (fresh_region 4)) (swept region (pool_of w))) found.1 ∙ sweep_that_left_none_undone region (pool_of w) found.0 found.1 e)
    go false e = ap (λ (s : RegionPool). with_pool s w) (ap (λ (x : Option UsedRegion). unswept region (option_map_or dead_cells x []) (swept region (pool_of w))) found.1 ∙ sweep_that_left_objects_undone region (pool_of w) found.0 found.1 found.2 e)

neither_of_false_or : (a b : Bool) → (a || b) ≡ false → (a ≡ false) × (b ≡ false)
neither_of_false_or true b e = cc
neither_of_false_or false b e = (refl, e)

false_if_not_is_true : (b : Bool) → not b ≡ true → b ≡ false
false_if_not_is_true true e = cc
false_if_not_is_true false e = refl

live_is : (o : Option Object) → option_map_or (λ (o : Object). o.live) o false ≡ is_live o
live_is None = refl
live_is (Some o) = refl

no_cell_is_live : (cells : List (Option Object)) → list_any (λ c. option_map_or (λ o. o.live) c false) cells ≡ false → (cell : ℕ) → is_live (slice_index_or cells cell None) ≡ false
no_cell_is_live [] e cell = refl
no_cell_is_live (o ∷ cells) e zero = sym (live_is o) ∙ (neither_of_false_or (option_map_or (λ o. o.live) o false) _ e).0
no_cell_is_live (o ∷ cells) e (suc cell) = no_cell_is_live cells (neither_of_false_or (option_map_or (λ o. o.live) o false) _ e).1 cell

-- a region that is emptied had no live object
emptied_lifeless : (w : HeapState) (region : ℕ) (u : UsedRegion) → used_at w.regions region ≡ Some u → is_emptied region (pool_of w) ≡ true → IsLifeless u
unfolding is_emptied has_live
emptied_lifeless w region u used emptied = no_cell_is_live u.cells (false_if_not_is_true _ (ap (λ (x : Option UsedRegion). option_map_or (λ u. not (has_live u)) x false) (sym used) ∙ emptied))

-- a region without live objects may come back
emptied_ready : (w : HeapState) (region : ℕ) (u : UsedRegion) → IsLegal w → used_at w.regions region ≡ Some u → is_emptied region (pool_of w) ≡ true → MayRestore (pool_of (after_sweep region w)) region u
unfolding after_sweep
emptied_ready w region u legal used emptied = subst (λ (s : RegionPool). MayRestore s region u) (sym (swept_whole region (pool_of w) emptied)) (released_may_be_restored (pool_of w) region u legal.regions used)

sweep_fits : (w : HeapState) (region : ℕ) → IsLegal w → sweep_refusal region (pool_of w) ≡ None → Fits (sweep_record region w) (after_sweep region w)
unfolding sweep_record sweep_refusal
sweep_fits w region legal accepted = go (is_emptied region (pool_of w)) refl
  where
    found : (u : UsedRegion) × (used_at w.regions region ≡ Some u) × (u.pending ≡ true)
    found = pending_is w.regions region (no_refusal_test_holds _ accepted).0

    go : (b : Bool) → is_emptied region (pool_of w) ≡ b → Fits (if b then Undo.Reclaim region (unwrap_or (used_at w.regions region) (fresh_region 4)) else Undo.Sweep region (dead_at region (pool_of w))) (after_sweep region w)
    go true e = (
      subst (λ (p : Option UsedRegion). MayRestore (pool_of (after_sweep region w)) region (unwrap_or p (fresh_region 4))) (sym found.1) (emptied_ready w region found.0 legal found.1 e),
      subst (λ (p : Option UsedRegion). IsInhabited (unwrap_or p (fresh_region 4))) (sym found.1) (legal.regions.tables region found.0 found.1).inhabited,
      subst (λ (p : Option UsedRegion). IsLifeless (unwrap_or p (fresh_region 4))) (sym found.1) (emptied_lifeless w region found.0 found.1 e),
    )
    go false e = (w, legal, accepted, e, refl, refl)

sweep_stays : (w : HeapState) (region : ℕ) → HasClauses w → sweep_refusal region (pool_of w) ≡ None → StaysFound w (after_sweep region w)
sweep_stays w region l accepted i j x (inl m) = inl (m.0, sweep_leaves_live w region x accepted (marked_object_live w l x m.0 m.1 m.2) ∙ m.1, m.2)
sweep_stays w region l accepted i j x (inr s) = inr (spares_sheltered w _ (accepted_sweep_spares_live w region l accepted) x s)

sweep_phase : (w : HeapState) (r : ℕ) → (after_sweep r w).phase ≡ w.phase
unfolding after_sweep
sweep_phase w r = refl

pub sweep_sound : (region : ℕ) → IsSound (Event.Sweep region)
unfolding refusal_of state_after undo_record undone
sweep_sound region = record {
  legal = λ w. sweep_legal w region;
  back = λ w. sweep_event_is_undone w region;
  fits = λ w. sweep_fits w region;
  found = λ w. sweep_stays w region;
  shape = λ w l accepted x live. same_object_keeps_shape w (after_sweep region w) x (sweep_leaves_live w region x accepted live);
  run = λ w i. inr (sym (sweep_phase w region) ∙ i);
}
