-- The events that write a slot are sound.
use Rattle.std.proofs.Common.{Bool, List, None, Option, Some, [], ap, false, not, refl, suc, sym, true, zero, ℕ, ◌&&◌, ◌++◌, ◌∙◌, ◌∷◌, ◌≡◌}
use Rattle.std.proofs.lemmas.List.{set-get_or, set-set}
use Rattle.std.specs.Option.{option_map_or}
use Rattle.std.specs.Prelude.{if◌then◌else◌, is_none, option_and_then, option_map, slice_get, slice_index, slice_set, unwrap_or, ◌==◌}
use mathlib.Core.Logic.{inr}
use Rattle.heap_class.proofs.Refusals.{no_refusal_test_holds}
use Rattle.heap_class.specs.declared.ObjRef.{ObjRef}
use Rattle.heap_region.specs.Regions.{Empty, InUse, Object, Region, in_used, object_at, object_of, ref_of, slot_kinds, updated, used_at, with_object, with_region, with_word}
use Rattle.heap_mark.specs.MarkSteps.{is_marking, logged}
use Rattle.heap_world.proofs.WriteEvents.{put_phase, store_phase, write_form_keeps_shape, form_rewires, form_after_put, clauses_after_put, store_form, clauses_after_store}
use Rattle.heap_world.proofs.Tricolour.{rewires_found}
use Rattle.heap_world.specs.Events.{after_put, after_store, is_logged, lacks_slot, put_refusal, store_refusal, with_slot, without_last}
use Rattle.heap_world.specs.Legal.{IsLegal}
use Rattle.heap_world.specs.State.{HeapState, marking_of, place_of, register, slot_kind, with_marking, word_of}
use Rattle.heap_step.specs.Apply.{refusal_of, state_after}
use Rattle.heap_step.specs.Laws.{IsRestored}
use Rattle.heap_step.specs.Records.{undo_record, undone}
use Rattle.heap_step.specs.declared.Event.{Event}
use Rattle.heap_step.specs.declared.Undo.{Undo}
use Rattle.heap_step.proofs.Fits.{Fits, HasSlot}
use Rattle.heap_step.proofs.LastItems.{all_but_last, list_with_last_not_empty}
use Rattle.heap_step.proofs.Places.{written_object_stands_at_place}
use Rattle.heap_step.proofs.Soundness.{IsSound}

-- the word of a slot of the object in a cell
cell_word : List (Option Object) → ℕ → ℕ → ℕ
cell_word cells c slot = option_map_or (λ o. slice_index o.words slot) (option_and_then (λ o. o) (slice_get cells c)) 0

abbrev set_cell : ℕ → ℕ → Option Object → Option Object
set_cell slot v = option_map {T = Object} (λ o. record o { words = slice_set o.words slot v })

word_write_in_cells_undone : (cells : List (Option Object)) (c slot v : ℕ) → updated c (set_cell slot (cell_word cells c slot)) (updated c (set_cell slot v) cells) ≡ cells
unfolding updated cell_word
word_write_in_cells_undone [] c slot v = refl
word_write_in_cells_undone (None ∷ xs) zero slot v = refl
word_write_in_cells_undone (Some o ∷ xs) zero slot v = ap (λ ws. Some (record o { words = ws }) ∷ xs) (set-set o.words slot v (slice_index o.words slot) ∙ set-get_or o.words slot 0)
word_write_in_cells_undone (x ∷ xs) (suc c) slot v = ap (λ ys. x ∷ ys) (word_write_in_cells_undone xs c slot v)

-- the word of a slot of the object at a place
place_word : List Region → ObjRef → ℕ → ℕ
place_word regions at slot = option_map_or (λ o. slice_index o.words slot) (object_at regions at) 0

word_write_in_regions_undone : (regions : List Region) (r c slot v : ℕ) → let at : ObjRef = record { region = r; cell = c } in with_word at slot (place_word regions at slot) (with_word at slot v regions) ≡ regions
unfolding with_word with_object with_region in_used updated place_word object_at used_at cell_word
word_write_in_regions_undone [] r c slot v = refl
word_write_in_regions_undone (Empty ∷ xs) zero c slot v = refl
word_write_in_regions_undone (InUse u ∷ xs) zero c slot v = ap (λ cs. InUse (record u { cells = cs }) ∷ xs) (word_write_in_cells_undone u.cells c slot v)
word_write_in_regions_undone (x ∷ xs) (suc r) c slot v = ap (λ ys. x ∷ ys) (word_write_in_regions_undone xs r c slot v)

-- the word of a slot that is there is that at the object's place
word_stands_at_object_place : (w : HeapState) (x slot : ℕ) → lacks_slot w x slot ≡ false → word_of w x slot ≡ place_word w.regions (place_of w x) slot
unfolding word_of place_word place_of lacks_slot slot_kind object_of
word_stands_at_object_place w x slot h = go (ref_of w.regions x) h
  where
    go : (r : Option ObjRef) → is_none (option_and_then (λ (o : Object). slice_get (slot_kinds w.classes o) slot) (option_and_then (object_at w.regions) r)) ≡ false
        → option_map_or (λ (o : Object). slice_index o.words slot) (option_and_then (object_at w.regions) r) 0 ≡ option_map_or (λ (o : Object). slice_index o.words slot) (object_at w.regions (unwrap_or r (record { region = 0; cell = 0 }))) 0
    go None e = cc
    go (Some at) e = refl

-- a slot that is written twice, the second time with what it had, is as it was
slot_back : (w : HeapState) (x slot value : ℕ) → lacks_slot w x slot ≡ false → with_word (place_of w x) slot (word_of w x slot) (with_word (place_of w x) slot value w.regions) ≡ w.regions
slot_back w x slot value there =
    ap (λ v. with_word (place_of w x) slot v (with_word (place_of w x) slot value w.regions)) (word_stands_at_object_place w x slot there)
    ∙ word_write_in_regions_undone w.regions (place_of w x).region (place_of w x).cell slot value

pub put_event_is_sound : (m : ℕ) (target : ℕ) (slot : ℕ) (value : ℕ) → IsSound (Event.Put m target slot value)
unfolding refusal_of state_after undo_record undone put_refusal after_put with_slot
put_event_is_sound m target slot value = record {
  legal = λ w. clauses_after_put w m target slot value;
  back = λ w legal accepted. ap (λ l. record w { regions = l }) (slot_back w (register w m target) slot value (no_refusal_test_holds _ accepted).1.1.0);
  fits = λ w legal accepted. written_object_stands_at_place w (register w m target) slot value legal (no_refusal_test_holds _ accepted).1.1.0;
  found = λ w l accepted i j. rewires_found w _ (form_rewires w _ (register w m target) slot value i (form_after_put w m target slot value l accepted));
  shape = λ w l accepted x live. write_form_keeps_shape w _ (register w m target) slot value x (form_after_put w m target slot value l accepted);
  run = λ w i. inr (sym (put_phase w m target slot value) ∙ i);
}

store_event_is_undone : (w : HeapState) (m target slot source : ℕ) → IsRestored (Event.Store m target slot source) w
unfolding state_after undone undo_record after_store with_slot is_logged refusal_of store_refusal logged place_of without_last
store_event_is_undone w m target slot source legal accepted = go (is_marking w.phase) (word_of w (register w m target) slot == 0)
  where
    x : ℕ
    x = register w m target

    old : ℕ
    old = word_of w x slot

    back : with_word (place_of w x) slot old (with_word (place_of w x) slot (register w m source) w.regions) ≡ w.regions
    back = slot_back w x slot (register w m source) (no_refusal_test_holds _ accepted).1.1.0

    go : (b c : Bool) → let v : HeapState = with_marking (if b then (if c then marking_of w else record (marking_of w) { log = w.log ++ old ∷ [] }) else marking_of w) w in
        undone (Undo.Store (place_of w x) slot old (b && not c)) (record v { regions = with_word (place_of v x) slot (register w m source) v.regions }) ≡ w
    go true true = ap (λ l. record w { regions = l }) back
    go true false = λ i. record w { regions = back i; log = all_but_last w.log old i }
    go false c = ap (λ l. record w { regions = l }) back

store_fits : (w : HeapState) (m target slot source : ℕ) → IsLegal w → store_refusal m target slot source w ≡ None → let x : ℕ = register w m target in Fits (Undo.Store (place_of w x) slot (word_of w x slot) (is_logged w x slot)) (after_store m target slot source w)
unfolding store_refusal after_store with_slot is_logged logged place_of
store_fits w m target slot source legal accepted = go (is_marking w.phase) (word_of w x slot == 0)
  where
    x : ℕ
    x = register w m target

    there : HasSlot (record w { regions = with_word (place_of w x) slot (register w m source) w.regions }) (place_of w x) slot
    there = written_object_stands_at_place w x slot (register w m source) legal (no_refusal_test_holds _ accepted).1.1.0

    go : (b c : Bool) → let v : HeapState = with_marking (if b then (if c then marking_of w else record (marking_of w) { log = w.log ++ word_of w x slot ∷ [] }) else marking_of w) w in
        Fits (Undo.Store (place_of w x) slot (word_of w x slot) (b && not c)) (record v { regions = with_word (place_of v x) slot (register w m source) v.regions })
    go true true = (there, λ e. cc)
    go true false = (there, λ e. list_with_last_not_empty w.log (word_of w x slot))
    go false c = (there, λ e. cc)

pub store_sound : (m : ℕ) (target : ℕ) (slot : ℕ) (source : ℕ) → IsSound (Event.Store m target slot source)
unfolding refusal_of state_after undo_record undone
store_sound m target slot source = record {
  legal = λ w. clauses_after_store w m target slot source;
  back = λ w. store_event_is_undone w m target slot source;
  fits = λ w. store_fits w m target slot source;
  found = λ w l accepted i j. rewires_found w _ (form_rewires w _ (register w m target) slot (register w m source) i (store_form w m target slot source l accepted));
  shape = λ w l accepted x live. write_form_keeps_shape w _ (register w m target) slot (register w m source) x (store_form w m target slot source l accepted);
  run = λ w i. inr (sym (store_phase w m target slot source) ∙ i);
}
