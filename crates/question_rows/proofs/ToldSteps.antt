-- The classes of the objects that steps made are there.
use Rattle.std.proofs.Common.{◌≡◌, ℕ, zero, suc, ◌+◌, ◌≤◌, List, [], ◌∷◌, Option, Some, refl, ap, ◌∙◌, sym, subst, arith}
use Rattle.std.specs.Prelude.{All, drop, map, slice_get, zip}
use Rattle.std.specs.List.{range_with_len}
use Rattle.std.specs.Option.{option_map_or}
use Rattle.std.proofs.lemmas.List.{get_or-drop, length-drop}
use Rattle.std.proofs.lemmas.List.Elements.{All-cons, All-nil}
use Rattle.std.proofs.lemmas.Option.{get_or_from_slice_get, slice_get-get_or, slice_get_within}
use Rattle.heap_class.specs.declared.ObjKind.TheVariants.{Instance}
use Rattle.heap_class.specs.declared.ObjRef.{ObjRef}
use Rattle.heap_region.specs.Regions.{Object, id_of, object_at}
use Rattle.heap_world.specs.State.{HeapState}
use Rattle.hprof_text.specs.Image.{DumpedObject}
use Rattle.heap_step.specs.declared.Undo.{Undo}
use Rattle.heap_step.specs.declared.Undo.TheVariants.{New}
use Rattle.heap_trail.specs.Laws.{IsTrail}
use Rattle.heap_trail.specs.Trail.{Trail, retained, state_ago}
use Rattle.heap_trail.proofs.RetainedRecords.{has_record}
use Rattle.heap_trail.proofs.RetainedStates.{as_many_records_as_states}
use Rattle.heap_questions.specs.Newest.{object_of_state, past_step, steps_back}
use Rattle.heap_questions.proofs.FirstPlaces.{written_live}
use Rattle.question_words.specs.Names.{IsClassThere}
use Rattle.question_rows.specs.Histories.{IsStepThere}
use Rattle.question_rows.proofs.LivedRows.{kind_there}

kind_of_state : (w : HeapState) (at : ObjRef) (o : Object) → object_at w.regions at ≡ Some o → (object_of_state w at).kind ≡ o.kind
kind_of_state w at o here =
    let none : DumpedObject = record { id = 0; kind = Instance 0; words = [] } in
    let show : Object → DumpedObject = λ o. record { id = id_of w.regions at; kind = o.kind; words = o.words } in
    ap (λ (x : Option Object). (option_map_or show x none).kind) here

step_there : (keep : ℕ) (t : Trail) (n : ℕ) (left : Undo) → IsTrail keep t → slice_get t.records n ≡ Some left → IsStepThere t.current.classes (past_step t n left)
step_there keep t n (New at fresh m r old) trail there =
    let w = state_ago n t in
    let c = has_record keep t n (New at fresh m r old) trail there in
    let o = written_live c.0 (state_ago (n + 1) t) w (New at fresh m r old) at c.1 refl in
    let within : n ≤ retained t = omega (arith, slice_get_within t.records n (New at fresh m r old) there, as_many_records_as_states t.current t.past t.records trail.steps) in
    let kind : (object_of_state w at).kind ≡ o.0.kind = kind_of_state w at o.0 o.1 in
    subst (IsClassThere t.current.classes) (sym kind) (kind_there keep t n at o.0 trail within o.1)
step_there keep t n left trail there = tt

-- of records and their numbers, from a on
each_there : (t : Trail) (a n : ℕ) (records : List Undo) → ((i : ℕ) (left : Undo) → slice_get records i ≡ Some left → IsStepThere t.current.classes (past_step t (a + i) left))
    → All (IsStepThere t.current.classes) (map (λ p. past_step t p.0 p.1) (zip (range_with_len a n) records))
each_there t a zero records h = All-nil (IsStepThere t.current.classes)
each_there t a (suc n) [] h = All-nil (IsStepThere t.current.classes)
each_there t a (suc n) (r ∷ rs) h =
    All-cons (IsStepThere t.current.classes) (past_step t a r) (map (λ p. past_step t p.0 p.1) (zip (range_with_len (a + 1) n) rs))
    (subst (λ k. IsStepThere t.current.classes (past_step t k r)) (let e : a + 0 ≡ a = omega arith in e) (h 0 r refl))
    (each_there t (a + 1) n rs (λ i left e. subst (λ k. IsStepThere t.current.classes (past_step t k left)) (let e : a + suc i ≡ a + 1 + i = omega arith in e) (h (suc i) left e)))

left_of_rest : (a n : ℕ) (records : List Undo) (left : Undo) → slice_get (drop a records) n ≡ Some left → slice_get records (a + n) ≡ Some left
left_of_rest a n records left there =
    let within = slice_get_within (drop a records) n left there in
    slice_get-get_or records (a + n) left (omega (arith, within, length-drop a records))
    ∙ ap Some (sym (get_or-drop a records n left) ∙ get_or_from_slice_get (drop a records) n left left there)

pub steps_there : (keep : ℕ) (t : Trail) (ago count : ℕ) → IsTrail keep t → All (IsStepThere t.current.classes) (steps_back t ago count)
unfolding steps_back
steps_there keep t ago count trail =
    each_there t ago count (drop ago t.records) (λ i left e. step_there keep t (ago + i) left trail (left_of_rest ago i t.records left e))
