-- The marker's steps are undone.
use Rattle.std.proofs.Common.{◌≡◌, ℕ, ◌+◌, ◌-◌, false, List, [], ◌∷◌, length, drop, refl, sym, ap, ◌∙◌, arith, Some}
use Rattle.std.specs.Prelude.{◌==◌, slice_index, fold}
use Rattle.std.proofs.lemmas.Bool.{eqb-false}
use Rattle.std.proofs.lemmas.List.{length-drop}
use Rattle.heap_class.specs.declared.ObjRef.{ObjRef}
use Rattle.heap_class.specs.Classes.{Class}
use Rattle.heap_region.specs.Regions.{Object, object_at}
use Rattle.heap_mark.specs.declared.Phase.TheVariants.{Idle, Marking}
use Rattle.heap_mark.specs.MarkSteps.{MarkState, shaded, children_of, snapped, unsnapped, marked, unshaded, unmarked, drained_once, undrained}
use Rattle.heap_mark.proofs.Marks.{unmarked_regions_without_marks}
use Rattle.heap_mark.proofs.ShadedLists.{IsShading, shading_of_a_list, unshaded_shading}

-- a snap, where no object is marked and nothing is gray
pub snap_undone : (roots : List ℕ) (s : MarkState) → s.gray ≡ [] → s.phase ≡ Idle → ((at : ObjRef) (o : Object) → object_at s.regions at ≡ Some o → o.mark ≡ false) → unsnapped (snapped roots s) ≡ s
unfolding snapped unsnapped
snap_undone roots s gray idle unmarked =
    let h : IsShading (record s { phase = Marking }) (fold shaded (record s { phase = Marking }) roots) roots _ = shading_of_a_list roots (record s { phase = Marking }) in
    λ i. record { regions = (h.rest ∙ unmarked_regions_without_marks s.regions unmarked) i; gray = sym gray i; log = h.log i; drained = h.drained i; phase = sym idle i }

first_and_rest : (xs : List ℕ) → (length xs == 0) ≡ false → slice_index xs 0 ∷ drop 1 xs ≡ xs
first_and_rest [] h = cc
first_and_rest (x ∷ xs) h = refl

-- a mark, where something is gray
pub mark_undone : (classes : List Class) (s : MarkState) → (length s.gray == 0) ≡ false → unmarked (slice_index s.gray 0) (length (marked classes s).gray + 1 - length s.gray) (marked classes s) ≡ s
unfolding marked unmarked
mark_undone classes s some =
    let e : unshaded (length t.gray + 1 - length s.gray) t ≡ s0 = unshaded_shading s0 t _ _ _ (shading_of_a_list children s0) (omega (arith, eqb-false (length s.gray) 0 some, length-drop 1 s.gray)) in
    ap (λ (v : MarkState). record v { gray = slice_index s.gray 0 ∷ v.gray }) e ∙ ap (λ (l : List ℕ). record s { gray = l }) (first_and_rest s.gray some)
  where
    s0 : MarkState
    s0 = record s { gray = drop 1 s.gray }

    children : List ℕ
    children = children_of classes s.regions (slice_index s.gray 0)

    t : MarkState
    t = fold shaded s0 children

-- a drain
pub drain_undone : (s : MarkState) → undrained (length (drained_once s).gray - length s.gray) (drained_once s) ≡ s
unfolding drained_once undrained unshaded
drain_undone s =
    let e : unshaded (length t.gray - length s.gray) t ≡ s0 = unshaded_shading s0 t _ _ _ (shading_of_a_list (slice_index s.log s.drained ∷ []) s0) refl in
    ap (λ (v : MarkState). record v { drained = v.drained - 1 }) e ∙ ap (λ (n : ℕ). record s { drained = n }) (omega arith)
  where
    s0 : MarkState
    s0 = record s { drained = s.drained + 1 }

    t : MarkState
    t = shaded s0 (slice_index s.log s.drained)
