-- The mark of the object at a place.
use Rattle.std.proofs.Common.{Bool, ◌≡◌, ◌∙◌, ℕ, Option, Some, None, false, sym, ap}
use Rattle.std.specs.Option.{option_map_or}
use Rattle.std.specs.Prelude.{IfSome, IsSome, option_and_then}
use Rattle.std.proofs.lemmas.Bool.{false≢true}
use Rattle.heap_class.specs.declared.ObjRef.{ObjRef}
use Rattle.heap_world.specs.Regions.{Object, object_at, object_of, ref_of}
use Rattle.heap_world.specs.State.{HeapState}
use Rattle.question_rows.specs.Objects.{is_marked}
use Rattle.question_words.specs.Places.{StandsAt}

-- ---- marks

pub mark_there : (w : HeapState) (x : ℕ) (at : ObjRef) (b : Bool) → (l : Bool) → StandsAt w x at → IfSome (object_at w.regions at) (λ o. (l ≡ o.live) × (b ≡ o.mark)) → b ≡ is_marked w x
unfolding is_marked object_of
mark_there w x at b l s h =
    let e : option_and_then (object_at w.regions) (ref_of w.regions x) ≡ object_at w.regions at = ap (option_and_then (object_at w.regions)) s.0 in
    go (object_at w.regions at) s.1 h ∙ sym (ap (λ (o : Option Object). option_map_or (λ (o : Object). o.mark) o false) e)
  where
    go : (o : Option Object) → IsSome o → IfSome o (λ o. (l ≡ o.live) × (b ≡ o.mark)) → b ≡ option_map_or (λ (o : Object). o.mark) o false
    go None i h = absurd (false≢true i)
    go (Some o) i h = h.1

pub mark_none : (w : HeapState) (x : ℕ) → object_of w.regions x ≡ None → false ≡ is_marked w x
unfolding is_marked
mark_none w x e = sym (ap (λ (o : Option Object). option_map_or (λ (o : Object). o.mark) o false) e)
