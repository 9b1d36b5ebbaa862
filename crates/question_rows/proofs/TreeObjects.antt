-- The objects of a tree are as an image has them.
use Rattle.std.proofs.Common.{◌≡◌, ℕ, Bool, true, false, cond, List, [], ◌∷◌, Option, Some, None, length, ap, refl, subst}
use Rattle.std.specs.Prelude.{IfSome, find, slice_index, unwrap_or}
use Rattle.std.specs.Bool.{◌==◌}
use Rattle.std.specs.List.{AllByRecursion}
use Rattle.std.proofs.lemmas.List.Elements.{recursion_from_All}
use Rattle.heap_class.specs.Kinds.{is_reference}
use Rattle.hprof_text.specs.Image.{DumpedObject, Image, IsDumpable, IsKnown}
use Rattle.heap_questions.specs.Graph.{object_with}
use Rattle.question_words.specs.Names.{IsClassThere}
use Rattle.question_rows.specs.Trees.{kind_at, object_at_slot}
use Rattle.question_rows.proofs.NamedObjects.{known_kind_has_class}

found_holds : {A : Type 0} (P : A → Type 0) (test : A → Bool) (xs : List A) (x : A) → AllByRecursion P xs → find test xs ≡ Some x → P x
found_holds P test [] x all e = absurd (cc e)
found_holds {A} P test (y ∷ ys) x all e = go (found_holds P test ys x all.1) (test y) e
  where
    go : (find test ys ≡ Some x → P x) → (b : Bool) → cond b (Some y) (find test ys) ≡ Some x → P x
    go later true e = let same : y ≡ x = ap (λ (o : Option A). unwrap_or o y) e in subst P same all.0
    go later false e = later e

-- an object that is found has as many words as its class has slots
pub object_known : (image : Image) (x : ℕ) (o : DumpedObject) → IsDumpable image → object_with image x ≡ Some o → IsKnown image.classes o.kind (length o.words)
unfolding object_with
object_known image x o d e =
    found_holds (λ (o : DumpedObject). IsKnown image.classes o.kind (length o.words)) (λ o. o.id == x) image.objects o
    (recursion_from_All (λ (o : DumpedObject). IsKnown image.classes o.kind (length o.words)) image.objects d.known) e

-- and so has one that a slot names
pub named_known : (image : Image) (o p : DumpedObject) (s : ℕ) → IsDumpable image → object_at_slot image o s ≡ Some p → IsKnown image.classes p.kind (length p.words)
unfolding object_at_slot
named_known image o p s d e = go (is_reference (kind_at image.classes o s)) e
  where
    go : (b : Bool) → cond b (object_with image (slice_index o.words s)) None ≡ Some p → IsKnown image.classes p.kind (length p.words)
    go true e = object_known image (slice_index o.words s) p d e
    go false e = absurd (cc e)

named_there_by : (image : Image) (o : DumpedObject) (s : ℕ) (named : Option DumpedObject) → IsDumpable image → object_at_slot image o s ≡ named → IfSome named (λ p. IsClassThere image.classes p.kind)
named_there_by image o s None d e = tt
named_there_by image o s (Some p) d e = known_kind_has_class image.classes p.kind (length p.words) (named_known image o p s d e)

-- its class is there
pub named_class_there : (image : Image) (o : DumpedObject) (s : ℕ) → IsDumpable image → IfSome (object_at_slot image o s) (λ p. IsClassThere image.classes p.kind)
named_class_there image o s d = named_there_by image o s (object_at_slot image o s) d refl
