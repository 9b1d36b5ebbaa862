-- The children of an object, by what it is.
use Rattle.std.proofs.Common.{◌≡◌, ◌≢◌, ℕ, ◌<◌, true, List, [], length, replicate, refl, sym, ap, subst, ◌∙◌, Option, Some, IsSome, Contains, fold, arith, get_or}
use Rattle.std.specs.Prelude.{slice_get}
use Rattle.std.specs.Option.{option_map_or}
use Rattle.std.proofs.lemmas.List.{length-replicate, get_or-replicate, get_or_default}
use Rattle.std.proofs.lemmas.Option.{slice_get-get_or}
use Rattle.heap_class.specs.declared.Kind.{Kind}
use Rattle.heap_class.specs.declared.ObjKind.{ObjKind}
use Rattle.heap_class.specs.declared.ObjKind.TheVariants.{Instance, Array, Prim}
use Rattle.heap_class.proofs.ReferenceKinds.{kind_is_not_a_reference}
use Rattle.heap_class.specs.Kinds.{is_reference}
use Rattle.heap_class.specs.Classes.{Class, slots_of, slot_kinds_of}
use Rattle.heap_region.specs.Regions.{Object, Region, object_of, references_of, slot_kinds}
use Rattle.heap_region.proofs.References.{slot_is_reference}
use Rattle.heap_mark.specs.MarkSteps.{MarkState, shaded, children_of}
use Rattle.heap_mark.specs.Marker.{references_among, IsNullOrNames}
use Rattle.heap_mark.proofs.ShadeWalks.{elements_shaded, slots_without_references_name_none}

children_are : (classes : List Class) (regions : List Region) (x : ℕ) (o : Object) → object_of regions x ≡ Some o → children_of classes regions x ≡ references_of classes o
unfolding children_of
children_are classes regions x o e = ap (λ (p : Option Object). option_map_or (references_of classes) p []) e

among_slots : (classes : List Class) (o : Object) → references_of classes o ≡ references_among (slot_kinds_of classes o.kind (length o.words)) o.words
unfolding references_of slot_kinds references_among
among_slots classes o = refl

pub instance_children : (classes : List Class) (regions : List Region) (x : ℕ) (o : Object) (k : ℕ) → object_of regions x ≡ Some o → Instance k ≡ o.kind → children_of classes regions x ≡ references_among (slots_of classes k) o.words
unfolding slot_kinds_of
instance_children classes regions x o k e is = children_are classes regions x o e ∙ among_slots classes o ∙ ap (λ (kind : ObjKind). references_among (slot_kinds_of classes kind (length o.words)) o.words) (sym is)

pub array_children : (classes : List Class) (regions : List Region) (x : ℕ) (o : Object) (k : ℕ) (s : MarkState) → object_of regions x ≡ Some o → Array k ≡ o.kind → fold shaded s o.words ≡ fold shaded s (children_of classes regions x)
unfolding slot_kinds_of
array_children classes regions x o k s e is = elements_shaded s o.words ∙ ap (fold shaded s) (ap (λ (kind : ObjKind). references_among (slot_kinds_of classes kind (length o.words)) o.words) is ∙ sym (among_slots classes o) ∙ sym (children_are classes regions x o e))

pub prim_children : (classes : List Class) (regions : List Region) (x : ℕ) (o : Object) (k : Kind) → object_of regions x ≡ Some o → Prim k ≡ o.kind → k ≢ Kind.Object → children_of classes regions x ≡ []
unfolding slot_kinds_of
prim_children classes regions x o k e is other = children_are classes regions x o e ∙ among_slots classes o ∙ ap (λ (kind : ObjKind). references_among (slot_kinds_of classes kind (length o.words)) o.words) (sym is) ∙ slots_without_references_name_none k (length o.words) o.words (kind_is_not_a_reference k other)

-- the children of an object by its kind
pub ruleset children_by_kind = (instance_children, array_children, prim_children)

-- each reference slot is null or names an object, where the children are objects
named_slot : (classes : List Class) (regions : List Region) (x : ℕ) (o : Object) (slot : ℕ) (k : Kind) → object_of regions x ≡ Some o → ((y : ℕ) → Contains (children_of classes regions x) y → IsSome (object_of regions y)) → slice_get (slot_kinds_of classes o.kind (length o.words)) slot ≡ Some k → is_reference k ≡ true → slot < length o.words → IsNullOrNames regions (get_or o.words slot 0)
unfolding slot_kinds
named_slot classes regions x o slot k e children kind refers within some = children (get_or o.words slot 0) (subst (λ (ys : List ℕ). Contains ys (get_or o.words slot 0)) (sym (children_are classes regions x o e)) (slot_is_reference classes o slot (get_or o.words slot 0) k kind refers (slice_get-get_or o.words slot 0 within) some))

pub named_field : (classes : List Class) (regions : List Region) (x : ℕ) (o : Object) (n slot : ℕ) (k : Kind) → object_of regions x ≡ Some o → Instance n ≡ o.kind → ((y : ℕ) → Contains (children_of classes regions x) y → IsSome (object_of regions y)) → slice_get (slots_of classes n) slot ≡ Some k → is_reference k ≡ true → slot < length o.words → IsNullOrNames regions (get_or o.words slot 0)
unfolding slot_kinds_of
named_field classes regions x o n slot k e is children kind refers within = named_slot classes regions x o slot k e children (ap (λ (kind : ObjKind). slice_get (slot_kinds_of classes kind (length o.words)) slot) (sym is) ∙ kind) refers within

pub named_element : (classes : List Class) (regions : List Region) (x : ℕ) (o : Object) (n : ℕ) → object_of regions x ≡ Some o → Array n ≡ o.kind → ((y : ℕ) → Contains (children_of classes regions x) y → IsSome (object_of regions y)) → (y : ℕ) → Contains o.words y → IsNullOrNames regions y
unfolding slot_kinds_of
named_element classes regions x o n e is children y c = subst (IsNullOrNames regions) read (named_slot classes regions x o c.0 Kind.Object e children (ap (λ (kind : ObjKind). slice_get (slot_kinds_of classes kind (length o.words)) c.0) (sym is) ∙ here) refl c.1)
  where
    read : get_or o.words c.0 0 ≡ y
    read = get_or_default o.words c.0 0 y c.1 ∙ c.2

    here : slice_get (replicate (length o.words) Kind.Object) c.0 ≡ Some Kind.Object
    here = slice_get-get_or (replicate (length o.words) Kind.Object) c.0 Kind.Object (omega (arith, length-replicate (length o.words) Kind.Object, c.1)) ∙ ap Some (get_or-replicate (length o.words) c.0 Kind.Object Kind.Object c.1)
