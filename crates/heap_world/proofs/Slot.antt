-- The slots of the object that a register names.
use Rattle.std.proofs.Common.{◌≡◌, ◌≢◌, ℕ, ◌<◌, true, false, List, length, replicate, Option, Some, None, refl, sym, ap, subst, ◌∙◌, arith}
use Rattle.std.specs.Prelude.{slice_get, slice_index, Contains, is_none, IsSome, IfSome, option_and_then}
use Rattle.std.proofs.lemmas.Option.{slice_get_within}
use Rattle.std.proofs.lemmas.List.{length-replicate}
use Rattle.heap_class.specs.declared.Kind.{Kind}
use Rattle.heap_class.specs.declared.ObjKind.{ObjKind}
use Rattle.heap_class.specs.declared.ObjKind.TheVariants.{Instance, Array, Prim}
use Rattle.heap_class.specs.declared.ObjRef.{ObjRef}
use Rattle.heap_class.specs.Classes.{Class, slots_of, slot_kinds_of}
use Rattle.heap_class.proofs.Slots.{instance_class_is_in_table}
use Rattle.heap_region.specs.Regions.{Object, object_at, object_of, ref_of, slot_kinds}
use Rattle.heap_region.proofs.ChangedLookups.{object_at_ref}
use Rattle.heap_world.specs.State.{HeapState, slot_kind, word_of}
use Rattle.heap_class.specs.Limits.{large_array_limit}
use Rattle.heap_world.specs.Legal.{IsLegal, HasKind}
use Rattle.heap_world.specs.HeapParts.{IsSoundHeap}
use Rattle.heap_world.proofs.Registers.{object_and_kind_of_slot, word_of_object_slot}
use Rattle.heap_world.proofs.Words.{words_few}
use Rattle.heap_sweep.proofs.FreedCells.{value_means_is_some}

-- what a register holds, but null, names an object
register_names : (w : HeapState) (x : ℕ) → IsLegal w → Contains w.registers x → x ≢ 0 → IsSome (object_of w.regions x)
register_names w x l c n = let live = l.registers_live x c n in value_means_is_some (object_of w.regions x) live.0 live.1

place_of_id_has_object : (w : HeapState) (x : ℕ) (at : ObjRef) → IsSome (object_of w.regions x) → ref_of w.regions x ≡ Some at → IsSome (object_at w.regions at)
place_of_id_has_object w x at h e = subst IsSome (object_at_ref w.regions x at e) h

-- the kind of a slot, by the place of its object
slot_kind_is : (w : HeapState) (x slot : ℕ) (at : ObjRef) (k : Option Kind) → ref_of w.regions x ≡ Some at → IsSome (object_at w.regions at)
    → IfSome (object_at w.regions at) (λ o. k ≡ slice_get (slot_kinds w.classes o) slot) → slot_kind w x slot ≡ k
unfolding slot_kind
slot_kind_is w x slot at k e there is_kind = ap (option_and_then (λ (o : Object). slice_get (slot_kinds w.classes o) slot)) (object_at_ref w.regions x at e) ∙ go (object_at w.regions at) there is_kind
  where
    not_none : false ≡ true → ⊥
    not_none b = cc

    go : (p : Option Object) → IsSome p → IfSome p (λ o. k ≡ slice_get (slot_kinds w.classes o) slot) → option_and_then (λ (o : Object). slice_get (slot_kinds w.classes o) slot) p ≡ k
    go None h f = absurd (not_none h)
    go (Some o) h f = sym f

-- ---- the kinds of an object's slots

pub slot_kinds_are_as_many : (classes : List Class) (kind : ObjKind) (n : ℕ) → HasKind classes kind n → length (slot_kinds_of classes kind n) ≡ n
unfolding slot_kinds_of
slot_kinds_are_as_many classes (Instance k) n h = sym h.1
slot_kinds_are_as_many classes (Array k) n h = length-replicate n Kind.Object
slot_kinds_are_as_many classes (Prim kind) n h = length-replicate n kind

-- the class of an instance is there
class_of_instance_exists : (w : HeapState) (at : ObjRef) (k : ℕ) → IsLegal w → IsSome (object_at w.regions at) → IfSome (object_at w.regions at) (λ o. Instance k ≡ o.kind) → k < length w.classes
class_of_instance_exists w at k l = go (object_at w.regions at) refl
  where
    not_none : false ≡ true → ⊥
    not_none b = cc

    go : (p : Option Object) → object_at w.regions at ≡ p → IsSome p → IfSome p (λ o. Instance k ≡ o.kind) → k < length w.classes
    go None e h f = absurd (not_none h)
    go (Some o) e h f = instance_class_is_in_table w.classes k (subst (λ kind. HasKind w.classes kind (length o.words)) (sym f) (l.objects at o e).kind).0

slot_kind_from_object_kind : (w : HeapState) (at : ObjRef) (slot n : ℕ) (kind : ObjKind) (k : Option Kind) → IfSome (object_at w.regions at) (λ o. kind ≡ o.kind) → IfSome (object_at w.regions at) (λ o. n ≡ length o.words)
    → k ≡ slice_get (slot_kinds_of w.classes kind n) slot → IfSome (object_at w.regions at) (λ o. k ≡ slice_get (slot_kinds w.classes o) slot)
unfolding slot_kinds
slot_kind_from_object_kind w at slot n kind k = go (object_at w.regions at)
  where
    go : (p : Option Object) → IfSome p (λ o. kind ≡ o.kind) → IfSome p (λ o. n ≡ length o.words) → k ≡ slice_get (slot_kinds_of w.classes kind n) slot → IfSome p (λ o. k ≡ slice_get (slot_kinds_of w.classes o.kind (length o.words)) slot)
    go None h f e = h
    go (Some o) h f e = e ∙ ap (λ b. slice_get (slot_kinds_of w.classes b n) slot) h ∙ ap (λ i. slice_get (slot_kinds_of w.classes o.kind i) slot) f

instance_kinds : (w : HeapState) (at : ObjRef) (slot class : ℕ) (k : Option Kind) → IfSome (object_at w.regions at) (λ o. Instance class ≡ o.kind)
    → k ≡ slice_get (slots_of w.classes class) slot → IfSome (object_at w.regions at) (λ o. k ≡ slice_get (slot_kinds w.classes o) slot)
unfolding slot_kinds slot_kinds_of
instance_kinds w at slot class k = go (object_at w.regions at)
  where
    go : (p : Option Object) → IfSome p (λ o. Instance class ≡ o.kind) → k ≡ slice_get (slots_of w.classes class) slot → IfSome p (λ o. k ≡ slice_get (slot_kinds_of w.classes o.kind (length o.words)) slot)
    go None h e = h
    go (Some o) h e = e ∙ ap (λ b. slice_get (slot_kinds_of w.classes b (length o.words)) slot) h

-- ---- an object with a slot

-- the object at the place has the slot, and no more slots than there may be
pub record HasSlot (w : HeapState) (x slot : ℕ) (at : ObjRef) : Type 0 where
  pub there : IsSome (object_at w.regions at)
  pub within : IfSome (object_at w.regions at) (λ o. slot < length o.words)
  pub few : slot < large_array_limit
  pub word : (y : ℕ) → IfSome (object_at w.regions at) (λ o. y ≡ slice_index o.words slot) → y ≡ word_of w x slot

has_slot : (w : HeapState) (x slot : ℕ) (at : ObjRef) (k : Kind) → IsLegal w → ref_of w.regions x ≡ Some at → slot_kind w x slot ≡ Some k → HasSlot w x slot at
unfolding slot_kinds
has_slot w x slot at k l e f = record {
  there = value_means_is_some (object_at w.regions at) s.0 here;
  within = subst (λ p. IfSome p (λ (o : Object). slot < length o.words)) (sym here) within;
  few = omega (arith, within, words_few w l.classes l.objects at s.0 here);
  word = λ y h. subst (λ p. IfSome p (λ (o : Object). y ≡ slice_index o.words slot)) here h ∙ sym (word_of_object_slot w x slot s.0 s.1);
}
  where
    s : (o : Object) × (object_of w.regions x ≡ Some o) × (slice_get (slot_kinds w.classes o) slot ≡ Some k)
    s = object_and_kind_of_slot w x slot k f

    here : object_at w.regions at ≡ Some s.0
    here = sym (object_at_ref w.regions x at e) ∙ s.1

    within : slot < length s.0.words
    within = omega (arith, slice_get_within (slot_kinds w.classes s.0) slot k s.2, slot_kinds_are_as_many w.classes s.0.kind (length s.0.words) (l.objects at s.0 here).kind)

-- ---- by the fields

pub class_by : (w v : HeapState) (at : ObjRef) (k room : ℕ) → IsSoundHeap w room → w ≡ v → IsSome (object_at v.regions at) → IfSome (object_at w.regions at) (λ o. Instance k ≡ o.kind) → k < length w.classes
class_by w v at k room h e there f = class_of_instance_exists w at k h.legal (subst (λ (u : HeapState). IsSome (object_at u.regions at)) (sym e) there) f

abbrev IsKindAt : HeapState → ObjRef → ℕ → Option Kind → Type 0
IsKindAt w at slot k = IfSome (object_at w.regions at) (λ o. k ≡ slice_get (slot_kinds w.classes o) slot)

pub instance_by : (w v : HeapState) (at : ObjRef) (slot class : ℕ) (ks : List Kind) (k : Option Kind) → w ≡ v → IfSome (object_at w.regions at) (λ o. Instance class ≡ o.kind)
    → ks ≡ slots_of w.classes class → k ≡ slice_get ks slot → IfSome (object_at v.regions at) (λ o. k ≡ slice_get (slot_kinds v.classes o) slot)
instance_by w v at slot class ks k e f s g = subst (λ (u : HeapState). IsKindAt u at slot k) e (instance_kinds w at slot class k f (g ∙ ap (λ (l : List Kind). slice_get l slot) s))

pub array_by : (w v : HeapState) (at : ObjRef) (slot n class : ℕ) (k : Option Kind) → w ≡ v → IfSome (object_at w.regions at) (λ o. Array class ≡ o.kind) → IfSome (object_at w.regions at) (λ o. n ≡ length o.words)
    → k ≡ slice_get (replicate n Kind.Object) slot → IfSome (object_at v.regions at) (λ o. k ≡ slice_get (slot_kinds v.classes o) slot)
unfolding slot_kinds_of
array_by w v at slot n class k e f l g = subst (λ (u : HeapState). IsKindAt u at slot k) e (slot_kind_from_object_kind w at slot n (Array class) k f l g)

pub prim_by : (w v : HeapState) (at : ObjRef) (slot n : ℕ) (kind : Kind) (k : Option Kind) → w ≡ v → IfSome (object_at w.regions at) (λ o. Prim kind ≡ o.kind) → IfSome (object_at w.regions at) (λ o. n ≡ length o.words)
    → k ≡ slice_get (replicate n kind) slot → IfSome (object_at v.regions at) (λ o. k ≡ slice_get (slot_kinds v.classes o) slot)
unfolding slot_kinds_of
prim_by w v at slot n kind k e f l g = subst (λ (u : HeapState). IsKindAt u at slot k) e (slot_kind_from_object_kind w at slot n (Prim kind) k f l g)

pub register_names_an_object : (w v : HeapState) (x room : ℕ) → IsSoundHeap w room → w ≡ v → Contains v.registers x → x ≢ 0 → IsSome (object_of w.regions x)
register_names_an_object w v x room h e c n = register_names w x h.legal (subst (λ (u : HeapState). Contains u.registers x) (sym e) c) n

pub ref_by : (w v : HeapState) (x : ℕ) (at : ObjRef) → w ≡ v → ref_of w.regions x ≡ Some at → ref_of v.regions x ≡ Some at
ref_by w v x at e r = subst (λ (u : HeapState). ref_of u.regions x ≡ Some at) e r

pub place_of_register_has_object : (w v : HeapState) (x room : ℕ) (at : ObjRef) → IsSoundHeap w room → w ≡ v → Contains v.registers x → x ≢ 0 → ref_of w.regions x ≡ Some at → IsSome (object_at v.regions at)
place_of_register_has_object w v x room at h e c n r = subst (λ (u : HeapState). IsSome (object_at u.regions at)) e (place_of_id_has_object w x at (register_names_an_object w v x room h e c n) r)

pub slot_kind_of_register_object : (w v : HeapState) (x slot room : ℕ) (at : ObjRef) (k : Option Kind) → IsSoundHeap w room → w ≡ v → Contains v.registers x → x ≢ 0 → ref_of w.regions x ≡ Some at
    → IfSome (object_at v.regions at) (λ o. k ≡ slice_get (slot_kinds v.classes o) slot) → slot_kind v x slot ≡ k
slot_kind_of_register_object w v x slot room at k h e c n r f = slot_kind_is v x slot at k (ref_by w v x at e r) (place_of_register_has_object w v x room at h e c n r) f

-- the object at the place has the slot
pub slot_by : (w v : HeapState) (x slot room : ℕ) (at : ObjRef) (k : Kind) → IsSoundHeap w room → w ≡ v → ref_of v.regions x ≡ Some at → slot_kind v x slot ≡ Some k → HasSlot w x slot at
slot_by w v x slot room at k h e r f = subst (λ (u : HeapState). HasSlot u x slot at) (sym e) (has_slot v x slot at k (subst IsLegal e h.legal) r f)

pub kind_that_is_not_none : (p : Option Kind) → is_none p ≡ false → (k : Kind) × (p ≡ Some k)
kind_that_is_not_none None h = cc
kind_that_is_not_none (Some k) h = (k, refl)
