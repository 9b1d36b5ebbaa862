-- Tests of registers, and of slots of the objects that registers name.
use Rattle.std.proofs.Common.{◌≡◌, ◌≢◌, ◌⊎◌, ℕ, Bool, true, false, List, ◌∷◌, Option, Some, None, refl, sym, ap, ◌∙◌, arith}
use mathlib.Core.Logic.{inl, inr}
use Rattle.std.specs.Prelude.{not, is_none, IfSome, slice_index, ◌&&◌, ◌==◌}
use Rattle.std.specs.Option.{option_map_or}
use Rattle.heap_class.specs.declared.Kind.{Kind}
use Rattle.heap_class.specs.declared.ObjRef.{ObjRef}
use Rattle.heap_class.specs.declared.Refusal.{Refusal}
use Rattle.heap_class.specs.declared.Refusal.TheVariants.{BadRegister, NullRegister, BadSlot}
use Rattle.heap_class.specs.Kinds.{is_reference}
use Rattle.heap_class.specs.Refusals.{first_refusal}
use Rattle.heap_region.specs.Regions.{object_at, ref_of}
use Rattle.heap_world.specs.State.{HeapState, register, slot_kind, word_of}
use Rattle.heap_world.specs.HeapParts.{IsSoundHeap}
use Rattle.heap_world.specs.Events.{lacks_slot, is_reference_slot}
use Rattle.heap_world.proofs.FirstRefusals.{refusal_of_test_that_holds, refusal_of_later_tests}
use Rattle.heap_world.proofs.Slot.{slot_by}

-- ---- two registers

-- one of the two tests fails
pub one_missing : (a b : Bool) → (a ≡ false) ⊎ (b ≡ false) → not (a && b) ≡ true
one_missing false b h = refl
one_missing true b (inl e) = cc
one_missing true b (inr e) = ap not e

pub not_of_two_truths_is_false : (a b : Bool) → a ≡ true → b ≡ true → not (a && b) ≡ false
not_of_two_truths_is_false true true e f = refl
not_of_two_truths_is_false true false e f = cc
not_of_two_truths_is_false false b e f = cc

-- ---- a slot of the object that an id names

-- there is no such slot: the id is null, or its object lacks the slot
pub no_slot : (w : HeapState) (x slot : ℕ) (b : Bool) (ts : List (Bool × Refusal)) (e : Refusal) → b ≡ false → ((e ≡ NullRegister) × (x ≡ 0)) ⊎ ((e ≡ BadSlot) × (x ≢ 0) × (slot_kind w x slot ≡ None))
    → first_refusal ((b, BadRegister) ∷ (x == 0, NullRegister) ∷ (lacks_slot w x slot, BadSlot) ∷ ts) ≡ Some e
unfolding lacks_slot
no_slot w x slot b ts e h (inl p) = refusal_of_later_tests _ _ _ _ h (refusal_of_test_that_holds _ _ _ (ap (λ y. y == 0) p.1)) ∙ ap (λ y. Some y) (sym p.0)
no_slot w x slot b ts e h (inr p) = refusal_of_later_tests _ _ _ _ h (refusal_of_later_tests _ _ _ _ (not_zero x p.1) (refusal_of_test_that_holds _ _ _ (ap is_none p.2))) ∙ ap (λ y. Some y) (sym p.0)
  where
    not_zero : (y : ℕ) → y ≢ 0 → (y == 0) ≡ false
    not_zero y n = grind arith

-- there is, and the tests that follow decide
pub refusals_past_named_slot : (w : HeapState) (x slot : ℕ) (k : Kind) (b : Bool) (ts : List (Bool × Refusal)) (r : Option Refusal) → b ≡ false → x ≢ 0 → slot_kind w x slot ≡ Some k → first_refusal ts ≡ r
    → first_refusal ((b, BadRegister) ∷ (x == 0, NullRegister) ∷ (lacks_slot w x slot, BadSlot) ∷ ts) ≡ r
unfolding lacks_slot
refusals_past_named_slot w x slot k b ts r h n s f = refusal_of_later_tests _ _ _ _ h (refusal_of_later_tests _ _ _ _ (not_zero x n) (refusal_of_later_tests _ _ _ _ (ap is_none s) f))
  where
    not_zero : (y : ℕ) → y ≢ 0 → (y == 0) ≡ false
    not_zero y n = grind arith

-- whether a slot is of references, by its kind
pub reference_slot_by_its_kind : (w : HeapState) (x slot : ℕ) (k : Kind) → slot_kind w x slot ≡ Some k → is_reference k ≡ is_reference_slot w x slot
unfolding is_reference_slot
reference_slot_by_its_kind w x slot k s = ap (λ (p : Option Kind). option_map_or is_reference p false) (sym s)

-- the same, of the object that a register names
pub reference_by : (v : HeapState) (m r slot x : ℕ) (k : Kind) (b : Bool) → x ≡ register v m r → slot_kind v x slot ≡ Some k → b ≡ is_reference k → b ≡ is_reference_slot v (register v m r) slot
reference_by v m r slot x k b q s e = e ∙ reference_slot_by_its_kind v x slot k s ∙ ap (λ y. is_reference_slot v y slot) q

pub word_by : (w v : HeapState) (m r slot x y room : ℕ) (at : ObjRef) (k : Kind) → IsSoundHeap w room → w ≡ v → x ≡ register v m r → ref_of v.regions x ≡ Some at → slot_kind v x slot ≡ Some k
    → IfSome (object_at w.regions at) (λ o. y ≡ slice_index o.words slot) → y ≡ word_of v (register v m r) slot
word_by w v m r slot x y room at k h e q p s f = (slot_by w v x slot room at k h e p s).word y f ∙ ap (λ (u : HeapState). word_of u x slot) e ∙ ap (λ z. word_of v z slot) q
