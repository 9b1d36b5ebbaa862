-- A walk over the retained steps, newest first.
use Rattle.std.proofs.Common.{◌≡◌, ℕ, zero, suc, ◌+◌, ◌-◌, ◌<◌, true, false, List, [], ◌∷◌, length, Option, Some, None, refl, sym, ap, ◌∙◌, subst, inl, inr, arith, add-one}
use Rattle.std.specs.Prelude.{slice_get, slice_index, option_and_then, IsSome, IfSome}
use Rattle.std.proofs.lemmas.Bool.{cases_eq, false≢true}
use Rattle.std.proofs.lemmas.Bool.Decides.{when_true, when_false}
use Rattle.std.proofs.lemmas.Option.{slice_get-get_or}
use Rattle.heap_class.specs.declared.ObjRef.{ObjRef}
use Rattle.heap_region.specs.Pool.{RegionPool}
use Rattle.heap_region.specs.Regions.{Object, object_at}
use Rattle.heap_world.specs.State.{HeapState, pool_of}
use Rattle.heap_step.specs.declared.Undo.{Undo}
use Rattle.heap_trail.specs.Trail.{Trail, retained, state_ago}
use Rattle.heap_trail.proofs.RetainedRecords.{HasRecord}
use Rattle.heap_questions.specs.Changes.{AllLeave, IsBirth, IsLastWrite, Leaves, changed_by, made_by, slot_word}
use Rattle.heap_questions.proofs.Writes.{record_makes, record_tells}

pub now_is : (t : Trail) → state_ago 0 t ≡ t.current
unfolding state_ago
now_is t = refl

-- the regions that are read are those of the current state
pub regions_now : (s : RegionPool) (w v : HeapState) → s ≡ pool_of w → w ≡ v → s.regions ≡ v.regions
regions_now s w v is now = ap (λ (u : RegionPool). u.regions) is ∙ ap (λ (u : HeapState). u.regions) now

all_leave : {A : Type 0} (look : HeapState → Option A) (t : Trail) (n : ℕ) → AllLeave look t n → look (state_ago 0 t) ≡ look (state_ago n t)
all_leave look t zero h = refl
all_leave look t (suc n) h = all_leave look t n (λ m l. h m (omega (arith, l))) ∙ h n (omega arith) ∙ ap (λ k. look (state_ago k t)) (add-one n)

one_more : {A : Type 0} (look : HeapState → Option A) (t : Trail) (n : ℕ) → AllLeave look t n → Leaves look t n → AllLeave look t (n + 1)
one_more look t n h e m l = elim (cases_eq m n) [
  | inl p ↦ subst (λ k. Leaves look t k) (sym p) e
  | inr p ↦ h m (omega (arith, l, p))
]

word_ago : (t : Trail) (at : ObjRef) (s n now : ℕ) → slot_word t.current at s ≡ Some now → AllLeave (λ w. slot_word w at s) t n → slot_word (state_ago n t) at s ≡ Some now
word_ago t at s n now h l = sym (all_leave (λ w. slot_word w at s) t n l) ∙ ap (λ w. slot_word w at s) (now_is t) ∙ h

pub change_is_last_write : (t : Trail) (at : ObjRef) (s n now : ℕ) (left : Undo) → n < retained t → slot_word t.current at s ≡ Some now → AllLeave (λ w. slot_word w at s) t n → HasRecord t n left → changed_by left at s now ≡ true → IsLastWrite t at s (t.place - n)
change_is_last_write t at s n now left lt h l r c =
    let w = word_ago t at s n now h l in
    let tells = record_tells r.0 (state_ago (n + 1) t) (state_ago n t) left at s now r.1 w in
    let no : slot_word (state_ago (n + 1) t) at s ≡ Some now → ⊥ = when_true _ _ c tells in
    record { ago = n; within = lt; place_is = refl; changed = λ e. no (sym e ∙ w); since = l }

pub no_change_goes_further : (t : Trail) (at : ObjRef) (s n now : ℕ) (left : Undo) → slot_word t.current at s ≡ Some now → AllLeave (λ w. slot_word w at s) t n → HasRecord t n left → changed_by left at s now ≡ false → AllLeave (λ w. slot_word w at s) t (n + 1)
no_change_goes_further t at s n now left h l r c =
    let w = word_ago t at s n now h l in
    let tells = record_tells r.0 (state_ago (n + 1) t) (state_ago n t) left at s now r.1 w in
    let same : slot_word (state_ago (n + 1) t) at s ≡ Some now = when_false _ _ c tells in
    one_more (λ w. slot_word w at s) t n l (w ∙ sym same)

-- ---- births

abbrev pub Stands : Trail → ObjRef → ℕ → Type 0
Stands t at n = (m : ℕ) → m < n + 1 → IsSome (object_at (state_ago m t).regions at)

pub stands_now : (t : Trail) (at : ObjRef) → IsSome (object_at t.current.regions at) → Stands t at 0
stands_now t at h m l = let z : m ≡ 0 = omega (arith, l) in subst (λ k. IsSome (object_at (state_ago k t).regions at)) (sym z) (subst (λ (w : HeapState). IsSome (object_at w.regions at)) (sym (now_is t)) h)

pub making_is_birth : (t : Trail) (at : ObjRef) (n : ℕ) (left : Undo) → n < retained t → Stands t at n → HasRecord t n left → made_by left at ≡ true → IsBirth t at (t.place - n)
making_is_birth t at n left lt s r c =
    let tells = record_makes r.0 (state_ago (n + 1) t) (state_ago n t) left at r.1 (s n (omega arith)) in
    record { ago = n; within = lt; place_is = refl; before = when_true _ _ c tells; since = s }

pub no_making_goes_further : (t : Trail) (at : ObjRef) (n : ℕ) (left : Undo) → Stands t at n → HasRecord t n left → made_by left at ≡ false → Stands t at (n + 1)
no_making_goes_further t at n left s r c =
    let tells = record_makes r.0 (state_ago (n + 1) t) (state_ago n t) left at r.1 (s n (omega arith)) in
    let there = when_false _ _ c tells in
    λ m l. elim (cases_eq m (n + 1)) [
      | inl p ↦ subst (λ k. IsSome (object_at (state_ago k t).regions at)) (sym p) there
      | inr p ↦ s m (omega (arith, l, p))
    ]

-- ---- the slot that is asked for

pub slot_there : (w : HeapState) (at : ObjRef) (s : ℕ) → IsSome (slot_word w at s) → (o : Object) × (object_at w.regions at ≡ Some o) × (s < length o.words)
unfolding slot_word
slot_there w at s h = go (object_at w.regions at) refl h
  where
    within : (xs : List ℕ) (k : ℕ) → IsSome (slice_get xs k) → k < length xs
    within [] k h = absurd (false≢true h)
    within (x ∷ xs) zero h = omega arith
    within (x ∷ xs) (suc k) h = let l = within xs k h in omega (arith, l)

    go : (x : Option Object) → object_at w.regions at ≡ x → IsSome (option_and_then (λ o. slice_get o.words s) x) → (o : Object) × (object_at w.regions at ≡ Some o) × (s < length o.words)
    go None e h = absurd (false≢true h)
    go (Some o) e h = (o, e, within o.words s h)

pub word_is : (w : HeapState) (at : ObjRef) (s now : ℕ) → IsSome (slot_word w at s) → IfSome (object_at w.regions at) (λ o. now ≡ slice_index o.words s) → slot_word w at s ≡ Some now
unfolding slot_word
word_is w at s now h d =
    let o = slot_there w at s h in
    let P : Option Object → Type 0 = λ x. IfSome x (λ o. now ≡ slice_index o.words s) in
    let e : now ≡ slice_index o.0.words s = subst P o.1 d in
    ap (option_and_then (λ o. slice_get o.words s)) o.1 ∙ slice_get-get_or o.0.words s 0 o.2 ∙ ap Some (sym e)

pub slot_within : (w : HeapState) (at : ObjRef) (s : ℕ) → IsSome (slot_word w at s) → IfSome (object_at w.regions at) (λ o. s < length o.words)
slot_within w at s h =
    let o = slot_there w at s h in
    let P : Option Object → Type 0 = λ x. IfSome x (λ o. s < length o.words) in
    subst P (sym o.1) o.2

pub object_there : (w : HeapState) (at : ObjRef) (s : ℕ) → IsSome (slot_word w at s) → IsSome (object_at w.regions at)
object_there w at s h =
    let o = slot_there w at s h in
    subst (λ (x : Option Object). IsSome x) (sym o.1) refl

pub word_there : (w : HeapState) (at : ObjRef) (s now : ℕ) → slot_word w at s ≡ Some now → IsSome (object_at w.regions at)
word_there w at s now h = object_there w at s (subst (λ (x : Option ℕ). IsSome x) (sym h) refl)
