-- The objects that had an id, one state after another.
use Rattle.std.proofs.Common.{◌≡◌, ◌≢◌, ℕ, zero, suc, add-one, ◌+◌, ◌-◌, ◌/◌, ◌<◌, ◌≤◌, Bool, true, false, not, ◌&&◌, cond, List, [], ◌∷◌, ◌++◌, length, Option, Some, None, IsSome, refl, sym, ap, ◌∙◌, subst, inl, inr, arith}
use Rattle.std.specs.Prelude.{◌==◌, is_some, reverse}
use Rattle.std.proofs.lemmas.Bool.{cases_Bool, cases_eq, eq-eqb, ne_eqb, false≢true, true≢false}
use Rattle.std.proofs.lemmas.List.{append-nil, reverse-append}
use Rattle.heap_class.specs.declared.ObjRef.{ObjRef}
use Rattle.heap_region.specs.Limits.{heap_words, region_words}
use Rattle.heap_region.specs.Regions.{Object, cell_object, object_at, object_base, object_of, ref_of}
use Rattle.heap_region.proofs.ChangedLookups.{object_at_ref, place_of_object_of_id}
use Rattle.heap_pins.proofs.RoomForCopies.{object_within}
use Rattle.heap_world.specs.Legal.{IsLegal}
use Rattle.heap_world.specs.State.{HeapState}
use Rattle.heap_step.specs.Laws.{IsStep}
use Rattle.heap_step.specs.declared.Event.{Event}
use Rattle.heap_step.specs.declared.Undo.{Undo}
use Rattle.heap_step.specs.declared.Undo.TheVariants.{Reclaim}
use Rattle.heap_trail.specs.Laws.{IsTrail}
use Rattle.heap_trail.specs.Trail.{Trail, retained, state_ago}
use Rattle.heap_questions.specs.Lives.{AreLives, BeginsAgo, HasId, HasStayed, IsLifeAgo, IsLifeIf, before_lives, stands_in, stood_in}
use Rattle.heap_questions.specs.PastTrails.{HasCellSize, IsCellOf, size_before, stood_before, storage_cell_size}
use Rattle.heap_questions.specs.declared.past.lives.Life.{Life}
use Rattle.heap_questions.proofs.PastIds.{regions_ago}
use Rattle.heap_questions.proofs.PastTrails.{cell_found, cell_named, found_none, region_named, size_step, stood_step}

-- ---- the cell that an id names

-- an id names an object exactly if one stands in its cell
pub stands_by_cell : (w : HeapState) (x size region : ℕ) (cell : Option ObjRef) → IsLegal w → HasCellSize w region size → region ≡ (x - object_base) / 8 / region_words → IsCellOf size region x cell → is_some (object_of w.regions x) ≡ stands_in w cell
stands_by_cell w x size region cell legal h r c = go cell refl c
  where
    finds : (at : ObjRef) → ref_of w.regions x ≡ Some at → IsSome (object_at w.regions at) → cell ≡ Some at
    finds at e there =
        let same : at.region ≡ region = region_named w.regions x at e ∙ sym r in
        cell_found w x size at cell legal (subst (λ k. HasCellSize w k size) (sym same) h) (subst (λ k. IsCellOf size k x cell) (sym same) c) e there

    none : (y : Option ObjRef) → cell ≡ y → stands_in w y ≡ false → object_of w.regions x ≡ None
    none y e s = found_none w.regions x cell finds (λ at q. ap (stands_in w) (sym q ∙ e) ∙ s)

    go : (y : Option ObjRef) → cell ≡ y → IsCellOf size region x y → is_some (object_of w.regions x) ≡ stands_in w y
    go None e c = ap is_some (none None e refl)
    go (Some at) e p = elim (cases_Bool (is_some (object_at w.regions at))) [
      | inl there ↦
          let named = cell_named w x size region at (Some at) legal h p refl there in
          ap is_some (object_at_ref w.regions x at named)
      | inr gone ↦ ap is_some (none (Some at) e gone) ∙ sym gone
    ]

cell_region : (size region x : ℕ) (at : ObjRef) → IsCellOf size region x (Some at) → at.region ≡ region
cell_region size region x at p = ap (λ (b : ObjRef). b.region) p.0

-- whether an object had the id before a step
pub had_id : (left : Undo) (e : Event) (before after : HeapState) (x size region : ℕ) (cell : Option ObjRef) (stood : Bool) → IsStep e before after left → IsLegal after → HasCellSize after region size → region ≡ (x - object_base) / 8 / region_words
    → IsCellOf (size_before left region size) region x cell → stood ≡ is_some (object_of after.regions x) → stood_in left cell stood ≡ is_some (object_of before.regions x)
had_id left e before after x size region cell stood s legal h r c is =
    go cell c ∙ sym (stands_by_cell before x (size_before left region size) region cell s.legal (size_step left e before after region size s h) r c)
  where
    -- what the record tells doesn't depend on the state after it, if that has other cells
    same : (left : Undo) (at : ObjRef) → IsCellOf (size_before left region size) region x (Some at) → IsStep e before after left → stood_before left at stood ≡ stood_before left at (is_some (object_at after.regions at))
    same (Reclaim k storage) at p s = elim (cases_eq k region) [
      | inl q ↦
          let here : (at.region == k) ≡ true = eq-eqb at.region k (cell_region (size_before (Reclaim k storage) region size) region x at p ∙ sym q) in
          whole here
      | inr q ↦ ap (stood_before (Reclaim k storage) at) (is ∙ stands_by_cell after x size region (Some at) legal h r (kept q p))
    ]
      where
        whole : (at.region == k) ≡ true → stood_before (Reclaim k storage) at stood ≡ stood_before (Reclaim k storage) at (is_some (object_at after.regions at))
        whole b = ap (λ (b : Bool). cond b (is_some (cell_object storage at.cell)) stood) b ∙ sym (ap (λ (b : Bool). cond b (is_some (cell_object storage at.cell)) (is_some (object_at after.regions at))) b)

        kept : k ≢ region → IsCellOf (size_before (Reclaim k storage) region size) region x (Some at) → IsCellOf size region x (Some at)
        kept q p = subst (λ n. IsCellOf n region x (Some at)) (ap (λ (b : Bool). cond b (storage_cell_size storage) size) (ne_eqb k region q)) p
    same left at p s = ap (stood_before left at) (is ∙ stands_by_cell after x size region (Some at) legal h r p)

    go : (y : Option ObjRef) → IsCellOf (size_before left region size) region x y → stood_in left y stood ≡ stands_in before y
    go None c = refl
    go (Some at) p = same left at p s ∙ sym (stood_step left e before after at s)

-- ---- no object has the id

-- no retained state has the region
pub none_in_region : (keep : ℕ) (t : Trail) (x n : ℕ) → IsTrail keep t → length t.current.regions ≤ (x - object_base) / 8 / 1024 → n ≤ retained t → ¬ HasId t x n
none_in_region keep t x n trail far within there =
    let w = state_ago n t in
    let o = some_there (object_of w.regions x) there in
    let p = place_of_object_of_id w.regions x o.0 o.1 in
    let here : IsSome (object_at w.regions p.0) = subst (λ (y : Option Object). IsSome y) (sym p.2) refl in
    let in_list = object_within w.regions p.0 here in
    absurd (omega (arith, in_list, region_named w.regions x p.0 p.1, regions_ago keep t n trail within, far))
  where
    some_there : (x : Option Object) → IsSome x → (o : Object) × (x ≡ Some o)
    some_there None h = absurd (false≢true h)
    some_there (Some o) h = (o, refl)

pub no_lives : (t : Trail) (x n : ℕ) → ((k : ℕ) → k < n → ¬ HasId t x k) → AreLives t x n []
no_lives t x zero h = refl
no_lives t x (suc n) h = (None, [], λ b. h n (omega arith) b.0, no_lives t x n (λ k l. h k (omega (arith, l))), refl)

-- ---- step by step

-- what is so after a look at the newest n states: whether an object has the id in the next, since how many steps ago one after
-- another state has it, and what is told of the objects that began to have it
pub record AreLivesTo (t : Trail) (x region size : ℕ) (stood : Bool) (newest n : ℕ)
    (lives : List Life) : Type 0 where
  pub sized : HasCellSize (state_ago n t) region size
  pub limit : size ≤ heap_words
  pub stands : stood ≡ is_some (object_of (state_ago n t).regions x)
  pub since : stood ≡ true → HasStayed t x n newest
  pub few : newest ≤ n
  pub told : AreLives t x n (reverse lives)

reverse_more : (lives : List Life) (first : Option Life) → reverse (lives ++ before_lives first []) ≡ before_lives first (reverse lives)
reverse_more lives None = ap reverse (append-nil lives)
reverse_more lives (Some l) = reverse-append lives (l ∷ [])

pub one_life_more : (t : Trail) (x n : ℕ) (lives more : List Life) (first : Option Life) → AreLives t x n (reverse lives) → IsLifeAgo t x n first → more ≡ lives ++ before_lives first [] → AreLives t x (n + 1) (reverse more)
one_life_more t x n lives more first told a e = subst (λ m. AreLives t x m (reverse more)) (sym (add-one n)) (first, reverse lives, a, told, ap reverse e ∙ reverse_more lives first)

-- what is told of the object is its life, where the object began to have the id
pub life_told : (t : Trail) (x n newest : ℕ) (asked : Bool) (first : Option Life) → (asked ≡ true → BeginsAgo t x n × HasStayed t x n newest) → (asked ≡ false → ¬ BeginsAgo t x n) → IsLifeIf t x n newest asked first → IsLifeAgo t x n first
life_told t x n newest true None begins none i = absurd i
life_told t x n newest true (Some l) begins none i = record { begins = (begins refl).0; last = newest; stayed = (begins refl).1; told = i }
life_told t x n newest false first begins none i = subst (IsLifeAgo t x n) (sym i) (none refl)

not_true : (b : Bool) → not b ≡ true → b ≡ true → ⊥
not_true true h e = false≢true h
not_true false h e = false≢true e

-- in a state that isn't the oldest
pub begins_here : (t : Trail) (x n newest : ℕ) (stood was : Bool) → n < retained t → stood ≡ is_some (object_of (state_ago n t).regions x) → was ≡ is_some (object_of (state_ago (n + 1) t).regions x) → (stood ≡ true → HasStayed t x n newest)
    → ((stood && not was) ≡ true → BeginsAgo t x n × HasStayed t x n newest) × ((stood && not was) ≡ false → ¬ BeginsAgo t x n)
begins_here t x n newest true was l s w since = (
  λ e. ((sym s, inr (λ h. not_true was e (w ∙ h))), since refl),
  λ e b. elim b.1 [
    | inl q ↦ absurd (omega (arith, q, l))
    | inr none ↦ none (sym w ∙ from_not was e)
  ],
)
  where
    from_not : (b : Bool) → not b ≡ false → b ≡ true
    from_not true e = refl
    from_not false e = absurd (true≢false e)
begins_here t x n newest false was l s w since = (λ e. absurd (false≢true e), λ e b. absurd (false≢true (s ∙ b.0)))

-- in the oldest
pub begins_at_last : (t : Trail) (x newest : ℕ) (stood : Bool) → stood ≡ is_some (object_of (state_ago (retained t) t).regions x) → (stood ≡ true → HasStayed t x (retained t) newest)
    → (stood ≡ true → BeginsAgo t x (retained t) × HasStayed t x (retained t) newest) × (stood ≡ false → ¬ BeginsAgo t x (retained t))
begins_at_last t x newest stood s since = (λ e. ((sym s ∙ e, inl refl), since e), λ e b. false≢true (sym e ∙ s ∙ b.0))

-- one state further
pub stayed_more : (t : Trail) (x n newest : ℕ) (stood was : Bool) → stood ≡ is_some (object_of (state_ago n t).regions x) → was ≡ is_some (object_of (state_ago (n + 1) t).regions x) → (stood ≡ true → HasStayed t x n newest) → was ≡ true → HasStayed t x (n + 1) (cond stood newest (n + 1))
stayed_more t x n newest true was s w since e =
    let a = since refl in
    record {
      within = omega (arith, a.within);
      each = λ k l m. elim (cases_eq k (n + 1)) [
        | inl q ↦ subst (HasId t x) (sym q) (sym w ∙ e)
        | inr q ↦ a.each k l (omega (arith, m, q))
      ];
      next = a.next;
    }
stayed_more t x n newest false was s w since e =
    record {
      within = omega arith;
      each = λ k l m. subst (HasId t x) (let z : n + 1 ≡ k = omega (arith, l, m) in z) (sym w ∙ e);
      next = inr (subst (λ k. ¬ HasId t x k) (let z : n ≡ n + 1 - 1 = omega arith in z) (λ h. false≢true (s ∙ h)));
    }

pub stayed_now : (t : Trail) (x : ℕ) (stood : Bool) → stood ≡ is_some (object_of (state_ago 0 t).regions x) → stood ≡ true → HasStayed t x 0 0
stayed_now t x stood s e = record { within = omega arith; each = λ k l m. subst (HasId t x) (let z : 0 ≡ k = omega (arith, m) in z) (sym s ∙ e); next = inl refl }
