-- What a record tells of the word of a slot before its step.
use Rattle.std.proofs.Common.{◌≡◌, ◌≢◌, ℕ, Bool, true, false, cond, List, Option, Some, None, refl, sym, ap, ap₂, ◌∙◌, subst, inl, inr, arith}
use Rattle.std.specs.Prelude.{slice_get, slice_set, option_map, option_and_then, MatchBool, IsSome, ◌==◌, ◌&&◌, ◌||◌, not}
use Rattle.std.proofs.lemmas.Bool.{cases_eq, eqb-true, eq-eqb, ne_eqb, and_parts, false≢true}
use Rattle.std.proofs.lemmas.Option.{none-some, same_Some, slice_get_within}
use Rattle.heap_class.proofs.Lists.{got_set_elsewhere}
use Rattle.heap_region.proofs.References.{set_item_is_got}
use Rattle.heap_class.specs.declared.ObjRef.{ObjRef}
use Rattle.heap_region.proofs.Lookups.{object_elsewhere, object_after_its_change}
use Rattle.heap_region.specs.Regions.{Object, Region, UsedRegion, cell_object, object_at, with_word}
use Rattle.heap_world.specs.State.{HeapState}
use Rattle.heap_step.specs.declared.Event.{Event}
use Rattle.heap_step.specs.declared.Undo.{Undo}
use Rattle.heap_step.specs.declared.Undo.TheVariants.{Put, Store, New, Finish, Sweep, Reclaim}
use Rattle.heap_step.specs.Laws.{IsStep}
use Rattle.heap_step.proofs.Steps.{put_undone_is_before, store_is}
use Rattle.heap_pins.specs.KeptCopies.{touched}
use Rattle.heap_pins.specs.Walk.{TellsBefore, cell_state, dead_state, states_before}
use Rattle.heap_pins.proofs.RecordCases.{sweep_touches_its_region}
use Rattle.heap_questions.specs.Changes.{changed_by, made_by, slot_word}
use Rattle.heap_questions.proofs.ToldObjects.{covering_region_has_object, is_there, none_there, reclaimed_none, state_there, sweep_was, step_tells_before}

-- ---- words and objects

object_of_word : (w : HeapState) (at : ObjRef) (s now : ℕ) → slot_word w at s ≡ Some now → (o : Object) × (object_at w.regions at ≡ Some o) × (slice_get o.words s ≡ Some now)
unfolding slot_word
object_of_word w at s now h = go (object_at w.regions at) refl h
  where
    go : (x : Option Object) → object_at w.regions at ≡ x → option_and_then (λ o. slice_get o.words s) x ≡ Some now → (o : Object) × (object_at w.regions at ≡ Some o) × (slice_get o.words s ≡ Some now)
    go None e h = absurd (none-some now h)
    go (Some o) e h = (o, e, h)

word_of_object : (w : HeapState) (at : ObjRef) (s : ℕ) (o : Object) → object_at w.regions at ≡ Some o → slot_word w at s ≡ slice_get o.words s
unfolding slot_word
word_of_object w at s o e = ap (option_and_then (λ o. slice_get o.words s)) e

no_word : (w : HeapState) (at : ObjRef) (s : ℕ) → object_at w.regions at ≡ None → slot_word w at s ≡ None
unfolding slot_word
no_word w at s e = ap (option_and_then (λ o. slice_get o.words s)) e

-- the region of the place isn't touched, and there was an object
untouched_region_keeps_word : (left : Undo) (before after : HeapState) (at : ObjRef) (s now : ℕ) → TellsBefore left before after → touched left ≢ Some at.region → cell_state (object_at before.regions at) ≢ 0 → slot_word after at s ≡ Some now → slot_word before at s ≡ Some now
untouched_region_keeps_word left before after at s now t n c h =
    let o = is_there (object_at before.regions at) c in
    let p = covering_region_has_object before.regions after.regions at o.0 (t.others at.region n) o.1 in
    word_of_object before at s o.0 o.1 ∙ ap (λ (l : List ℕ). slice_get l s) (sym p.2) ∙ sym (word_of_object after at s p.0 p.1) ∙ h

-- an object is there after the step
word_means_object : (after : HeapState) (at : ObjRef) (s now : ℕ) → slot_word after at s ≡ Some now → cell_state (object_at after.regions at) ≢ 0
word_means_object after at s now h = let o = object_of_word after at s now h in state_there (object_at after.regions at) o.0 o.1

-- nothing is touched, and the states are as after the step
untouched_cell_keeps_word : (left : Undo) (before after : HeapState) (at : ObjRef) (s now : ℕ) → TellsBefore left before after → touched left ≡ None → states_before left (λ b. cell_state (object_at after.regions b)) at ≡ cell_state (object_at after.regions at) → slot_word after at s ≡ Some now → slot_word before at s ≡ Some now
untouched_cell_keeps_word left before after at s now t n c h =
    untouched_region_keeps_word left before after at s now t (λ e. none-some at.region (sym n ∙ e)) (λ z. word_means_object after at s now h (sym (t.states at ∙ c) ∙ z)) h

-- ---- a word that was written

-- the word before a write, by whether it was of this slot
pub written_here : (before after : HeapState) (at : ObjRef) (s old now : ℕ) → before.regions ≡ with_word at s old after.regions → slot_word after at s ≡ Some now → slot_word before at s ≡ Some old
unfolding with_word
written_here before after at s old now e h =
    let o = object_of_word after at s now h in
    let f : Object → Object = λ o. record o { words = slice_set o.words s old } in
    let b : object_at before.regions at ≡ Some (f o.0) = ap (λ (rs : List Region). object_at rs at) e ∙ object_after_its_change at f after.regions ∙ ap (option_map f) o.1 in
    word_of_object before at s (f o.0) b ∙ set_item_is_got o.0.words s old (slice_get_within o.0.words s now o.2)

other_slot : (before after : HeapState) (at : ObjRef) (s k old now : ℕ) → before.regions ≡ with_word at s old after.regions → s ≢ k → slot_word after at k ≡ Some now → slot_word before at k ≡ Some now
unfolding with_word
other_slot before after at s k old now e n h =
    let o = object_of_word after at k now h in
    let f : Object → Object = λ o. record o { words = slice_set o.words s old } in
    let b : object_at before.regions at ≡ Some (f o.0) = ap (λ (rs : List Region). object_at rs at) e ∙ object_after_its_change at f after.regions ∙ ap (option_map f) o.1 in
    word_of_object before at k (f o.0) b ∙ got_set_elsewhere s k o.0.words old n ∙ o.2

other_place : (before after : HeapState) (a at : ObjRef) (s k old now : ℕ) → before.regions ≡ with_word a s old after.regions → at ≢ a → slot_word after at k ≡ Some now → slot_word before at k ≡ Some now
unfolding with_word
other_place before after a at s k old now e n h =
    let o = object_of_word after at k now h in
    let f : Object → Object = λ o. record o { words = slice_set o.words s old } in
    let b : object_at before.regions at ≡ Some o.0 = ap (λ (rs : List Region). object_at rs at) e ∙ object_elsewhere a at f after.regions (λ q. n (sym q)) ∙ o.1 in
    word_of_object before at k o.0 b ∙ o.2

pub same_place : (a b : ObjRef) → a.region ≡ b.region → a.cell ≡ b.cell → a ≡ b
same_place a b e f = ap₂ (λ (r c : ℕ). let p : ObjRef = record { region = r; cell = c } in p) e f

by_test : (b : Bool) (P Q : Type 0) → (b ≡ true → P) → (b ≡ false → Q) → MatchBool b P Q
by_test true P Q f g = f refl
by_test false P Q f g = g refl

abbrev Tells : Bool → HeapState → ObjRef → ℕ → ℕ → Type 0
Tells b before at k now = MatchBool b (slot_word before at k ≡ Some now → ⊥) (slot_word before at k ≡ Some now)

-- the word of slot k before a write of slot s of the object at a
pub write_before : (before after : HeapState) (a at : ObjRef) (s k old now : ℕ) → before.regions ≡ with_word a s old after.regions → slot_word after at k ≡ Some now
    → slot_word before at k ≡ Some (cond ((a.region == at.region) && (a.cell == at.cell) && (s == k)) old now)
write_before before after a at s k old now e h =
    let x = a.region == at.region in
    let y = a.cell == at.cell in
    let z = s == k in
    elim (cases_eq a.region at.region) [
      | inl r ↦ elim (cases_eq a.cell at.cell) [
        | inl c ↦
            let e' : before.regions ≡ with_word at s old after.regions = e ∙ ap (λ (q : ObjRef). with_word q s old after.regions) (same_place a at r c) in
            elim (cases_eq s k) [
              | inl m ↦
                  let e'' : before.regions ≡ with_word at k old after.regions = e' ∙ ap (λ (n : ℕ). with_word at n old after.regions) m in
                  by (x && y && z) true (all x y z (eq-eqb _ _ r) (eq-eqb _ _ c) (eq-eqb _ _ m)) (written_here before after at k old now e'' h)
              | inr m ↦ by (x && y && z) false (third x y z (ne_eqb _ _ m)) (other_slot before after at s k old now e' m h)
            ]
        | inr c ↦ by (x && y && z) false (second x y z (ne_eqb _ _ c)) (other_place before after a at s k old now e (λ p. c (ap (λ (q : ObjRef). q.cell) (sym p))) h)
      ]
      | inr r ↦ by (x && y && z) false (first x y z (ne_eqb _ _ r)) (other_place before after a at s k old now e (λ p. r (ap (λ (q : ObjRef). q.region) (sym p))) h)
    ]
  where
    by : (b c : Bool) → b ≡ c → slot_word before at k ≡ Some (cond c old now) → slot_word before at k ≡ Some (cond b old now)
    by b c p w = w ∙ ap (λ q. Some (cond q old now)) (sym p)

    all : (x y z : Bool) → x ≡ true → y ≡ true → z ≡ true → (x && y && z) ≡ true
    all x y z p q r = ap (λ b. b && y && z) p ∙ ap (λ b. true && b && z) q ∙ ap (λ b. true && true && b) r

    third : (x y z : Bool) → z ≡ false → (x && y && z) ≡ false
    third true true z e = e
    third true false z e = refl
    third false y z e = refl

    second : (x y z : Bool) → y ≡ false → (x && y && z) ≡ false
    second true y z e = ap (λ y. true && y && z) e
    second false y z e = refl

    first : (x y z : Bool) → x ≡ false → (x && y && z) ≡ false
    first x y z e = ap (λ x. x && y && z) e

write_tells : (before after : HeapState) (a at : ObjRef) (s k old now : ℕ) → before.regions ≡ with_word a s old after.regions → slot_word after at k ≡ Some now
    → Tells ((a.region == at.region) && (a.cell == at.cell) && (s == k) && not (old == now)) before at k now
write_tells before after a at s k old now e h = by_words ((a.region == at.region) && (a.cell == at.cell) && (s == k)) (write_before before after a at s k old now e h)
  where
    by_words : (b : Bool) → slot_word before at k ≡ Some (cond b old now) → Tells (b && not (old == now)) before at k now
    by_words false was = was
    by_words true was =
        elim (cases_eq old now) [
          | inl y ↦ subst (λ (b : Bool). Tells b before at k now) (sym (ap not (eq-eqb _ _ y))) (was ∙ ap Some y)
          | inr y ↦ subst (λ (b : Bool). Tells b before at k now) (sym (ap not (ne_eqb _ _ y))) (λ g. y (same_Some old now (sym was ∙ g)))
        ]

-- ---- a new object

-- the state of a cell before an object was made
pub new_state : (a at : ObjRef) (fresh : Bool) (m r old : ℕ) (f : ObjRef → ℕ) → ((a.region == at.region) && (fresh || (a.cell == at.cell))) ≡ true → states_before (New a fresh m r old) f at ≡ 0
unfolding states_before
new_state a at true m r old f e = ap (λ (b : Bool). cond b 0 (f at)) (eq-eqb at.region a.region (sym (eqb-true a.region at.region (and_parts _ _ e).0)))
new_state a at false m r old f e =
    let p = and_parts (a.region == at.region) (a.cell == at.cell) e in
    ap₂ (λ (x y : Bool). cond (x && y) 0 (f at)) (eq-eqb at.region a.region (sym (eqb-true a.region at.region p.0))) (eq-eqb at.cell a.cell (sym (eqb-true a.cell at.cell p.1)))

pub old_state : (a at : ObjRef) (fresh : Bool) (m r old : ℕ) (f : ObjRef → ℕ) → ((a.region == at.region) && (fresh || (a.cell == at.cell))) ≡ false → states_before (New a fresh m r old) f at ≡ f at
unfolding states_before
old_state a at true m r old f e =
    elim (cases_eq a.region at.region) [
      | inl p ↦ absurd (no (sym (ap (λ (x : Bool). x && true) (eq-eqb a.region at.region p)) ∙ e))
      | inr p ↦ ap (λ (b : Bool). cond b 0 (f at)) (ne_eqb at.region a.region (λ q. p (sym q)))
    ]
  where
    no : ◌≡◌ {A = Bool} true false → ⊥
    no e = cc
old_state a at false m r old f e =
    elim (cases_eq a.region at.region) [
      | inl p ↦ elim (cases_eq a.cell at.cell) [
        | inl q ↦ absurd (no (sym (ap₂ (λ (x y : Bool). x && y) (eq-eqb a.region at.region p) (eq-eqb a.cell at.cell q)) ∙ e))
        | inr q ↦ ap₂ (λ (x y : Bool). cond (x && y) 0 (f at)) (eq-eqb at.region a.region (sym p)) (ne_eqb at.cell a.cell (λ z. q (sym z)))
      ]
      | inr p ↦ ap (λ (x : Bool). cond (x && (at.cell == a.cell)) 0 (f at)) (ne_eqb at.region a.region (λ q. p (sym q)))
    ]
  where
    no : ◌≡◌ {A = Bool} true false → ⊥
    no e = cc

-- ---- a sweep

pub sweep_state : (region : ℕ) (dead : List (ℕ × Object)) (at : ObjRef) (f : ObjRef → ℕ) → at.region ≢ region → states_before (Sweep region dead) f at ≡ f at
unfolding states_before
sweep_state region dead at f n = ap (λ (b : Bool). cond b (dead_state dead at.cell (f at)) (f at)) (ne_eqb at.region region n)

pub reclaim_state : (region : ℕ) (storage : UsedRegion) (at : ObjRef) (f : ObjRef → ℕ) → at.region ≢ region → states_before (Reclaim region storage) f at ≡ f at
unfolding states_before
reclaim_state region storage at f n = ap (λ (b : Bool). cond b (cell_state (cell_object storage at.cell)) (f at)) (ne_eqb at.region region n)

finish_state : (log : List ℕ) (at : ObjRef) (f : ObjRef → ℕ) → f at ≢ 0 → states_before (Finish log) f at ≢ 0
unfolding states_before
finish_state log at f n e = absurd (no (sym (ap (λ (b : Bool). cond b 0 1) (ne_eqb (f at) 0 n)) ∙ e))
  where
    no : ◌≡◌ {A = ℕ} 1 0 → ⊥
    no e = absurd (omega (arith, e))

-- ---- every record

pub record_tells : (e : Event) (before after : HeapState) (left : Undo) (at : ObjRef) (k now : ℕ) → IsStep e before after left → slot_word after at k ≡ Some now → Tells (changed_by left at k now) before at k now
unfolding touched states_before
record_tells e before after (Put a s old) at k now st h = write_tells before after a at s k old now (sym (ap (λ (w : HeapState). w.regions) (put_undone_is_before e before after (Put a s old) st a s old refl))) h
record_tells e before after (Store a s old logged) at k now st h = write_tells before after a at s k old now (sym (ap (λ (w : HeapState). w.regions) (store_is e before after (Store a s old logged) st a s old logged refl))) h
record_tells e before after (New a fresh m r old) at k now st h =
    let t = step_tells_before e before after (New a fresh m r old) st in
    by_test ((a.region == at.region) && (fresh || (a.cell == at.cell))) (slot_word before at k ≡ Some now → ⊥) (slot_word before at k ≡ Some now)
    (λ y g. none-some now (sym (no_word before at k (none_there (object_at before.regions at) (t.states at ∙ new_state a at fresh m r old (λ b. cell_state (object_at after.regions b)) y))) ∙ g))
    (λ n. untouched_cell_keeps_word (New a fresh m r old) before after at k now t refl (old_state a at fresh m r old (λ b. cell_state (object_at after.regions b)) n) h)
record_tells e before after (Finish log) at k now st h =
    let t = step_tells_before e before after (Finish log) st in
    untouched_region_keeps_word (Finish log) before after at k now t (λ q. none-some at.region q) (λ z. finish_state log at (λ b. cell_state (object_at after.regions b)) (word_means_object after at k now h) (sym (t.states at) ∙ z)) h
record_tells e before after (Sweep region dead) at k now st h =
    elim (cases_eq at.region region) [
      | inl r ↦
          let o = object_of_word after at k now h in
          word_of_object before at k o.0 (sweep_was e before after region dead at o.0 st r o.1) ∙ o.2
      | inr r ↦
          let t = step_tells_before e before after (Sweep region dead) st in
          untouched_region_keeps_word (Sweep region dead) before after at k now t (λ q. r (sym (sweep_touches_its_region region dead at.region q))) (λ z. word_means_object after at k now h (sym (t.states at ∙ sweep_state region dead at (λ b. cell_state (object_at after.regions b)) r) ∙ z)) h
    ]
record_tells e before after (Reclaim region storage) at k now st h =
    elim (cases_eq at.region region) [
      | inl r ↦ let o = object_of_word after at k now h in absurd (reclaimed_none e before after region storage at o.0 st r o.1)
      | inr r ↦
          let t = step_tells_before e before after (Reclaim region storage) st in
          untouched_region_keeps_word (Reclaim region storage) before after at k now t (λ q. r (sym (same_Some region at.region q))) (λ z. word_means_object after at k now h (sym (t.states at ∙ reclaim_state region storage at (λ b. cell_state (object_at after.regions b)) r) ∙ z)) h
    ]
record_tells e before after left at k now st h = untouched_cell_keeps_word left before after at k now (step_tells_before e before after left st) refl refl h

-- ---- whether an object was made

abbrev TellsMade : Bool → HeapState → ObjRef → Type 0
TellsMade b before at = MatchBool b (object_at before.regions at ≡ None) (IsSome (object_at before.regions at))

some_before : (before : HeapState) (at : ObjRef) → cell_state (object_at before.regions at) ≢ 0 → IsSome (object_at before.regions at)
some_before before at n = let o = is_there (object_at before.regions at) n in subst (λ (x : Option Object). IsSome x) (sym o.1) refl

-- an object is there after the step
some_object_stands : (after : HeapState) (at : ObjRef) → IsSome (object_at after.regions at) → (o : Object) × (object_at after.regions at ≡ Some o)
some_object_stands after at h = go (object_at after.regions at) refl h
  where
    go : (x : Option Object) → object_at after.regions at ≡ x → IsSome x → (o : Object) × (object_at after.regions at ≡ Some o)
    go None e h = absurd (false≢true h)
    go (Some o) e h = (o, e)

object_stood_before : (left : Undo) (before after : HeapState) (at : ObjRef) → TellsBefore left before after → states_before left (λ b. cell_state (object_at after.regions b)) at ≡ cell_state (object_at after.regions at) → IsSome (object_at after.regions at) → IsSome (object_at before.regions at)
object_stood_before left before after at t c h = let o = some_object_stands after at h in some_before before at (λ z. state_there (object_at after.regions at) o.0 o.1 (sym (t.states at ∙ c) ∙ z))

pub record_makes : (e : Event) (before after : HeapState) (left : Undo) (at : ObjRef) → IsStep e before after left → IsSome (object_at after.regions at) → TellsMade (made_by left at) before at
unfolding states_before
record_makes e before after (New a fresh m r old) at st h =
    let t = step_tells_before e before after (New a fresh m r old) st in
    by_test ((a.region == at.region) && (fresh || (a.cell == at.cell))) (object_at before.regions at ≡ None) (IsSome (object_at before.regions at))
    (λ y. none_there (object_at before.regions at) (t.states at ∙ new_state a at fresh m r old (λ b. cell_state (object_at after.regions b)) y))
    (λ n. object_stood_before (New a fresh m r old) before after at t (old_state a at fresh m r old (λ b. cell_state (object_at after.regions b)) n) h)
record_makes e before after (Finish log) at st h =
    let t = step_tells_before e before after (Finish log) st in
    let o = some_object_stands after at h in
    some_before before at (λ z. finish_state log at (λ b. cell_state (object_at after.regions b)) (state_there (object_at after.regions at) o.0 o.1) (sym (t.states at) ∙ z))
record_makes e before after (Sweep region dead) at st h =
    elim (cases_eq at.region region) [
      | inl r ↦ let o = some_object_stands after at h in subst (λ (x : Option Object). IsSome x) (sym (sweep_was e before after region dead at o.0 st r o.1)) refl
      | inr r ↦ object_stood_before (Sweep region dead) before after at (step_tells_before e before after (Sweep region dead) st) (sweep_state region dead at (λ b. cell_state (object_at after.regions b)) r) h
    ]
record_makes e before after (Reclaim region storage) at st h =
    elim (cases_eq at.region region) [
      | inl r ↦ let o = some_object_stands after at h in absurd (reclaimed_none e before after region storage at o.0 st r o.1)
      | inr r ↦ object_stood_before (Reclaim region storage) before after at (step_tells_before e before after (Reclaim region storage) st) (reclaim_state region storage at (λ b. cell_state (object_at after.regions b)) r) h
    ]
record_makes e before after left at st h = object_stood_before left before after at (step_tells_before e before after left st) refl h
