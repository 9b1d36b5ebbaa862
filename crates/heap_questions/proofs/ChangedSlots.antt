-- The changes of a slot, one retained step more at a time.
use Rattle.std.proofs.Common.{◌≡◌, ℕ, ◌+◌, ◌-◌, ◌<◌, Bool, true, false, cond, List, [], ◌∷◌, ◌++◌, length, Option, Some, refl, sym, ap, ap₂, ◌∙◌, subst, inl, inr, arith, add-one}
use Rattle.std.specs.Prelude.{IsSome, IfSome, reverse, ◌==◌}
use Rattle.std.specs.Option.{option_map_or}
use Rattle.std.proofs.lemmas.Bool.Decides.{when_true, when_false}
use Rattle.std.proofs.lemmas.List.{reverse-append, reverse-reverse}
use Rattle.heap_class.specs.declared.ObjKind.{ObjKind}
use Rattle.heap_class.specs.declared.ObjRef.{ObjRef}
use Rattle.heap_region.specs.Regions.{Object, object_at}
use Rattle.heap_world.specs.Legal.{IsLegal}
use Rattle.heap_world.specs.State.{HeapState}
use Rattle.heap_step.specs.declared.Event.{Event}
use Rattle.heap_step.specs.declared.Undo.{Undo}
use Rattle.heap_step.specs.declared.Undo.TheVariants.{Put, Store, New}
use Rattle.heap_step.specs.Laws.{IsStep}
use Rattle.heap_step.proofs.Steps.{put_undone_is_before, store_is}
use Rattle.heap_pins.proofs.DumpLimits.{kind_of_slots_is_known}
use Rattle.heap_trail.specs.Trail.{Trail, retained, state_ago}
use Rattle.heap_trail.proofs.RetainedRecords.{HasRecord}
use Rattle.hprof_text.specs.Image.{IsKnown}
use Rattle.heap_questions.specs.Changes.{changed_by, made_by, slot_word}
use Rattle.heap_questions.specs.Graph.{slot_refers}
use Rattle.heap_questions.specs.SlotChanges.{IsWatchedBack, change_ago, changed, last_changes, refers_at, word_before}
use Rattle.heap_questions.specs.declared.past.slots.SlotChange.{SlotChange}
use Rattle.heap_questions.proofs.Walk.{Stands, now_is, slot_there, stands_now, no_making_goes_further}
use Rattle.heap_questions.proofs.Writes.{record_makes, record_tells, write_before}

-- ---- the word before a record

same_word : (e : Event) (before after : HeapState) (left : Undo) (at : ObjRef) (k now : ℕ) → IsStep e before after left → slot_word after at k ≡ Some now → changed_by left at k now ≡ false → slot_word before at k ≡ Some now
same_word e before after left at k now st h c = when_false _ _ c (record_tells e before after left at k now st h)

-- the word before any step that didn't make the object
pub before_is : (e : Event) (before after : HeapState) (left : Undo) (at : ObjRef) (k now : ℕ) → IsStep e before after left → slot_word after at k ≡ Some now → made_by left at ≡ false → slot_word before at k ≡ Some (word_before left at k now)
before_is e before after (Put a s old) at k now st h m = write_before before after a at s k old now (sym (ap (λ (w : HeapState). w.regions) (put_undone_is_before e before after (Put a s old) st a s old refl))) h
before_is e before after (Store a s old logged) at k now st h m = write_before before after a at s k old now (sym (ap (λ (w : HeapState). w.regions) (store_is e before after (Store a s old logged) st a s old logged refl))) h
before_is e before after (New a fresh r m' old) at k now st h m = same_word e before after (New a fresh r m' old) at k now st h m
before_is e before after left at k now st h m = same_word e before after left at k now st h refl

-- ---- step by step

-- what is so after a look at the last n steps: the word before them, and their changes, the newest first
pub record AreChanges (t : Trail) (at : ObjRef) (s n now : ℕ) (changes : List SlotChange) : Type 0 where
  pub stood : Stands t at n
  pub word : slot_word (state_ago n t) at s ≡ Some now
  pub told : changes ≡ reverse (last_changes t at s n)

pub no_changes : (t : Trail) (at : ObjRef) (s now : ℕ) (changes : List SlotChange) → IsSome (object_at t.current.regions at) → slot_word t.current at s ≡ Some now → changes ≡ [] → AreChanges t at s 0 now changes
no_changes t at s now changes o h e = record { stood = stands_now t at o; word = ap (λ w. slot_word w at s) (now_is t) ∙ h; told = e }

one_reversed : (place old new : ℕ) → reverse (changed place (Some old) (Some new)) ≡ changed place (Some old) (Some new)
one_reversed place old new = go (old == new)
  where
    go : (b : Bool) → let one : SlotChange = record { place = place; old = old; new = new } in reverse (cond b [] (one ∷ [])) ≡ cond b [] (one ∷ [])
    go true = refl
    go false = refl

pub one_change_more : (t : Trail) (at : ObjRef) (s n now : ℕ) (left : Undo) (changes more : List SlotChange) → AreChanges t at s n now changes → HasRecord t n left → made_by left at ≡ false
    → more ≡ changes ++ changed (t.place - n) (Some (word_before left at s now)) (Some now) → AreChanges t at s (n + 1) (word_before left at s now) more
one_change_more t at s n now left changes more a r m e =
    let old = word_before left at s now in
    let was = before_is r.0 (state_ago (n + 1) t) (state_ago n t) left at s now r.1 a.word m in
    let this : change_ago t at s n ≡ changed (t.place - n) (Some old) (Some now) = ap₂ (changed (t.place - n)) was a.word in
    record {
      stood = no_making_goes_further t at n left a.stood r m;
      word = was;
      told = e
          ∙ ap (λ (xs : List SlotChange). xs ++ changed (t.place - n) (Some old) (Some now)) a.told
          ∙ ap (λ (xs : List SlotChange). reverse (last_changes t at s n) ++ xs) (sym (ap reverse this ∙ one_reversed (t.place - n) old now))
          ∙ sym (reverse-append (change_ago t at s n) (last_changes t at s n))
          ∙ ap (λ k. reverse (last_changes t at s k)) (sym (add-one n));
    }

reversed_back : (xs ys : List SlotChange) → xs ≡ reverse ys → reverse xs ≡ ys
reversed_back xs ys e = ap reverse e ∙ reverse-reverse ys

-- the step before made the object
pub all_since_birth : (t : Trail) (at : ObjRef) (s n now : ℕ) (left : Undo) (changes : List SlotChange) → n < retained t → AreChanges t at s n now changes → HasRecord t n left → made_by left at ≡ true → IsWatchedBack t at s changes
all_since_birth t at s n now left changes l a r m =
    (n, record { within = omega (arith, l); stood = a.stood; before = inr (when_true _ _ m (record_makes r.0 (state_ago (n + 1) t) (state_ago n t) left at r.1 (a.stood n (omega arith)))) }, reversed_back changes (last_changes t at s n) a.told)

-- no more steps are retained
pub all_retained : (t : Trail) (at : ObjRef) (s n now : ℕ) (changes : List SlotChange) → n ≡ retained t → AreChanges t at s n now changes → IsWatchedBack t at s changes
all_retained t at s n now changes e a =
    (n, record { within = omega (arith, e); stood = a.stood; before = inl e }, reversed_back changes (last_changes t at s n) a.told)

-- the slot of an object that is there: its kind is known, and it has the slot
pub slot_here : (w : HeapState) (at : ObjRef) (s n : ℕ) (kind : ObjKind) → IsLegal w → IsSome (slot_word w at s) → IfSome (object_at w.regions at) (λ o. kind ≡ o.kind) → IfSome (object_at w.regions at) (λ o. n ≡ length o.words)
    → IsKnown w.classes kind n × (s < n) × (slot_refers w.classes kind s ≡ refers_at w at s)
unfolding refers_at
slot_here w at s n kind legal h k l =
    let o = slot_there w at s h in
    let same_kind : kind ≡ o.0.kind = subst (λ (x : Option Object). IfSome x (λ o. kind ≡ o.kind)) o.1 k in
    let same_length : n ≡ length o.0.words = subst (λ (x : Option Object). IfSome x (λ o. n ≡ length o.words)) o.1 l in
    let known = kind_of_slots_is_known w.classes o.0.kind (length o.0.words) (legal.objects at o.0 o.1).kind in (
      subst (λ (q : ObjKind). IsKnown w.classes q n) (sym same_kind) (subst (IsKnown w.classes o.0.kind) (sym same_length) known),
      omega (arith, o.2, same_length),
      ap (λ (q : ObjKind). slot_refers w.classes q s) same_kind ∙ sym (ap (λ (x : Option Object). option_map_or (λ o. slot_refers w.classes o.kind s) x false) o.1),
    )
