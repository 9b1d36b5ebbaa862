-- The events that write a slot: store and put. The log that a store leaves is in `Barrier`.
use Rattle.std.proofs.Common.{◌≡◌, ◌≢◌, ◌⊎◌, ℕ, ◌<◌, ◌≤◌, Bool, true, false, List, [], ◌∷◌, Option, Some, None, length, refl, sym, ap, subst, ◌∙◌, inl, inr, arith, ◌++◌, drop, Contains, zero, suc, length-append}
use Rattle.std.specs.Prelude.{if◌then◌else◌, not, nat_le, nat_lt, is_none, ◌==◌, slice_get, option_map, slice_index, unwrap_or}
use Rattle.std.specs.Option.{option_map_or}
use Rattle.heap_class.proofs.ReferenceKinds.{object_kind}
use Rattle.heap_class.specs.declared.Kind.{Kind}
use Rattle.heap_class.specs.declared.ObjRef.{ObjRef}
use Rattle.heap_class.specs.declared.Refusal.{Refusal}
use Rattle.heap_class.specs.declared.Refusal.TheVariants.{BadRegister, NullRegister, BadSlot, WrongKind, OutOfRange}
use Rattle.heap_class.specs.Kinds.{is_reference, value_limit}
use Rattle.heap_class.specs.Refusals.{first_refusal}
use Rattle.heap_world.specs.State.{HeapState, is_register, register, slot_kind, with_pool, word_of, marking_of, with_marking, place_of}
use Rattle.heap_world.specs.Events.{put_refusal, lacks_slot, is_reference_slot, after_put, with_slot, store_refusal, after_store}
use Rattle.heap_region.specs.Regions.{Object, Region, ref_of, with_word, object_of, with_object, slot_kinds}
use Rattle.heap_region.specs.Pool.{RegionPool}
use Rattle.heap_region.proofs.Ids.{object_of_id_after_other_change, object_of_id_after_its_change}
use Rattle.heap_region.proofs.References.{length_set, list_has_its_head, empty_list_has_no_member}
use Rattle.heap_mark.specs.MarkSteps.{is_marking, MarkState, logged}
use Rattle.heap_world.specs.Legal.{IsLegal}
use Rattle.heap_world.specs.HeapParts.{IsSoundHeap}
use Rattle.heap_world.proofs.Clauses.{legal_heap_has_clauses, clauses_make_heap_legal, HasClauses}
use Rattle.heap_world.proofs.WordWrites.{word_write_keeps_region_count, with_object_word, written, IsReferenceSlot, MayWrite, written_rewires, clauses_after_word_write, not_false_is_true}
use Rattle.heap_world.proofs.Registers.{register_member, slot_names, object_and_kind_of_slot, word_of_object_slot, object_not_null, both_registers, reference_slot}
use Rattle.heap_world.proofs.FirstRefusals.{refusal_of_test_that_holds, refusal_of_later_tests, no_refusal_without_tests}
use Rattle.heap_world.proofs.Slot.{slot_by, kind_that_is_not_none, HasSlot}
use Rattle.heap_class.proofs.Refusals.{no_refusal_test_holds}
use Rattle.heap_mark.specs.declared.Phase.{Phase}
use Rattle.heap_mark.specs.declared.Phase.TheVariants.{Marking, Idle}
use Rattle.heap_region.proofs.ChangedLookups.{same_or_not, place_of_object_of_id}
use Rattle.heap_world.specs.Reach.{Names}
use Rattle.std.proofs.lemmas.Bool.{eqb-true, eqb-false}
use Rattle.std.proofs.lemmas.List.Elements.{Contains-append_left, Contains-append_right, Contains-push_cases}
use Rattle.heap_world.proofs.Tricolour.{Rewires}
use Rattle.heap_world.proofs.KeptParts.{legal_state_of_room_is_sound}
use Rattle.heap_world.proofs.NamedSlots.{not_of_two_truths_is_false, no_slot, refusals_past_named_slot, reference_slot_by_its_kind}
use Rattle.heap_world.proofs.Shapes.{NamesLike, KeepsShape}

-- ---- the form of a heap after a write

pub place_of_id_by_ref : (w : HeapState) (x : ℕ) (at : ObjRef) → ref_of w.regions x ≡ Some at → place_of w x ≡ at
unfolding place_of
place_of_id_by_ref w x at e = ap (λ (p : Option ObjRef). unwrap_or p (record { region = 0; cell = 0 })) e

-- where the register target names an object with a slot, a word that may be written there keeps the heap legal
pub slot_legal : (w : HeapState) (m target slot word : ℕ) (o : Object) (after : List ℕ) → HasClauses w → Contains w.registers (register w m target) → object_of w.regions (register w m target) ≡ Some o
    → MayWrite w (register w m target) o slot word after → HasClauses (record w { regions = with_word (place_of w (register w m target)) slot word w.regions; log = after })
slot_legal w m target slot word o after l c e may =
    let p = place_of_object_of_id w.regions (register w m target) o e in
    subst (λ at. HasClauses (written w at slot word after)) (sym (place_of_id_by_ref w (register w m target) p.0 p.1))
    (clauses_after_word_write w p.0 (register w m target) o slot word after l p.1 e (l.registers_live (register w m target) c (object_not_null w (register w m target) o e))
    (λ n r. l.registers_live word (may.reference r) n) may)

-- the form of a heap after a write: whose word, what the log is then, and that it may be written
abbrev pub WriteForm : HeapState → ℕ → ℕ → ℕ → HeapState → Type 0
WriteForm w x slot word v = (o : Object) × (after : List ℕ) × (object_of w.regions x ≡ Some o) × MayWrite w x o slot word after × (v ≡ record w { regions = with_word (place_of w x) slot word w.regions; log = after })

pub clauses_after_write_form : (w v : HeapState) (m target slot word : ℕ) → HasClauses w → Contains w.registers (register w m target) → WriteForm w (register w m target) slot word v → HasClauses v
clauses_after_write_form w v m target slot word l c f = subst HasClauses (sym f.4) (slot_legal w m target slot word f.0 f.1 l c f.2 f.3)

pub form_rewires : (w v : HeapState) (x slot word : ℕ) → w.phase ≡ Marking → WriteForm w x slot word v → Rewires w v
form_rewires w v x slot word phase f = let p = place_of_object_of_id w.regions x f.0 f.2 in
    subst (Rewires w) (sym f.4) (subst (λ at. Rewires w (written w at slot word f.1)) (sym (place_of_id_by_ref w x p.0 p.1)) (written_rewires w p.0 x f.0 slot word f.1 phase p.1 f.2 f.3))

word_shape : (rs : List Region) (at : ObjRef) (x y slot word : ℕ) (o : Object) → ref_of rs x ≡ Some at → object_of rs y ≡ Some o → (p : Object) × (object_of (with_word at slot word rs) y ≡ Some p) × (p.kind ≡ o.kind) × (length p.words ≡ length o.words)
unfolding with_word
word_shape rs at x y slot word o r e = elim (same_or_not y x) [
  | inl q ↦ (with_object_word slot word o, found q, refl, length_set o.words slot word)
  | inr n ↦ (o, object_of_id_after_other_change rs x y at (with_object_word slot word) r (λ q. n (sym q)) ∙ e, refl, refl)
]
  where
    found : y ≡ x → object_of (with_object at (with_object_word slot word) rs) y ≡ Some (with_object_word slot word o)
    found q = object_of_id_after_its_change rs y at (with_object_word slot word) (ap (ref_of rs) q ∙ r) ∙ ap (option_map (with_object_word slot word)) e

pub write_form_keeps_shape : (w v : HeapState) (x slot word y : ℕ) → WriteForm w x slot word v → KeepsShape w v y
unfolding place_of
write_form_keeps_shape w v x slot word y f o e = let p = place_of_object_of_id w.regions x f.0 f.2 in
    subst (λ (u : HeapState). NamesLike u o y) (sym f.4)
    (subst (λ (r : Option ObjRef). (q : Object) × (object_of (with_word (unwrap_or r (record { region = 0; cell = 0 })) slot word w.regions) y ≡ Some q) × (q.kind ≡ o.kind) × (length q.words ≡ length o.words)) (sym p.1)
    (word_shape w.regions p.0 x y slot word o p.1 e))

-- ---- store

pub store_no_slot : (m target slot source : ℕ) (w : HeapState) (e : Refusal) → is_register w m target ≡ true → is_register w m source ≡ true
    → ((e ≡ NullRegister) × (register w m target ≡ 0)) ⊎ ((e ≡ BadSlot) × (register w m target ≢ 0) × (slot_kind w (register w m target) slot ≡ None)) → store_refusal m target slot source w ≡ Some e
unfolding store_refusal
store_no_slot m target slot source w e a b h = no_slot w (register w m target) slot _ _ e (not_of_two_truths_is_false _ _ a b) h

pub store_value : (m target slot source : ℕ) (w : HeapState) (k : Kind) → is_register w m target ≡ true → is_register w m source ≡ true → register w m target ≢ 0 → slot_kind w (register w m target) slot ≡ Some k → is_reference k ≡ false → store_refusal m target slot source w ≡ Some WrongKind
unfolding store_refusal
store_value m target slot source w k a b n s r = refusals_past_named_slot w (register w m target) slot k _ _ (Some WrongKind) (not_of_two_truths_is_false _ _ a b) n s (refusal_of_test_that_holds _ _ _ (ap not (sym (reference_slot_by_its_kind w (register w m target) slot k s) ∙ r)))

pub store_accepted : (m target slot source : ℕ) (w : HeapState) (k : Kind) → is_register w m target ≡ true → is_register w m source ≡ true → register w m target ≢ 0 → slot_kind w (register w m target) slot ≡ Some k → is_reference k ≡ true → store_refusal m target slot source w ≡ None
unfolding store_refusal
store_accepted m target slot source w k a b n s r = refusals_past_named_slot w (register w m target) slot k _ _ None (not_of_two_truths_is_false _ _ a b) n s (refusal_of_later_tests _ _ _ _ (ap not (sym (reference_slot_by_its_kind w (register w m target) slot k s) ∙ r)) no_refusal_without_tests)

dropped_list_with_more_behind : (xs ys : List ℕ) (d y : ℕ) → Contains (drop d xs) y → Contains (drop d (xs ++ ys)) y
dropped_list_with_more_behind [] ys zero y c = absurd (empty_list_has_no_member y c)
dropped_list_with_more_behind [] ys (suc d) y c = absurd (empty_list_has_no_member y c)
dropped_list_with_more_behind (x ∷ xs) ys zero y c = Contains-append_left (x ∷ xs) ys y c
dropped_list_with_more_behind (x ∷ xs) ys (suc d) y c = dropped_list_with_more_behind xs ys d y c

drop_last : (xs : List ℕ) (d y : ℕ) → d ≤ length xs → Contains (drop d (xs ++ y ∷ [])) y
drop_last [] zero y h = list_has_its_head y []
drop_last [] (suc d) y h = absurd (omega (arith, h))
drop_last (x ∷ xs) zero y h = Contains-append_right (x ∷ xs) (y ∷ []) y (list_has_its_head y [])
drop_last (x ∷ xs) (suc d) y h = drop_last xs d y (omega (arith, h))

index_of_get : (xs : List ℕ) (i y : ℕ) → slice_get xs i ≡ Some y → slice_index xs i ≡ y
index_of_get [] i y h = cc
index_of_get (x ∷ xs) zero y h = cc
index_of_get (x ∷ xs) (suc i) y h = index_of_get xs i y h

marking_phase_is_marking : (p : Phase) → p ≡ Marking → is_marking p ≡ true
marking_phase_is_marking p e = ap is_marking e

idle_phase_is_not_marking : (p : Phase) → p ≡ Idle → is_marking p ≡ false
idle_phase_is_not_marking p e = ap is_marking e

pub store_form : (w : HeapState) (m target slot source : ℕ) → HasClauses w → store_refusal m target slot source w ≡ None → WriteForm w (register w m target) slot (register w m source) (after_store m target slot source w)
unfolding store_refusal after_store with_slot logged place_of
store_form w m target slot source l accepted = go (is_marking w.phase) refl (word_of w x slot == 0) refl
  where
    x : ℕ
    x = register w m target

    registers : (is_register w m target ≡ true) × (is_register w m source ≡ true)
    registers = both_registers _ _ (no_refusal_test_holds _ accepted).0

    is_slot : is_reference_slot w x slot ≡ true
    is_slot = not_false_is_true _ (no_refusal_test_holds _ accepted).1.1.1.0

    r : (o : Object) × (object_of w.regions x ≡ Some o) × IsReferenceSlot w.classes o slot
    r = reference_slot w x slot is_slot

    value : (k : Kind) → slice_get (slot_kinds w.classes r.0) slot ≡ Some k → k ≢ Kind.Object → register w m source < value_limit k
    value k e n = let q : k ≡ r.2.0 = (let a = r.2.1 in cc) in absurd (n (q ∙ object_kind r.2.0 r.2.2))

    old_is : (y : ℕ) → slice_get r.0.words slot ≡ Some y → word_of w x slot ≡ y
    old_is y e = word_of_object_slot w x slot r.0 r.1 ∙ index_of_get r.0.words slot y e

    same : (is_marking w.phase ≡ true → (word_of w x slot == 0) ≡ true) → MayWrite w x r.0 slot (register w m source) w.log
    same null = record {
      value = value;
      reference = λ s. register_member w m source registers.1;
      entries = λ y c. inl c;
      longer = omega arith;
      idle = λ i. refl;
      undrained = λ y c. c;
      overwritten = λ i y s e n. absurd (n (sym (old_is y e) ∙ eqb-true (word_of w x slot) 0 (null (marking_phase_is_marking w.phase i))));
    }

    entry : (y : ℕ) → (word_of w x slot == 0) ≡ false → Contains w.log y ⊎ (word_of w x slot ≡ y) → Contains w.log y ⊎ Names w x y
    entry y f (inl c) = inl c
    entry y f (inr e) = elim (slot_names w x slot is_slot) [ inl z ↦ absurd (eqb-false (word_of w x slot) 0 f z) | inr n ↦ inr (subst (Names w x) e n) ]

    more : is_marking w.phase ≡ true → (word_of w x slot == 0) ≡ false → MayWrite w x r.0 slot (register w m source) (w.log ++ word_of w x slot ∷ [])
    more i f = record {
      value = value;
      reference = λ s. register_member w m source registers.1;
      entries = λ y c. entry y f (Contains-push_cases w.log (word_of w x slot) y c);
      longer = omega (arith, length-append w.log (word_of w x slot ∷ []));
      idle = λ j. (let a : is_marking w.phase ≡ false = idle_phase_is_not_marking w.phase j in cc);
      undrained = λ y c. dropped_list_with_more_behind w.log (word_of w x slot ∷ []) w.drained y c;
      overwritten = λ j y s e n. subst (λ z. Contains (drop w.drained (w.log ++ z ∷ [])) y) (sym (old_is y e)) (drop_last w.log w.drained y l.drained_within);
    }

    go : (b : Bool) → is_marking w.phase ≡ b → (c : Bool) → (word_of w x slot == 0) ≡ c
        → let v : HeapState = with_marking (if b then (if c then marking_of w else record (marking_of w) { log = w.log ++ word_of w x slot ∷ [] }) else marking_of w) w in
        WriteForm w x slot (register w m source) (record v { regions = with_word (place_of v x) slot (register w m source) v.regions })
    go true e true f = (r.0, w.log, r.1, same (λ i. f), refl)
    go true e false f = (r.0, w.log ++ word_of w x slot ∷ [], r.1, more e f, refl)
    go false e c f = (r.0, w.log, r.1, same (λ i. (let a = e in cc)), refl)

pub clauses_after_store : (w : HeapState) (m target slot source : ℕ) → HasClauses w → store_refusal m target slot source w ≡ None → HasClauses (after_store m target slot source w)
unfolding store_refusal
clauses_after_store w m target slot source l accepted = clauses_after_write_form w (after_store m target slot source w) m target slot (register w m source) l
    (register_member w m target (both_registers _ _ (no_refusal_test_holds _ accepted).0).0) (store_form w m target slot source l accepted)

logged_phase : (old : ℕ) (s : MarkState) → (logged old s).phase ≡ s.phase
unfolding logged
logged_phase old s = go (is_marking s.phase) (old == 0)
  where
    go : (a b : Bool) → (if a then (if b then s else record s { log = s.log ++ old ∷ [] }) else s).phase ≡ s.phase
    go true true = refl
    go true false = refl
    go false b = refl

pub store_phase : (w : HeapState) (m target slot source : ℕ) → (after_store m target slot source w).phase ≡ w.phase
unfolding after_store with_slot
store_phase w m target slot source = logged_phase (word_of w (register w m target) slot) (marking_of w)

-- ---- put

pub put_no_register : (m target slot value : ℕ) (w : HeapState) → is_register w m target ≡ false → put_refusal m target slot value w ≡ Some BadRegister
unfolding put_refusal
put_no_register m target slot value w e = refusal_of_test_that_holds _ _ _ (ap not e)

pub put_null : (m target slot value : ℕ) (w : HeapState) → is_register w m target ≡ true → register w m target ≡ 0 → put_refusal m target slot value w ≡ Some NullRegister
unfolding put_refusal
put_null m target slot value w e z = refusal_of_later_tests _ _ _ _ (ap not e) (refusal_of_test_that_holds _ _ _ (ap (λ x. x == 0) z))

put_slot : (m target slot value : ℕ) (w : HeapState) (x : Option Refusal) → is_register w m target ≡ true → register w m target ≢ 0
    → first_refusal ((lacks_slot w (register w m target) slot, BadSlot) ∷ (is_reference_slot w (register w m target) slot, WrongKind)
    ∷ (option_map_or (λ k. nat_le (value_limit k) value) (slot_kind w (register w m target) slot) false, OutOfRange) ∷ []) ≡ x
    → put_refusal m target slot value w ≡ x
unfolding put_refusal
put_slot m target slot value w x e z f = refusal_of_later_tests _ _ _ _ (ap not e) (refusal_of_later_tests _ _ _ _ (not_zero (register w m target) z) f)
  where
    not_zero : (y : ℕ) → y ≢ 0 → (y == 0) ≡ false
    not_zero y n = grind arith

pub put_no_slot : (m target slot value : ℕ) (w : HeapState) → is_register w m target ≡ true → register w m target ≢ 0 → slot_kind w (register w m target) slot ≡ None → put_refusal m target slot value w ≡ Some BadSlot
unfolding lacks_slot
put_no_slot m target slot value w e z s = put_slot m target slot value w (Some BadSlot) e z (refusal_of_test_that_holds _ _ _ (ap is_none s))

put_refusal_by_slot_kind : (m target slot value : ℕ) (w : HeapState) (k : Kind) (x : Option Refusal) → is_register w m target ≡ true → register w m target ≢ 0 → slot_kind w (register w m target) slot ≡ Some k
    → first_refusal ((is_reference k, WrongKind) ∷ (nat_le (value_limit k) value, OutOfRange) ∷ []) ≡ x → put_refusal m target slot value w ≡ x
unfolding lacks_slot is_reference_slot
put_refusal_by_slot_kind m target slot value w k x e z s f = put_slot m target slot value w x e z (refusal_of_later_tests _ _ _ _ (ap is_none s)
    (subst (λ p. first_refusal ((option_map_or is_reference p false, WrongKind) ∷ (option_map_or (λ k. nat_le (value_limit k) value) p false, OutOfRange) ∷ []) ≡ x) (sym s) f))

pub put_reference : (m target slot value : ℕ) (w : HeapState) (k : Kind) → is_register w m target ≡ true → register w m target ≢ 0 → slot_kind w (register w m target) slot ≡ Some k → is_reference k ≡ true → put_refusal m target slot value w ≡ Some WrongKind
put_reference m target slot value w k e z s r = put_refusal_by_slot_kind m target slot value w k (Some WrongKind) e z s (refusal_of_test_that_holds _ _ _ r)

pub put_range : (m target slot value : ℕ) (w : HeapState) (k : Kind) → is_register w m target ≡ true → register w m target ≢ 0 → slot_kind w (register w m target) slot ≡ Some k → is_reference k ≡ false → nat_lt value (value_limit k) ≡ false → put_refusal m target slot value w ≡ Some OutOfRange
put_range m target slot value w k e z s r v = put_refusal_by_slot_kind m target slot value w k (Some OutOfRange) e z s (refusal_of_later_tests _ _ _ _ r (refusal_of_test_that_holds _ _ _ (not_at_least_means_below value (value_limit k) v)))
  where
    not_at_least_means_below : (a b : ℕ) → nat_lt a b ≡ false → nat_le b a ≡ true
    not_at_least_means_below a b h = grind arith

pub put_of_value_accepted : (m target slot value : ℕ) (w : HeapState) (k : Kind) → is_register w m target ≡ true → register w m target ≢ 0 → slot_kind w (register w m target) slot ≡ Some k → is_reference k ≡ false → nat_lt value (value_limit k) ≡ true → put_refusal m target slot value w ≡ None
put_of_value_accepted m target slot value w k e z s r v = put_refusal_by_slot_kind m target slot value w k None e z s (refusal_of_later_tests _ _ _ _ r (refusal_of_later_tests _ _ _ _ (below value (value_limit k) v) no_refusal_without_tests))
  where
    below : (a b : ℕ) → nat_lt a b ≡ true → nat_le b a ≡ false
    below a b h = grind arith

-- the register is null, or its object has no such slot
pub put_unnamed : (m target slot value : ℕ) (w : HeapState) (e : Refusal) → is_register w m target ≡ true
    → ((e ≡ NullRegister) × (register w m target ≡ 0)) ⊎ ((e ≡ BadSlot) × (register w m target ≢ 0) × (slot_kind w (register w m target) slot ≡ None)) → put_refusal m target slot value w ≡ Some e
put_unnamed m target slot value w e there (inl p) = put_null m target slot value w there p.1 ∙ ap (λ x. Some x) (sym p.0)
put_unnamed m target slot value w e there (inr p) = put_no_slot m target slot value w there p.1 p.2 ∙ ap (λ x. Some x) (sym p.0)

-- where a value may be put, the object has the slot
pub accepted_put_has_slot : (w v : HeapState) (m target slot value room : ℕ) (at : ObjRef) → IsSoundHeap w room → w ≡ v → put_refusal m target slot value v ≡ None → ref_of v.regions (register v m target) ≡ Some at → HasSlot w (register v m target) slot at
unfolding put_refusal lacks_slot
accepted_put_has_slot w v m target slot value room at h e accepted r =
    let k = kind_that_is_not_none (slot_kind v (register v m target) slot) (no_refusal_test_holds _ accepted).1.1.0 in
    slot_by w v (register v m target) slot room at k.0 h e r k.1

not_at_least_means_below : (n v : ℕ) → nat_le n v ≡ false → v < n
not_at_least_means_below n v h = grind arith

pub form_after_put : (w : HeapState) (m target slot value : ℕ) → HasClauses w → put_refusal m target slot value w ≡ None → WriteForm w (register w m target) slot value (after_put m target slot value w)
unfolding put_refusal after_put with_slot lacks_slot is_reference_slot
form_after_put w m target slot value l accepted = (r.0, w.log, r.1, may, refl)
  where
    x : ℕ
    x = register w m target

    kind : (k : Kind) × (slot_kind w x slot ≡ Some k)
    kind = kind_that_is_not_none (slot_kind w x slot) (no_refusal_test_holds _ accepted).1.1.0

    r : (o : Object) × (object_of w.regions x ≡ Some o) × (slice_get (slot_kinds w.classes o) slot ≡ Some kind.0)
    r = object_and_kind_of_slot w x slot kind.0 kind.1

    no_reference : is_reference kind.0 ≡ false
    no_reference = ap (λ (p : Option Kind). option_map_or is_reference p false) (sym kind.1) ∙ (no_refusal_test_holds _ accepted).1.1.1.0

    in_range : nat_le (value_limit kind.0) value ≡ false
    in_range = ap (λ (p : Option Kind). option_map_or (λ k. nat_le (value_limit k) value) p false) (sym kind.1) ∙ (no_refusal_test_holds _ accepted).1.1.1.1.0

    is_kind : (k : Kind) → slice_get (slot_kinds w.classes r.0) slot ≡ Some k → k ≡ kind.0
    is_kind k e = let a = r.2 in cc

    no_slot : IsReferenceSlot w.classes r.0 slot → ⊥
    no_slot s = let a : true ≡ false = sym s.2 ∙ ap is_reference (is_kind s.0 s.1) ∙ no_reference in cc

    may : MayWrite w x r.0 slot value w.log
    may = record {
      value = λ k e n. subst (λ j. value < value_limit j) (sym (is_kind k e)) (not_at_least_means_below (value_limit kind.0) value in_range);
      reference = λ s. absurd (no_slot s);
      entries = λ y c. inl c;
      longer = omega arith;
      idle = λ i. refl;
      undrained = λ y c. c;
      overwritten = λ i y s e n. absurd (no_slot s);
    }

pub clauses_after_put : (w : HeapState) (m target slot value : ℕ) → HasClauses w → put_refusal m target slot value w ≡ None → HasClauses (after_put m target slot value w)
unfolding put_refusal
clauses_after_put w m target slot value l accepted = clauses_after_write_form w (after_put m target slot value w) m target slot value l
    (register_member w m target (not_false_is_true _ (no_refusal_test_holds _ accepted).0)) (form_after_put w m target slot value l accepted)

pub put_phase : (w : HeapState) (m target slot value : ℕ) → (after_put m target slot value w).phase ≡ w.phase
unfolding after_put with_slot
put_phase w m target slot value = refl

-- ---- the heap that holds a put

put_keeps_heap_sound : (m target slot value room : ℕ) (w : HeapState) (at : ObjRef) → IsSoundHeap w room → put_refusal m target slot value w ≡ None → ref_of w.regions (register w m target) ≡ Some at
    → IsSoundHeap (record w { regions = with_word at slot value w.regions }) room
unfolding after_put with_slot
put_keeps_heap_sound m target slot value room w at h accepted place = legal_state_of_room_is_sound (record w { regions = with_word at slot value w.regions }) w room h
    (subst (λ b. IsLegal (record w { regions = with_word b slot value w.regions })) (place_of_id_by_ref w (register w m target) at place)
    (clauses_make_heap_legal (after_put m target slot value w) (clauses_after_put w m target slot value (legal_heap_has_clauses w h.legal) accepted)))
    (word_write_keeps_region_count w.regions at slot value)

parts_after_put : (m target slot value : ℕ) (w v : HeapState) (at : ObjRef) → w ≡ v → ref_of w.regions (register w m target) ≡ Some at → record w { regions = with_word at slot value w.regions } ≡ after_put m target slot value v
unfolding after_put with_slot
parts_after_put m target slot value w v at e place = ap (λ b. record w { regions = with_word b slot value w.regions }) (sym (place_of_id_by_ref w (register w m target) at place)) ∙ ap (after_put m target slot value) e

ref_before : (w v : HeapState) (m target : ℕ) (at : ObjRef) → w ≡ v → ref_of v.regions (register v m target) ≡ Some at → ref_of w.regions (register w m target) ≡ Some at
ref_before w v m target at e r = subst (λ (u : HeapState). ref_of u.regions (register u m target) ≡ Some at) (sym e) r

pub put_held_by : (w v : HeapState) (m target slot value room : ℕ) (at : ObjRef) (s : RegionPool) → IsSoundHeap w room → w ≡ v → put_refusal m target slot value v ≡ None → ref_of v.regions (register v m target) ≡ Some at
    → s ≡ record { regions = with_word at slot value w.regions; pool = w.pool; area_start = w.area_start } → IsSoundHeap (with_pool s w) room
put_held_by w v m target slot value room at s h e accepted r f = subst (λ (t : RegionPool). IsSoundHeap (with_pool t w) room) (sym f)
    (put_keeps_heap_sound m target slot value room w at h (subst (λ (u : HeapState). put_refusal m target slot value u ≡ None) (sym e) accepted) (ref_before w v m target at e r))

pub put_written_by : (w v : HeapState) (m target slot value : ℕ) (at : ObjRef) (s : RegionPool) → w ≡ v → ref_of v.regions (register v m target) ≡ Some at
    → s ≡ record { regions = with_word at slot value w.regions; pool = w.pool; area_start = w.area_start } → with_pool s w ≡ after_put m target slot value v
put_written_by w v m target slot value at s e r f = ap (λ (t : RegionPool). with_pool t w) f ∙ parts_after_put m target slot value w v at e (ref_before w v m target at e r)
