-- Legality where a word of an object is written, and perhaps the log: a store and a put.
use Rattle.std.proofs.Common.{◌≡◌, ◌≢◌, ◌⊎◌, ℕ, ◌-◌, zero, suc, ◌<◌, ◌≤◌, Bool, true, false, not, List, [], ◌∷◌, length, drop, set, zip, refl, sym, ap, subst, ◌∙◌, Some, All, Contains, arith}
use mathlib.Core.Logic.{inl, inr}
use Rattle.std.specs.Prelude.{slice_get, slice_set, option_map}
use Rattle.std.proofs.lemmas.List.Elements.{All-head, All-tail, All-cons}
use Rattle.heap_class.specs.declared.Kind.{Kind}
use Rattle.heap_class.specs.declared.ObjRef.{ObjRef}
use Rattle.heap_class.specs.Classes.{Class}
use Rattle.heap_class.specs.Kinds.{is_reference, value_limit}
use Rattle.heap_region.specs.Limits.{region_limit}
use Rattle.heap_region.specs.Regions.{Object, Region, object_of, object_at, ref_of, with_object, with_word, with_region, references_of, slot_kinds}
use Rattle.heap_region.proofs.Ids.{object_of_id_after_other_change, object_of_id_after_its_change}
use Rattle.heap_region.proofs.UpdatedLists.{length_updated}
use Rattle.heap_region.proofs.ChangedLookups.{same_or_not, object_at_ref}
use Rattle.heap_region.proofs.PriorObjects.{object_was}
use Rattle.heap_region.proofs.References.{length_set, kinds_after_word, reference_was, reference_stays, reference_not_null}
use Rattle.heap_mark.specs.declared.Phase.TheVariants.{Idle, Marking}
use Rattle.heap_world.specs.State.{HeapState}
use Rattle.heap_world.specs.Reach.{Names}
use Rattle.heap_world.specs.Legal.{IsObjectOf, HasKind, NamesOne, IsLive}
use Rattle.heap_world.proofs.Clauses.{HasClauses}
use Rattle.heap_world.proofs.Tricolour.{Rewires, rewires_tricolour}
use Rattle.heap_world.proofs.StoredObjects.{IsStored, Keeps, clauses_make_heap_stored, stored_with_object}
use Rattle.heap_world.proofs.Registers.{naming_id_names_an_object, names_of}

-- the object with the word in a slot
abbrev pub with_object_word : ℕ → ℕ → Object → Object
with_object_word slot word o = record o { words = slice_set o.words slot word }

-- what holds of each kind with its word, and of the written one
all_after_word : (P : Kind × ℕ → Type 0) (ks : List Kind) (ws : List ℕ) (slot word : ℕ) → All P (zip ks ws) → ((k : Kind) → slice_get ks slot ≡ Some k → P (k, word)) → All P (zip ks (set ws slot word))
all_after_word P [] ws slot word a h = a
all_after_word P (k ∷ ks) [] slot word a h = a
all_after_word P (k ∷ ks) (v ∷ ws) zero word a h = All-cons P (k, word) (zip ks ws) (h k refl) (All-tail P (k, v) (zip ks ws) a)
all_after_word P (k ∷ ks) (v ∷ ws) (suc slot) word a h = All-cons P (k, v) (zip ks (set ws slot word)) (All-head P (k, v) (zip ks ws) a) (all_after_word P ks ws slot word (All-tail P (k, v) (zip ks ws) a) h)

word_keeps : (classes : List Class) (o : Object) (slot word : ℕ) → IsObjectOf classes o → (o.mark ≡ true → o.live ≡ true)
    → ((k : Kind) → slice_get (slot_kinds classes o) slot ≡ Some k → k ≢ Kind.Object → word < value_limit k) → Keeps classes o (with_object_word slot word o)
word_keeps classes o slot word f ml h = record {
  fits = record {
    kind = subst (HasKind classes o.kind) (sym (length_set o.words slot word)) f.kind;
    values = subst (λ ks. All (λ p. p.0 ≢ Kind.Object → p.1 < value_limit p.0) (zip ks (set o.words slot word))) (sym (kinds_after_word classes o slot word))
        (all_after_word (λ p. p.0 ≢ Kind.Object → p.1 < value_limit p.0) (slot_kinds classes o) o.words slot word f.values h);
  };
  size = length_set o.words slot word;
  live = refl;
  marked_live = ml;
}

-- ---- looking up after a word is written

-- the heap with the word in a slot of the object at a place, and a log
abbrev pub written : HeapState → ObjRef → ℕ → ℕ → List ℕ → HeapState
written w at slot word log = record w { regions = with_word at slot word w.regions; log = log }

-- x's object now has the word, and each other id names what it did
abbrev pub IsWritten : HeapState → HeapState → ℕ → Object → ℕ → ℕ → Type 0
IsWritten w v x o slot word = (y : ℕ) → (object_of v.regions y ≡ object_of w.regions y) ⊎ ((y ≡ x) × (object_of v.regions y ≡ Some (with_object_word slot word o)) × (object_of w.regions y ≡ Some o))

word_write_is_written : (w : HeapState) (at : ObjRef) (x : ℕ) (o : Object) (slot word : ℕ) (log : List ℕ) → ref_of w.regions x ≡ Some at → object_of w.regions x ≡ Some o → IsWritten w (written w at slot word log) x o slot word
unfolding with_word
word_write_is_written w at x o slot word log p e y = go (same_or_not y x)
  where
    go : (y ≡ x) ⊎ (y ≢ x) → (object_of (with_object at (with_object_word slot word) w.regions) y ≡ object_of w.regions y) ⊎ ((y ≡ x) × (object_of (with_object at (with_object_word slot word) w.regions) y ≡ Some (with_object_word slot word o)) × (object_of w.regions y ≡ Some o))
    go (inl q) = inr (q, ap (object_of (with_object at (with_object_word slot word) w.regions)) q ∙ object_of_id_after_its_change w.regions x at (with_object_word slot word) p ∙ (λ i. option_map (with_object_word slot word) (e i)), ap (object_of w.regions) q ∙ e)
    go (inr n) = inl (object_of_id_after_other_change w.regions x y at (with_object_word slot word) p (λ q. n (sym q)))

-- what is true of an object, whatever its words, is so before and after
bit_after : (w v : HeapState) (x : ℕ) (o : Object) (slot word : ℕ) (P : Object → Type 0) → ((b : Object) (ws : List ℕ) → P b → P (record b { words = ws })) → IsWritten w v x o slot word → (y : ℕ) → NamesOne w P y → NamesOne v P y
bit_after w v x o slot word P keep h y n = go (h y)
  where
    go : (object_of v.regions y ≡ object_of w.regions y) ⊎ ((y ≡ x) × (object_of v.regions y ≡ Some (with_object_word slot word o)) × (object_of w.regions y ≡ Some o)) → NamesOne v P y
    go (inl e) = (n.0, e ∙ n.1, n.2)
    go (inr q) = (with_object_word slot word o, q.1, keep o (slice_set o.words slot word) (subst P same n.2))
      where
        same : n.0 ≡ o
        same = let a = n.1 in let b = q.2 in cc

bit_before : (w v : HeapState) (x : ℕ) (o : Object) (slot word : ℕ) (P : Object → Type 0) → (P (with_object_word slot word o) → P o) → IsWritten w v x o slot word → (y : ℕ) → NamesOne v P y → NamesOne w P y
bit_before w v x o slot word P keep h y n = go (h y)
  where
    go : (object_of v.regions y ≡ object_of w.regions y) ⊎ ((y ≡ x) × (object_of v.regions y ≡ Some (with_object_word slot word o)) × (object_of w.regions y ≡ Some o)) → NamesOne w P y
    go (inl e) = (n.0, sym e ∙ n.1, n.2)
    go (inr q) = (o, q.2, keep (subst P same n.2))
      where
        same : n.0 ≡ with_object_word slot word o
        same = let a = n.1 in let b = q.1 in cc

-- the slot is one of references
abbrev pub IsReferenceSlot : List Class → Object → ℕ → Type 0
IsReferenceSlot classes o slot = (k : Kind) × (slice_get (slot_kinds classes o) slot ≡ Some k) × (is_reference k ≡ true)

names_before_word_write : (w v : HeapState) (x : ℕ) (o : Object) (slot word : ℕ) → v.classes ≡ w.classes → IsWritten w v x o slot word → (y z : ℕ) → Names v y z → Names w y z ⊎ ((z ≡ word) × (z ≢ 0) × IsReferenceSlot w.classes o slot)
names_before_word_write w v x o slot word cs h y z n = go (h y)
  where
    a : (b : Object) × (object_of v.regions y ≡ Some b) × Contains (references_of v.classes b) z
    a = naming_id_names_an_object v y z n

    c : Contains (references_of w.classes a.0) z
    c = subst (λ k. Contains (references_of k a.0) z) cs a.2

    go : (object_of v.regions y ≡ object_of w.regions y) ⊎ ((y ≡ x) × (object_of v.regions y ≡ Some (with_object_word slot word o)) × (object_of w.regions y ≡ Some o)) → Names w y z ⊎ ((z ≡ word) × (z ≢ 0) × IsReferenceSlot w.classes o slot)
    go (inl e) = inl (names_of w y z a.0 (sym e ∙ a.1) c)
    go (inr q) = elim (reference_was w.classes o slot word z (subst (λ b. Contains (references_of w.classes b) z) same c)) [
      | inl before ↦ inl (names_of w y z o q.2 before)
      | inr new ↦ inr (new.0, reference_not_null w.classes a.0 z c, new.1)
    ]
      where
        same : a.0 ≡ with_object_word slot word o
        same = let r = a.1 in let s = q.1 in cc

names_after_word_write : (w v : HeapState) (x : ℕ) (o : Object) (slot word : ℕ) → v.classes ≡ w.classes → IsWritten w v x o slot word → (y z : ℕ) → Names w y z → Names v y z ⊎ ((slice_get o.words slot ≡ Some z) × (z ≢ 0) × IsReferenceSlot w.classes o slot)
names_after_word_write w v x o slot word cs h y z n = go (h y)
  where
    a : (b : Object) × (object_of w.regions y ≡ Some b) × Contains (references_of w.classes b) z
    a = naming_id_names_an_object w y z n

    go : (object_of v.regions y ≡ object_of w.regions y) ⊎ ((y ≡ x) × (object_of v.regions y ≡ Some (with_object_word slot word o)) × (object_of w.regions y ≡ Some o)) → Names v y z ⊎ ((slice_get o.words slot ≡ Some z) × (z ≢ 0) × IsReferenceSlot w.classes o slot)
    go (inl e) = inl (names_of v y z a.0 (e ∙ a.1) (subst (λ k. Contains (references_of k a.0) z) (sym cs) a.2))
    go (inr q) = elim (reference_stays w.classes o slot word z (subst (λ b. Contains (references_of w.classes b) z) same a.2)) [
      | inl still ↦ inl (names_of v y z (with_object_word slot word o) q.1 (subst (λ k. Contains (references_of k (with_object_word slot word o)) z) (sym cs) still))
      | inr old ↦ inr (old.0, old.1, old.2)
    ]
      where
        same : a.0 ≡ o
        same = let r = a.1 in let s = q.2 in cc

-- ---- the whole

-- what is asked of the word and of the log
pub record MayWrite (w : HeapState) (x : ℕ) (o : Object) (slot word : ℕ) (after : List ℕ) : Type 0 where
  pub value : (k : Kind) → slice_get (slot_kinds w.classes o) slot ≡ Some k → k ≢ Kind.Object → word < value_limit k
  pub reference : IsReferenceSlot w.classes o slot → Contains w.registers word
  pub entries : (y : ℕ) → Contains after y → Contains w.log y ⊎ Names w x y
  pub longer : length w.log ≤ length after
  pub idle : w.phase ≡ Idle → after ≡ w.log
  pub undrained : (y : ℕ) → Contains (drop w.drained w.log) y → Contains (drop w.drained after) y
  pub overwritten : w.phase ≡ Marking → (y : ℕ) → IsReferenceSlot w.classes o slot → slice_get o.words slot ≡ Some y → y ≢ 0 → Contains (drop w.drained after) y

pub written_rewires : (w : HeapState) (at : ObjRef) (x : ℕ) (o : Object) (slot word : ℕ) (after : List ℕ) → w.phase ≡ Marking → ref_of w.regions x ≡ Some at → object_of w.regions x ≡ Some o → MayWrite w x o slot word after → Rewires w (written w at slot word after)
written_rewires w at x o slot word after phase p e may = record {
  unmarked = bit_before w v x o slot word (λ b. b.mark ≡ false) (λ q. q) h;
  unmarked_still = bit_after w v x o slot word (λ b. b.mark ≡ false) (λ b ws q. q) h;
  marked = bit_before w v x o slot word (λ b. b.mark ≡ true) (λ q. q) h;
  marked_still = bit_after w v x o slot word (λ b. b.mark ≡ true) (λ b ws q. q) h;
  gray = refl;
  undrained = may.undrained;
  registers = λ y c. c;
  names = λ y z n. elim (names_before_word_write w v x o slot word refl h y z n) [ inl b ↦ inl b | inr q ↦ inr (subst (Contains w.registers) (sym q.0) (may.reference q.2)) ];
  names_still = λ y z n. elim (names_after_word_write w v x o slot word refl h y z n) [ inl b ↦ inl b | inr q ↦ inr (may.overwritten phase z q.2 q.0 q.1) ];
}
  where
    v : HeapState
    v = written w at slot word after

    h : IsWritten w v x o slot word
    h = word_write_is_written w at x o slot word after p e

pub word_write_keeps_region_count : (rs : List Region) (at : ObjRef) (slot word : ℕ) → length (with_word at slot word rs) ≡ length rs
unfolding with_word with_object with_region
word_write_keeps_region_count rs at slot word = length_updated at.region _ rs

word_write_keeps_stored : (classes : List Class) (start : ℕ) (rs : List Region) (ps : List ℕ) (at : ObjRef) (slot word : ℕ) → IsStored classes start rs ps → ((b : Object) → object_at rs at ≡ Some b → Keeps classes b (with_object_word slot word b)) → IsStored classes start (with_word at slot word rs) ps
unfolding with_word
word_write_keeps_stored classes start rs ps at slot word st keeps = stored_with_object classes start rs ps at (with_object_word slot word) st keeps

quiet_written : (rs : List Region) (at : ObjRef) (slot word : ℕ) → ((b : ObjRef) (o : Object) → object_at rs b ≡ Some o → o.mark ≡ false) → (b : ObjRef) (o : Object) → object_at (with_word at slot word rs) b ≡ Some o → o.mark ≡ false
unfolding with_word
quiet_written rs at slot word h b o e = let q = object_was (with_object_word slot word) rs at b o e in
    elim q.2 [ inl c ↦ ap (λ (z : Object). z.mark) c.1 ∙ h b q.0 q.1 | inr c ↦ ap (λ (z : Object). z.mark) c.1 ∙ h b q.0 q.1 ]

pub clauses_after_word_write : (w : HeapState) (at : ObjRef) (x : ℕ) (o : Object) (slot word : ℕ) (after : List ℕ) → HasClauses w → ref_of w.regions x ≡ Some at → object_of w.regions x ≡ Some o → IsLive w x → (word ≢ 0 → IsReferenceSlot w.classes o slot → IsLive w word) → MayWrite w x o slot word after → HasClauses (written w at slot word after)
clauses_after_word_write w at x o slot word after l p e live word_live may = record {
  sized = record { limits = l.sized.limits; regions = subst (λ n. (1 ≤ n) × (n ≤ region_limit)) (sym (word_write_keeps_region_count w.regions at slot word)) l.sized.regions; area = subst (λ n. w.area_start ≡ n - w.limits.area) (sym (word_write_keeps_region_count w.regions at slot word)) l.sized.area; mutators = l.sized.mutators };
  classes = l.classes;
  objects = st.objects;
  least_cells = st.least_cells;
  cells = st.cells;
  pool = st.pool;
  area = st.area;
  registers_live = λ y c n. live_after y (l.registers_live y c n);
  slots_live = λ y z a n. live_after z (elim (names_before_word_write w v x o slot word refl h y z n) [
    | inl b ↦ l.slots_live y z (live_before y a) b
    | inr q ↦ subst (IsLive w) (sym q.0) (word_live (λ s. q.1 (q.0 ∙ s)) q.2)
  ]);
  gray_live = λ y c. live_after y (l.gray_live y c);
  log_live = λ y c. live_after y (elim (may.entries y c) [ inl d ↦ l.log_live y d | inr n ↦ l.slots_live x y live n ]);
  gray_distinct = l.gray_distinct;
  gray_marked = λ y c. bit_after w v x o slot word (λ b. b.mark ≡ true) (λ b ws q. q) h y (l.gray_marked y c);
  marked_live = st.marked_live;
  drained_within = omega (arith, l.drained_within, may.longer);
  swept_live = st.swept_live;
  idle = λ i. record { gray = (l.idle i).gray; log = may.idle i ∙ (l.idle i).log; drained = (l.idle i).drained; unmarked = quiet_written w.regions at slot word (l.idle i).unmarked };
  tricolour = λ i. rewires_tricolour w v (written_rewires w at x o slot word after i p e may) (l.tricolour i);
}
  where
    v : HeapState
    v = written w at slot word after

    h : IsWritten w v x o slot word
    h = word_write_is_written w at x o slot word after p e

    here : (b : Object) → object_at w.regions at ≡ Some b → b ≡ o
    here b f = let g : object_of w.regions x ≡ object_at w.regions at = object_at_ref w.regions x at p in cc

    st : IsStored w.classes w.area_start (with_word at slot word w.regions) w.pool
    st = word_write_keeps_stored w.classes w.area_start w.regions w.pool at slot word (clauses_make_heap_stored w l)
        (λ b f. word_keeps w.classes b slot word (l.objects at b f) (l.marked_live at b f) (λ k g. may.value k (ap (λ (z : Object). slice_get (slot_kinds w.classes z) slot) (sym (here b f)) ∙ g)))

    live_after : (y : ℕ) → IsLive w y → IsLive v y
    live_after = bit_after w v x o slot word (λ b. b.live ≡ true) (λ b ws q. q) h

    live_before : (y : ℕ) → IsLive v y → IsLive w y
    live_before = bit_before w v x o slot word (λ b. b.live ≡ true) (λ q. q) h

-- ---- store

pub not_false_is_true : (b : Bool) → not b ≡ false → b ≡ true
not_false_is_true true h = refl
not_false_is_true false h = cc
