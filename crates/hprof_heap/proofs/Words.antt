-- The words of an object after its values were put and its references stored.
use Rattle.std.proofs.Common.{◌≡◌, ◌≢◌, ℕ, zero, suc, ◌<◌, Bool, true, false, List, [], ◌∷◌, length, replicate, refl, sym, ap, subst, ◌∙◌, Option, Some, None, cond, inl, inr}
use Rattle.std.specs.Prelude.{slice_index, slice_set, find, not, ◌==◌, ◌||◌, ◌&&◌, if◌then◌else◌}
use Rattle.std.specs.List.{list_any}
use Rattle.std.specs.Option.{option_map_or}
use Rattle.std.proofs.lemmas.Bool.{cases_eq, eq-eqb, ne_eqb, or_parts}
use Rattle.std.proofs.lemmas.List.{length-set, length-replicate, get_or-set_same, get_or-set_other}
use Rattle.heap_class.specs.Kinds.{is_reference}
use Rattle.hprof_lines.specs.declared.values.SlotValue.{SlotValue}
use Rattle.hprof_lines.specs.Objects.{names_object, shown}
use Rattle.hprof_heap.specs.ToldObjects.{ObjectTold}
use Rattle.hprof_heap.proofs.Filled.{PutsFit, length_with_value, length_with_values, with_value, with_values}
use Rattle.hprof_heap.proofs.Linking.{StoresFit, linked_thing, with_reference, with_references}

-- whether a value is of this slot
abbrev pub is_of : ℕ → SlotValue → Bool
is_of slot v = v.slot == slot

-- the values are of different slots
abbrev pub AreApart : List SlotValue → Type 0
AreApart [] = Unit {0}
AreApart (v ∷ values) = (list_any (is_of v.slot) values ≡ false) × AreApart values

-- the word that a value is
abbrev pub word_of_value : (ℕ → Option ℕ) → (ℕ → ℕ) → SlotValue → ℕ
word_of_value name id v = if v.value == 0 then 0 else if is_reference v.kind then option_map_or id (name v.value) 0 else shown v.kind v.value

abbrev pub word_of_slot : (ℕ → Option ℕ) → (ℕ → ℕ) → List SlotValue → ℕ → ℕ
word_of_slot name id values slot = option_map_or (word_of_value name id) (find (is_of slot) values) 0

-- ---- writes of other slots

value_elsewhere : (words : List ℕ) (v : SlotValue) (slot : ℕ) → v.slot ≢ slot → slice_index (with_value words v) slot ≡ slice_index words slot
value_elsewhere words v slot d = go (is_reference v.kind || v.value == 0)
  where
    go : (b : Bool) → slice_index (if b then words else slice_set words v.slot (shown v.kind v.value)) slot ≡ slice_index words slot
    go true = refl
    go false = get_or-set_other words v.slot slot (shown v.kind v.value) 0 (λ e. d (sym e))

not_this : (v : SlotValue) (slot : ℕ) → is_of slot v ≡ false → v.slot ≢ slot
not_this v slot e s = let z : true ≡ false = sym (eq-eqb v.slot slot s) ∙ e in cc

values_elsewhere : (values : List SlotValue) (words : List ℕ) (slot : ℕ) → list_any (is_of slot) values ≡ false → slice_index (with_values words values) slot ≡ slice_index words slot
values_elsewhere [] words slot e = refl
values_elsewhere (v ∷ values) words slot e =
    let p = or_parts (is_of slot v) (list_any (is_of slot) values) e in
    values_elsewhere values (with_value words v) slot p.1 ∙ value_elsewhere words v slot (not_this v slot p.0)

reference_elsewhere : (name : ℕ → Option ℕ) (id : ℕ → ℕ) (words : List ℕ) (v : SlotValue) (slot : ℕ) → v.slot ≢ slot → slice_index (with_reference name id words v) slot ≡ slice_index words slot
reference_elsewhere name id words v slot d = go (names_object v) (name v.value)
  where
    go : (b : Bool) (o : Option ℕ) → slice_index (if b then option_map_or (λ k. slice_set words v.slot (id k)) o words else words) slot ≡ slice_index words slot
    go false o = refl
    go true None = refl
    go true (Some k) = get_or-set_other words v.slot slot (id k) 0 (λ e. d (sym e))

references_elsewhere : (name : ℕ → Option ℕ) (id : ℕ → ℕ) (values : List SlotValue) (words : List ℕ) (slot : ℕ) → list_any (is_of slot) values ≡ false → slice_index (with_references name id words values) slot ≡ slice_index words slot
references_elsewhere name id [] words slot e = refl
references_elsewhere name id (v ∷ values) words slot e =
    let p = or_parts (is_of slot v) (list_any (is_of slot) values) e in
    references_elsewhere name id values (with_reference name id words v) slot p.1 ∙ reference_elsewhere name id words v slot (not_this v slot p.0)

-- ---- lengths

length_with_reference : (name : ℕ → Option ℕ) (id : ℕ → ℕ) (words : List ℕ) (v : SlotValue) → length (with_reference name id words v) ≡ length words
length_with_reference name id words v = go (names_object v) (name v.value)
  where
    go : (b : Bool) (o : Option ℕ) → length (if b then option_map_or (λ k. slice_set words v.slot (id k)) o words else words) ≡ length words
    go false o = refl
    go true None = refl
    go true (Some k) = length-set words v.slot (id k)

pub length_with_references : (name : ℕ → Option ℕ) (id : ℕ → ℕ) (values : List SlotValue) (words : List ℕ) → length (with_references name id words values) ≡ length words
length_with_references name id [] words = refl
length_with_references name id (v ∷ values) words = length_with_references name id values (with_reference name id words v) ∙ length_with_reference name id words v

-- ---- the slot of a value

-- what is put: nothing for a reference
abbrev put_word : ℕ → SlotValue → ℕ
put_word old v = if is_reference v.kind || v.value == 0 then old else shown v.kind v.value

value_here : (words : List ℕ) (v : SlotValue) → ((is_reference v.kind || v.value == 0) ≡ false → v.slot < length words) → slice_index (with_value words v) v.slot ≡ put_word (slice_index words v.slot) v
value_here words v = go (is_reference v.kind || v.value == 0)
  where
    go : (b : Bool) → (b ≡ false → v.slot < length words) → slice_index (if b then words else slice_set words v.slot (shown v.kind v.value)) v.slot ≡ (if b then slice_index words v.slot else shown v.kind v.value)
    go true l = refl
    go false l = get_or-set_same words v.slot (shown v.kind v.value) 0 (l refl)

-- what is stored: nothing for a value or for what isn't made
abbrev stored_word : (ℕ → Option ℕ) → (ℕ → ℕ) → ℕ → SlotValue → ℕ
stored_word name id old v = if names_object v then option_map_or id (name v.value) old else old

reference_here : (name : ℕ → Option ℕ) (id : ℕ → ℕ) (words : List ℕ) (v : SlotValue) → ((k : ℕ) → names_object v ≡ true → name v.value ≡ Some k → v.slot < length words) → slice_index (with_reference name id words v) v.slot ≡ stored_word name id (slice_index words v.slot) v
reference_here name id words v = go (names_object v) (name v.value)
  where
    go : (b : Bool) (o : Option ℕ) → ((k : ℕ) → b ≡ true → o ≡ Some k → v.slot < length words) → slice_index (if b then option_map_or (λ k. slice_set words v.slot (id k)) o words else words) v.slot ≡ (if b then option_map_or id o (slice_index words v.slot) else slice_index words v.slot)
    go false o l = refl
    go true None l = refl
    go true (Some k) l = get_or-set_same words v.slot (id k) 0 (l k refl refl)

find_this : (values : List SlotValue) (v : SlotValue) (slot : ℕ) → v.slot ≡ slot → find (is_of slot) (v ∷ values) ≡ Some v
find_this values v slot e = ap (λ b. cond b (Some v) (find (is_of slot) values)) (eq-eqb v.slot slot e)

find_later : (values : List SlotValue) (v : SlotValue) (slot : ℕ) → v.slot ≢ slot → find (is_of slot) (v ∷ values) ≡ find (is_of slot) values
find_later values v slot d = ap (λ b. cond b (Some v) (find (is_of slot) values)) (ne_eqb v.slot slot d)

-- ---- the words of an object at last

-- the word of a slot after all of its values were put and all references stored, if it was 0 before
zero_first : (n slot : ℕ) → slice_index (replicate n 0) slot ≡ 0
zero_first zero slot = refl
zero_first (suc n) zero = refl
zero_first (suc n) (suc slot) = zero_first n slot

slot_without_value : (values : List SlotValue) (slot : ℕ) → list_any (is_of slot) values ≡ false → find (is_of slot) values ≡ None
slot_without_value [] slot e = refl
slot_without_value (v ∷ values) slot e =
    let p = or_parts (is_of slot v) (list_any (is_of slot) values) e in
    ap (λ b. cond b (Some v) (find (is_of slot) values)) p.0 ∙ slot_without_value values slot p.1

put_of_slot : (values : List SlotValue) (words : List ℕ) (slot : ℕ) → AreApart values → PutsFit (length words) values
    → slice_index (with_values words values) slot ≡ option_map_or (put_word (slice_index words slot)) (find (is_of slot) values) (slice_index words slot)
put_of_slot [] words slot apart below = refl
put_of_slot (v ∷ values) words slot apart below = elim (cases_eq v.slot slot) [
  | inl e ↦ (
      ap (slice_index (with_values (with_value words v) values)) (sym e)
      ∙ values_elsewhere values (with_value words v) v.slot apart.0 ∙ value_here words v below.0
      ∙ ap (λ s. put_word (slice_index words s) v) e
      ∙ ap (λ o. option_map_or (put_word (slice_index words slot)) o (slice_index words slot)) (sym (find_this values v slot e)))
  | inr d ↦ (
      put_of_slot values (with_value words v) slot apart.1 (subst (λ k. PutsFit k values) (sym (length_with_value words v)) below.1)
      ∙ ap (λ w. option_map_or (put_word w) (find (is_of slot) values) w) (value_elsewhere words v slot d)
      ∙ ap (λ o. option_map_or (put_word (slice_index words slot)) o (slice_index words slot)) (sym (find_later values v slot d)))
]

stored_of_slot : (name : ℕ → Option ℕ) (id : ℕ → ℕ) (values : List SlotValue) (words : List ℕ) (slot : ℕ) → AreApart values → StoresFit name (length words) values
    → slice_index (with_references name id words values) slot ≡ option_map_or (stored_word name id (slice_index words slot)) (find (is_of slot) values) (slice_index words slot)
stored_of_slot name id [] words slot apart below = refl
stored_of_slot name id (v ∷ values) words slot apart below = elim (cases_eq v.slot slot) [
  | inl e ↦ (
      ap (slice_index (with_references name id (with_reference name id words v) values)) (sym e)
      ∙ references_elsewhere name id values (with_reference name id words v) v.slot apart.0 ∙ reference_here name id words v below.0
      ∙ ap (λ s. stored_word name id (slice_index words s) v) e
      ∙ ap (λ o. option_map_or (stored_word name id (slice_index words slot)) o (slice_index words slot)) (sym (find_this values v slot e)))
  | inr d ↦ (
      stored_of_slot name id values (with_reference name id words v) slot apart.1 (subst (λ k. StoresFit name k values) (sym (length_with_reference name id words v)) below.1)
      ∙ ap (λ w. option_map_or (stored_word name id w) (find (is_of slot) values) w) (reference_elsewhere name id words v slot d)
      ∙ ap (λ o. option_map_or (stored_word name id (slice_index words slot)) o (slice_index words slot)) (sym (find_later values v slot d)))
]

-- a value is put or stored
word_of_one : (name : ℕ → Option ℕ) (id : ℕ → ℕ) (v : SlotValue) → stored_word name id (put_word 0 v) v ≡ word_of_value name id v
unfolding names_object
word_of_one name id v = go (is_reference v.kind) (v.value == 0)
  where
    go : (r z : Bool) → (if r && not z then option_map_or id (name v.value) (if r || z then 0 else shown v.kind v.value) else (if r || z then 0 else shown v.kind v.value))
        ≡ (if z then 0 else if r then option_map_or id (name v.value) 0 else shown v.kind v.value)
    go true true = refl
    go true false = refl
    go false true = refl
    go false false = refl

-- the word of each slot of an object
pub word_at_last : (name : ℕ → Option ℕ) (id : ℕ → ℕ) (t : ObjectTold) (slot : ℕ) → AreApart t.values → PutsFit t.slots t.values → StoresFit name t.slots t.values → slice_index (linked_thing name id t).words slot ≡ word_of_slot name id t.values slot
word_at_last name id t slot apart puts stores =
    stored_of_slot name id t.values (with_values (replicate t.slots 0) t.values) slot apart (subst (λ k. StoresFit name k t.values) (sym made) stores)
    ∙ ap (λ w. option_map_or (stored_word name id w) (find (is_of slot) t.values) w)
    (put_of_slot t.values (replicate t.slots 0) slot apart (subst (λ k. PutsFit k t.values) (sym (length-replicate t.slots 0)) puts)
    ∙ ap (λ w. option_map_or (put_word w) (find (is_of slot) t.values) w) (zero_first t.slots slot))
    ∙ by_value (find (is_of slot) t.values)
  where
    made : length (with_values (replicate t.slots 0) t.values) ≡ t.slots
    made = length_with_values t.values (replicate t.slots 0) ∙ length-replicate t.slots 0

    by_value : (o : Option SlotValue) → option_map_or (stored_word name id (option_map_or (put_word 0) o 0)) o (option_map_or (put_word 0) o 0) ≡ option_map_or (word_of_value name id) o 0
    by_value None = refl
    by_value (Some v) = word_of_one name id v

pub length_at_last : (name : ℕ → Option ℕ) (id : ℕ → ℕ) (t : ObjectTold) → length (linked_thing name id t).words ≡ t.slots
length_at_last name id t = length_with_references name id t.values (with_values (replicate t.slots 0) t.values) ∙ length_with_values t.values (replicate t.slots 0) ∙ length-replicate t.slots 0
