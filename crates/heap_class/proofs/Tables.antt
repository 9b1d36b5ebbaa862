-- The entries, and the classes that they stand for.
use Rattle.std.proofs.Common.{◌≡◌, ℕ, ◌-◌, ◌*◌, ◌<◌, ◌≤◌, true, not, ◌&&◌, ◌||◌, List, [], ◌∷◌, ◌++◌, length, map, get_or, take, reverse, refl, sym, ap, subst, ◌∙◌, arith, length-append, None}
use Rattle.std.specs.Prelude.{nat_le, nat_lt, slice_get, unwrap_or}
use Rattle.std.specs.List.{All, list_all, list_any}
use Rattle.std.specs.Option.{option_map_or}
use Rattle.std.specs.Str.{bytes_eq}
use Rattle.std.proofs.lemmas.Bool.{and_parts, not-false, leb-true, leb-false, ltb-false}
use Rattle.std.proofs.lemmas.List.{take_at, get_or-take, length-take, length-map, map-append, reverse-append, reverse-reverse, length-reverse, get_or-reverse}
use Rattle.std.proofs.lemmas.List.Elements.{All-nil, All-cons, All-head, All-tail, All-push, All-take, All-weaker}
use Rattle.indexmap.specs.IndexSet.{insert_all}
use Rattle.heap_class.specs.Limits.{class_limit, slot_limit, name_limit, widest_classes}
use Rattle.heap_class.specs.declared.Kind.{Kind}
use Rattle.heap_class.specs.declared.Field.{Field}
use Rattle.heap_class.specs.declared.class_table.OwnField.{OwnField}
use Rattle.heap_class.specs.declared.class_table.ClassEntry.{ClassEntry}
use Rattle.heap_class.specs.declared.Refusal.TheVariants.{NoClass, ClassLimit, BadName, DuplicateName, FieldLimit}
use Rattle.heap_class.specs.Refusals.{NoneHolds}
use Rattle.heap_class.specs.Classes.{Class, first_uses, name_table, names_in, is_name, is_instance_class, all_distinct, slots_under, slot_table_after, class_refusal, IsClassTable}
use Rattle.heap_class.specs.Entries.{field_of_entry, class_of_entry, IsEntryWithin, IsPlaced, IsRoomy, AreSizes, IsEntryTable}
use Rattle.heap_class.proofs.Refusals.{no_refusal_test_holds}
use Rattle.heap_class.proofs.Slots.{table_more, table_length, classes_more}
use Rattle.heap_class.proofs.FirstUses.{names_more, inserted_prefix, inserted_longer, inserted_names_add_no_more, inserted_names_all_pass}

-- ---- lists

pub all_reversed : {X : Type 0} (P : X → Type 0) (xs : List X) → All P (reverse xs) → All P xs
all_reversed P xs h k d lt =
    let n : length (reverse xs) ≡ length xs = length-reverse xs in
    subst P (sym (get_or-reverse (reverse xs) k d (omega arith)) ∙ ap (λ l. get_or l k d) (reverse-reverse xs))
    (h (length (reverse xs) - 1 - k) d (omega arith))

pub all_of_front : {X : Type 0} (P : X → Type 0) (xs : List X) (x : X) → All P (xs ++ x ∷ []) → All P xs
all_of_front P xs x h = subst (All P) (take_at xs (x ∷ []) (length xs) refl) (All-take P (length xs) (xs ++ x ∷ []) h)

all_but_last_are_front : {X : Type 0} (xs : List X) (x : X) (ys : List X) → ys ≡ xs ++ x ∷ [] → take (length ys - 1) ys ≡ xs
all_but_last_are_front xs x ys e =
    ap (take (length ys - 1)) e ∙ take_at xs (x ∷ []) (length ys - 1) (omega (arith, ap length e, length-append xs (x ∷ [])))

all_names_are_short : (ns : List (List ℕ)) → list_all (is_name widest_classes) ns ≡ true → All (λ (n : List ℕ). length n ≤ name_limit) ns
unfolding is_name
all_names_are_short [] h = All-nil (λ (n : List ℕ). length n ≤ name_limit)
all_names_are_short (n ∷ ns) h =
    let p = and_parts (is_name widest_classes n) (list_all (is_name widest_classes) ns) h in
    let q = and_parts (nat_le 1 (length n) && nat_le (length n) name_limit) _ p.0 in
    let r = and_parts (nat_le 1 (length n)) (nat_le (length n) name_limit) q.0 in
    All-cons (λ (n : List ℕ). length n ≤ name_limit) n ns (leb-true (length n) name_limit r.1) (all_names_are_short ns p.1)

-- ---- names that stay

module _ (names : List (List ℕ)) (n : ℕ) where
  field_stays : (f : OwnField) → f.name < length (take n names) → field_of_entry names f ≡ field_of_entry (take n names) f
  field_stays f lt =
      let below : f.name < n = omega (arith, lt, length-take n names) in
      λ i. record { name = sym (get_or-take n names f.name [] below) i; kind = f.kind }

  pub fields_stay : (fs : List OwnField) → All (λ (f : OwnField). f.name < length (take n names)) fs → map (field_of_entry names) fs ≡ map (field_of_entry (take n names)) fs
  fields_stay [] h = refl
  fields_stay (f ∷ fs) h = λ i. field_stays f (All-head (λ (f : OwnField). f.name < length (take n names)) f fs h) i ∷ fields_stay fs (All-tail (λ (f : OwnField). f.name < length (take n names)) f fs h) i

  class_stays : (e : ClassEntry) → IsEntryWithin (length (take n names)) e → class_of_entry names e ≡ class_of_entry (take n names) e
  class_stays e w =
      let below : e.name < n = omega (arith, w.own, length-take n names) in
      λ i. record {
        name = sym (get_or-take n names e.name [] below) i;
        sup = e.sup;
        fields = fields_stay e.fields.items w.each i;
        is_array = e.is_array;
      }

  pub classes_stay : (es : List ClassEntry) → All (IsEntryWithin (length (take n names))) es → map (class_of_entry names) es ≡ map (class_of_entry (take n names)) es
  classes_stay [] h = refl
  classes_stay (e ∷ es) h = λ i. class_stays e (All-head (IsEntryWithin (length (take n names))) e es h) i ∷ classes_stay es (All-tail (IsEntryWithin (length (take n names))) e es h) i

pub entry_within_more_names : (m n : ℕ) → m ≤ n → (e : ClassEntry) → IsEntryWithin m e → IsEntryWithin n e
entry_within_more_names m n le e w = record {
  own = omega (arith, w.own);
  each = All-weaker (λ (f : OwnField). f.name < m) (λ (f : OwnField). f.name < n) (λ f lt. omega arith) e.fields.items w.each;
}

pub placed_entries_are_within : (names : List (List ℕ)) (es : List ClassEntry) → IsPlaced names es → All (IsEntryWithin (length names)) es
placed_entries_are_within names [] h = All-nil (IsEntryWithin (length names))
placed_entries_are_within names (e ∷ es) h =
    All-cons (IsEntryWithin (length names)) e es h.0
    (All-weaker (IsEntryWithin (length (take e.names_before names))) (IsEntryWithin (length names))
    (entry_within_more_names (length (take e.names_before names)) (length names) (omega (arith, length-take e.names_before names))) es
    (placed_entries_are_within (take e.names_before names) es h.3))

-- all places are among the names
pub all_entries_are_within : (names : List (List ℕ)) (es : List ClassEntry) → IsPlaced names (reverse es) → All (IsEntryWithin (length names)) es
all_entries_are_within names es h = all_reversed (IsEntryWithin (length names)) es (placed_entries_are_within names (reverse es) h)

pub names_of_placed : (names : List (List ℕ)) (es : List ClassEntry) → IsPlaced names es → name_table (map (class_of_entry names) (reverse es)) ≡ names
unfolding name_table first_uses
names_of_placed names [] h = sym h
names_of_placed names (e ∷ es) h =
    let before : List (List ℕ) = take e.names_before names in
    let within : All (IsEntryWithin (length before)) (reverse es) = all_entries_are_within before (reverse es) (subst (IsPlaced before) (sym (reverse-reverse es)) h.3) in
    ap (λ l. name_table (map (class_of_entry names) l)) (reverse-append (e ∷ []) es)
    ∙ ap name_table (map-append (class_of_entry names) (reverse es) (e ∷ []))
    ∙ names_more (map (class_of_entry names) (reverse es)) (class_of_entry names e)
    ∙ ap (λ t. insert_all bytes_eq t (names_in (class_of_entry names e))) (ap name_table (classes_stay names e.names_before (reverse es) within) ∙ names_of_placed before es h.3)
    ∙ sym h.2

-- the names are in order of first use
pub table_names : (names : List (List ℕ)) (es : List ClassEntry) → IsEntryTable names es → name_table (map (class_of_entry names) es) ≡ names
table_names names es t = ap (λ l. name_table (map (class_of_entry names) l)) (sym (reverse-reverse es)) ∙ names_of_placed names (reverse es) t.placed

placed_entries_have_few_names : (names : List (List ℕ)) (es : List ClassEntry) → IsPlaced names es → All IsRoomy es → length names ≤ 65 * length es
unfolding names_in
placed_entries_have_few_names names [] h r = omega (arith, ap length h)
placed_entries_have_few_names names (e ∷ es) h r =
    let before : List (List ℕ) = take e.names_before names in
    let rest : length before ≤ 65 * length es = placed_entries_have_few_names before es h.3 (All-tail IsRoomy e es r) in
    let own : length e.fields.items ≤ 64 = (All-head IsRoomy e es r).few_fields in
    omega (arith, ap length h.2, inserted_names_add_no_more before (names_in (class_of_entry names e)), length-map (map (field_of_entry names) e.fields.items) (λ (f : Field). f.name), length-map e.fields.items (field_of_entry names))

-- at most 65 names for each class
pub few_names : (names : List (List ℕ)) (es : List ClassEntry) → IsEntryTable names es → length names ≤ 65 * length es
few_names names es t =
    let roomy : All IsRoomy (reverse es) = all_reversed IsRoomy (reverse es) (subst (All IsRoomy) (sym (reverse-reverse es)) t.roomy) in
    omega (arith, placed_entries_have_few_names names (reverse es) t.placed roomy, length-reverse es)

-- ---- a class less

classes_less : (before cs : List Class) (c : Class) → IsClassTable before (cs ++ c ∷ []) → IsClassTable before cs
classes_less before [] c t = tt
classes_less before (d ∷ cs) c t = (t.0, t.1, classes_less (before ++ d ∷ []) cs c t.2)

module _ (names : List (List ℕ)) (es : List ClassEntry) (e : ClassEntry) (t : IsEntryTable names (es ++ e ∷ [])) where
  pub popped : IsPlaced names (e ∷ reverse es)
  popped = subst (IsPlaced names) (reverse-append es (e ∷ [])) t.placed

  -- the other classes stay
  pub stays_popped : map (class_of_entry names) es ≡ map (class_of_entry (take e.names_before names)) es
  stays_popped = classes_stay names e.names_before es (all_entries_are_within (take e.names_before names) es popped.3)

  less : IsClassTable [] (map (class_of_entry (take e.names_before names)) es)
  less =
      subst (IsClassTable []) stays_popped
      (classes_less [] (map (class_of_entry names) es) (class_of_entry names e) (subst (IsClassTable []) (map-append (class_of_entry names) es (e ∷ [])) t.classes))

  less_slots : map (λ (d : ClassEntry). d.slots.items) es ≡ slot_table_after [] (map (class_of_entry (take e.names_before names)) es)
  less_slots =
      let slots : ClassEntry → List Kind = λ d. d.slots.items in
      let cs : List Class = map (class_of_entry names) es in
      let table : List (List Kind) = slot_table_after [] cs in
      let whole : map slots es ++ slots e ∷ [] ≡ table ++ slots_under table (class_of_entry names e) ∷ []
      = sym (map-append slots es (e ∷ [])) ∙ t.slots ∙ ap (slot_table_after []) (map-append (class_of_entry names) es (e ∷ [])) ∙ table_more [] cs (class_of_entry names e) in
      sym (take_at (map slots es) (slots e ∷ []) (length es) (length-map es slots))
      ∙ ap (take (length es)) whole
      ∙ take_at table (slots_under table (class_of_entry names e) ∷ []) (length es) (omega (arith, table_length [] cs, length-map es (class_of_entry names)))
      ∙ ap (slot_table_after []) stays_popped

  -- what is left
  pub popped_table : IsEntryTable (take e.names_before names) es
  popped_table = record {
    placed = popped.3;
    classes = less;
    slots = less_slots;
    roomy = all_of_front IsRoomy es e t.roomy;
    sized = all_of_front (λ (d : ClassEntry). AreSizes d.slots.items d.sizes) es e t.sized;
    short = All-take (λ (n : List ℕ). length n ≤ name_limit) e.names_before names t.short;
    few = omega (arith, t.few, length-append es (e ∷ []));
  }

  -- and what contracts see of it
  pub popped_view : (ns : List (List ℕ)) (v : List Class) → ns ≡ take e.names_before names → map (class_of_entry names) (es ++ e ∷ []) ≡ v → map (class_of_entry ns) es ≡ take (length v - 1) v
  popped_view ns v is view_is =
      let seen : v ≡ map (class_of_entry names) es ++ class_of_entry names e ∷ [] = sym view_is ∙ map-append (class_of_entry names) es (e ∷ []) in
      ap (λ (l : List (List ℕ)). map (class_of_entry l) es) is ∙ sym stays_popped ∙ sym (all_but_last_are_front (map (class_of_entry names) es) (class_of_entry names e) v seen)

-- ---- a class more

module _ (names : List (List ℕ)) (es : List ClassEntry) (t : IsEntryTable names es) (c : Class) (e : ClassEntry)
    (accepted : class_refusal widest_classes (map (class_of_entry names) es) c ≡ None)
    (bare : c.is_array ≡ true → (c.sup ≡ None) × (c.fields ≡ []))
    (is : class_of_entry (insert_all bytes_eq names (names_in c)) e ≡ c)
    (within : IsEntryWithin (length (insert_all bytes_eq names (names_in c))) e)
    (marked : e.names_before ≡ length names)
    (slotted : e.slots.items ≡ slots_under (slot_table_after [] (map (class_of_entry names) es)) c)
    (sized : AreSizes e.slots.items e.sizes) where
  tests : NoneHolds
      ((not (option_map_or (is_instance_class (map (class_of_entry names) es)) c.sup true), NoClass)
      ∷ (nat_le class_limit (length (map (class_of_entry names) es)), ClassLimit)
      ∷ (not (list_all (is_name widest_classes) (names_in c)), BadName)
      ∷ (list_any (λ d. bytes_eq d.name c.name) (map (class_of_entry names) es) || not (all_distinct (map (λ f. f.name) c.fields)), DuplicateName)
      ∷ (nat_lt slot_limit (length (slots_under (slot_table_after [] (map (class_of_entry names) es)) c)), FieldLimit)
      ∷ [])
  unfolding class_refusal
  tests = no_refusal_test_holds _ accepted

  kept : take (length names) (insert_all bytes_eq names (names_in c)) ≡ names
  kept = inserted_prefix names (names_in c)

  others_stay : map (class_of_entry (insert_all bytes_eq names (names_in c))) es ≡ map (class_of_entry names) es
  others_stay =
      classes_stay (insert_all bytes_eq names (names_in c)) (length names) es (subst (λ l. All (IsEntryWithin (length l)) es) (sym kept) (all_entries_are_within names es t.placed))
      ∙ ap (λ l. map (class_of_entry l) es) kept

  -- the classes with one more
  pub pushed_classes : map (class_of_entry (insert_all bytes_eq names (names_in c))) (es ++ e ∷ []) ≡ map (class_of_entry names) es ++ c ∷ []
  pushed_classes = map-append (class_of_entry (insert_all bytes_eq names (names_in c))) es (e ∷ []) ∙ (λ i. others_stay i ++ is i ∷ [])

  pushed_placed : IsPlaced (insert_all bytes_eq names (names_in c)) (e ∷ reverse es)
  pushed_placed =
      let ns : List (List ℕ) = insert_all bytes_eq names (names_in c) in
      let front : take e.names_before ns ≡ names = ap (λ n. take n ns) marked ∙ kept in (
        within,
        omega (arith, inserted_longer names (names_in c)),
        (λ i. insert_all bytes_eq (sym front i) (names_in (sym is i))),
        subst (λ l. IsPlaced l (reverse es)) (sym front) t.placed,
      )

  roomy_entry : IsRoomy e
  unfolding slots_under
  roomy_entry =
      let all : length (slots_under (slot_table_after [] (map (class_of_entry names) es)) c) ≤ slot_limit = ltb-false slot_limit _ tests.1.1.1.1.0 in
      record {
        few_fields = omega (arith, all, ap (λ (d : Class). length d.fields) is, length-map e.fields.items (field_of_entry (insert_all bytes_eq names (names_in c))), length-map c.fields (λ (f : Field). f.kind), length-append (map (λ (f : Field). f.kind) c.fields) (option_map_or (λ s. unwrap_or (slice_get (slot_table_after [] (map (class_of_entry names) es)) s) []) c.sup []));
        few_slots = omega (arith, all, ap length slotted);
      }

  -- what there is then
  pub pushed_table : IsEntryTable (insert_all bytes_eq names (names_in c)) (es ++ e ∷ [])
  pushed_table = record {
    placed = subst (IsPlaced (insert_all bytes_eq names (names_in c))) (sym (reverse-append es (e ∷ []))) pushed_placed;
    classes = subst (IsClassTable []) (sym pushed_classes) (classes_more [] (map (class_of_entry names) es) c t.classes accepted bare);
    slots =
        map-append (λ (d : ClassEntry). d.slots.items) es (e ∷ [])
        ∙ (λ i. t.slots i ++ slotted i ∷ [])
        ∙ sym (table_more [] (map (class_of_entry names) es) c)
        ∙ ap (slot_table_after []) (sym pushed_classes);
    roomy = All-push IsRoomy es e t.roomy roomy_entry;
    sized = All-push (λ (d : ClassEntry). AreSizes d.slots.items d.sizes) es e t.sized sized;
    short = inserted_names_all_pass (λ (n : List ℕ). length n ≤ name_limit) names (names_in c) t.short (all_names_are_short (names_in c) (not-false (list_all (is_name widest_classes) (names_in c)) tests.1.1.0));
    few = omega (arith, leb-false class_limit (length (map (class_of_entry names) es)) tests.1.0, length-map es (class_of_entry names), length-append es (e ∷ []));
  }

-- ---- no class

pub empty_table : (names : List (List ℕ)) (es : List ClassEntry) → names ≡ [] → es ≡ [] → IsEntryTable names es
unfolding slot_table_after
empty_table names es n e = subst (λ (ns : List (List ℕ)). IsEntryTable ns es) (sym n) (subst (IsEntryTable []) (sym e) record {
  placed = refl;
  classes = tt;
  slots = refl;
  roomy = All-nil IsRoomy;
  sized = All-nil (λ (d : ClassEntry). AreSizes d.slots.items d.sizes);
  short = All-nil (λ (m : List ℕ). length m ≤ name_limit);
  few = omega arith;
})
