-- What there is after a class is defined.
use Rattle.std.proofs.Common.{◌≡◌, ℕ, ◌+◌, ◌<◌, ◌≤◌, arith, Bool, true, false, ◌&&◌, List, [], ◌∷◌, ◌++◌, ◌∙◌, length, map, sym, ap, subst, None, refl}
use Rattle.std.specs.Prelude.{nat_le}
use Rattle.std.specs.List.{list_all}
use Rattle.std.specs.Option.{option_map_or}
use Rattle.std.specs.Str.{bytes_eq}
use Rattle.std.proofs.lemmas.Bool.{leb-true, leb-false, le-leb, lt-leb, not-false, ltb-false, and_parts, and_from, or_right}
use Rattle.indexmap.specs.IndexSet.{insert_all}
use Rattle.heap_class.specs.Limits.{AreClassLimits, class_limit, name_limit, slot_limit, widest_classes}
use Rattle.heap_class.specs.declared.ClassLimits.{ClassLimits}
use Rattle.heap_class.specs.declared.Kind.{Kind}
use Rattle.heap_class.specs.declared.Field.{Field}
use Rattle.heap_class.specs.declared.class_table.ClassEntry.{ClassEntry}
use Rattle.heap_class.specs.Classes.{Class, names_in, is_name, is_name_byte, is_instance_class, slots_of, slots_under, slot_table_after, class_refusal}
use Rattle.heap_class.specs.Entries.{class_of_entry, IsEntryWithin, AreNamed, AreSizes, IsEntryTable}
use Rattle.heap_class.proofs.Refusals.{no_refusal_test_holds}
use Rattle.heap_class.proofs.Tables.{pushed_table, pushed_classes}
use Rattle.heap_class.proofs.Acceptance.{accepted, slots_are, slot_count}

-- what stands in the place of a test that holds of each item may hold of more
weaker_test_holds_of_all : {X : Type 0} (p q : X → Bool) → ((x : X) → p x ≡ true → q x ≡ true) → (xs : List X) → list_all p xs ≡ true → list_all q xs ≡ true
weaker_test_holds_of_all p q more [] h = refl
weaker_test_holds_of_all p q more (x ∷ xs) h = let e = and_parts (p x) (list_all p xs) h in and_from (q x) (list_all q xs) (more x e.0) (weaker_test_holds_of_all p q more xs e.1)

-- a name is one in a heap with as wide limits as there may be
byte_stays : (any_sign : Bool) (b : ℕ) → is_name_byte any_sign b ≡ true → is_name_byte true b ≡ true
unfolding is_name_byte
byte_stays true b h = h
byte_stays false b h = or_right _ _ h

name_stays : (limits : ClassLimits) → AreClassLimits limits → (n : List ℕ) → is_name limits n ≡ true → is_name widest_classes n ≡ true
unfolding is_name
name_stays limits within n h =
    let p = and_parts (nat_le 1 (length n) && nat_le (length n) limits.name_bytes) _ h in
    let q = and_parts (nat_le 1 (length n)) (nat_le (length n) limits.name_bytes) p.0 in
    let short : length n ≤ name_limit = omega (arith, leb-true (length n) limits.name_bytes q.1, within.name_bytes) in
    and_from _ _ (and_from _ _ q.0 (le-leb (length n) name_limit short)) (weaker_test_holds_of_all (is_name_byte limits.any_sign) (is_name_byte true) (byte_stays limits.any_sign) n p.1)

-- and a class that isn't refused isn't refused in such a heap
pub not_refused_at_widest_limits : (limits : ClassLimits) (classes : List Class) (c : Class) → AreClassLimits limits → class_refusal limits classes c ≡ None → class_refusal widest_classes classes c ≡ None
unfolding class_refusal
not_refused_at_widest_limits limits classes c within h =
    let t = no_refusal_test_holds _ h in
    let room : length classes < class_limit = omega (arith, within.classes, leb-false limits.classes (length classes) t.1.0) in
    let named : list_all (is_name widest_classes) (names_in c) ≡ true = weaker_test_holds_of_all (is_name limits) (is_name widest_classes) (name_stays limits within) (names_in c) (not-false _ t.1.1.0) in
    sym (accepted widest_classes classes c (sym (not-false _ t.0)) (sym (lt-leb class_limit (length classes) room)) (sym named) (sym t.1.1.1.0) (sym t.1.1.1.1.0))

-- the super of a class that isn't refused is an instance class
pub super_stands : (classes : List Class) (c : Class) → class_refusal widest_classes classes c ≡ None → option_map_or (is_instance_class classes) c.sup true ≡ true
unfolding class_refusal
super_stands classes c h = not-false _ (no_refusal_test_holds _ h).0

-- and its slots are few
pub slots_fit : (classes : List Class) (c : Class) (above : List Kind) → class_refusal widest_classes classes c ≡ None → above ≡ option_map_or (slots_of classes) c.sup [] → length c.fields + length above ≤ slot_limit
unfolding class_refusal
slots_fit classes c above h e = subst (λ n. n ≤ slot_limit) (slot_count classes c above e) (ltb-false slot_limit _ (no_refusal_test_holds _ h).1.1.1.1.0)

module _ (names : List (List ℕ)) (es : List ClassEntry) (t : IsEntryTable names es) (v : List Class) (view_is : map (class_of_entry names) es ≡ v)
    (c : Class) (e : ClassEntry) (names' : List (List ℕ)) (es' : List ClassEntry) (above : List Kind)
    (names_are : names' ≡ insert_all bytes_eq names (names_in c))
    (entries_are : es' ≡ es ++ e ∷ [])
    (taken : class_refusal widest_classes v c ≡ None)
    (bare : c.is_array ≡ true → (c.sup ≡ None) × (c.fields ≡ []))
    (named : AreNamed names' c.name c.fields e.name e.fields.items)
    (sup_is : e.sup ≡ c.sup) (kind_is : e.is_array ≡ c.is_array)
    (marked : e.names_before ≡ length names)
    (slotted : e.slots.items ≡ map (λ (f : Field). f.kind) c.fields ++ above)
    (above_is : above ≡ option_map_or (slots_of v) c.sup [])
    (sized : AreSizes e.slots.items e.sizes) where
  entry_is : class_of_entry names' e ≡ c
  entry_is = λ i. record { name = named.name_is i; sup = sup_is i; fields = named.of_fields.fields_are i; is_array = kind_is i }

  within : IsEntryWithin (length names') e
  within = record { own = named.name_within; each = named.of_fields.within }

  not_refused : class_refusal widest_classes (map (class_of_entry names) es) c ≡ None
  not_refused = subst (λ l. class_refusal widest_classes l c ≡ None) (sym view_is) taken

  slots_stand : e.slots.items ≡ slots_under (slot_table_after [] (map (class_of_entry names) es)) c
  slots_stand = slotted ∙ sym (slots_are v c above above_is) ∙ ap (λ l. slots_under (slot_table_after [] l) c) (sym view_is)

  is_then : class_of_entry (insert_all bytes_eq names (names_in c)) e ≡ c
  is_then = subst (λ (l : List (List ℕ)). class_of_entry l e ≡ c) names_are entry_is

  within_then : IsEntryWithin (length (insert_all bytes_eq names (names_in c))) e
  within_then = subst (λ (l : List (List ℕ)). IsEntryWithin (length l) e) names_are within

  pub defined_table : IsEntryTable names' es'
  defined_table =
      subst (IsEntryTable names') (sym entries_are)
      (subst (λ (l : List (List ℕ)). IsEntryTable l (es ++ e ∷ [])) (sym names_are) (pushed_table names es t c e not_refused bare is_then within_then marked slots_stand sized))

  pub defined_view : map (class_of_entry names') es' ≡ v ++ c ∷ []
  defined_view =
      (λ i. map (class_of_entry (names_are i)) (entries_are i))
      ∙ pushed_classes names es t c e not_refused bare is_then within_then marked slots_stand sized
      ∙ ap (λ l. l ++ c ∷ []) view_is
