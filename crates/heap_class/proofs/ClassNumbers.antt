-- Names with the numbers of their classes.
use Rattle.std.proofs.Common.{◌≡◌, ℕ, zero, suc, ◌+◌, ◌-◌, ◌<◌, ◌≤◌, ◌==◌, ◌≢◌, Bool, true, false, ◌||◌, cond, List, [], ◌∷◌, ◌++◌, length, map, get_or, take, refl, sym, ap, subst, ◌∙◌, arith, append_assoc, ⊎_elim, Option, Some, None, is_some, position, true≢false}
use Rattle.std.specs.List.{IsDistinct, list_any, position_from, position_or_len}
use Rattle.std.specs.Map.{keys_of, values_of, lookup}
use Rattle.std.specs.Str.{bytes_eq}
use Rattle.std.proofs.lemmas.Bool.{cases_lt, false_from_ne_true, or_parts, ne_eqb, eqb-true, eqb-false}
use Rattle.std.proofs.lemmas.List.{append-nil, take_at, take-map, get_or-take, get_or-map, get_or_past, get_or-append_right, length-map, length-take, map-append}
use Rattle.std.proofs.lemmas.List.Folds.{list_any_at, list_any_none}
use Rattle.std.proofs.lemmas.List.Quantifiers.{position-Some}
use Rattle.std.proofs.lemmas.List.Sums.{position_or_len_is}
use Rattle.std.proofs.lemmas.Map.Entries.{place_from_lookup}
use Rattle.std.proofs.lemmas.Option.{slice_get_within, get_or_from_slice_get}
use Rattle.indexmap.specs.IndexMap.{IndexMap, keys, get, insert_entry, insert_index, set_value_at}
use Rattle.indexmap.specs.IndexSet.{insert_key}
use Rattle.indexmap.proofs.CallerLemmas.{insert_entry-new}
use Rattle.heap_class.specs.declared.class_table.ClassEntry.{ClassEntry}
use Rattle.heap_class.specs.Limits.{widest_classes}
use Rattle.heap_class.specs.Classes.{Class, class_refusal, IsClassTable}
use Rattle.heap_class.specs.Entries.{class_of_entry, class_named_at, HasMoreNames, IsEntryTable, IsNumberedTable}
use Rattle.heap_class.proofs.Refusals.{no_refusal_test_holds}
use Rattle.heap_class.proofs.FirstUses.{bytes_same, table_distinct}
use Rattle.heap_class.proofs.ClassNames.{AreBelow, named_nowhere, named_at_place}
use Rattle.heap_class.proofs.Tables.{all_of_front, all_entries_are_within, popped, popped_table, table_names}

-- names, each with the number of its class, if there is one
abbrev Names : Type 0
Names = List (List ℕ × Option ℕ)

-- a name of no class
abbrev name_of_no_class : List ℕ → List ℕ × Option ℕ
name_of_no_class n = (n, None)

-- ---- further names

pub more_names_of_more_names : (a b c : Names) → HasMoreNames a b → HasMoreNames b c → HasMoreNames a c
more_names_of_more_names a b c m n = record {
  added = m.added ++ n.added;
  names_are =
      n.names_are
      ∙ ap (λ l. l ++ map name_of_no_class n.added) m.names_are
      ∙ append_assoc a (map name_of_no_class m.added) (map name_of_no_class n.added)
      ∙ ap (λ l. a ++ l) (sym (map-append name_of_no_class m.added n.added));
}

-- the names that there were stay
pub older_names_stay_in_front : (old new : Names) → HasMoreNames old new → take (length old) new ≡ old
older_names_stay_in_front old new m = ap (take (length old)) m.names_are ∙ take_at old (map name_of_no_class m.added) (length old) refl

numbers_of_front : (old : Names) (added : List (List ℕ)) (i : ℕ) → get_or (values_of (old ++ map name_of_no_class added)) i None ≡ get_or (values_of old) i None
numbers_of_front [] [] i = refl
numbers_of_front [] (n ∷ ns) zero = refl
numbers_of_front [] (n ∷ ns) (suc i) = numbers_of_front [] ns i
numbers_of_front (e ∷ es) added zero = refl
numbers_of_front (e ∷ es) added (suc i) = numbers_of_front es added i

-- and so do their numbers
numbers_of_older_names_stay : (old new : Names) → HasMoreNames old new → (i : ℕ) → get_or (values_of new) i None ≡ get_or (values_of old) i None
numbers_of_older_names_stay old new m i = ap (λ l. get_or (values_of l) i None) m.names_are ∙ numbers_of_front old m.added i

-- ---- a name that is placed

name_looked_up_in_vain : (p : List ℕ → Bool) (ns : Names) → lookup p ns ≡ None → list_any p (keys_of ns) ≡ false
name_looked_up_in_vain p [] h = refl
name_looked_up_in_vain p (n ∷ ns) h = go (p n.0) h (name_looked_up_in_vain p ns)
  where
    go : (b : Bool) → cond b (Some n.1) (lookup p ns) ≡ None → (lookup p ns ≡ None → list_any p (keys_of ns) ≡ false) → (b || list_any p (keys_of ns)) ≡ false
    go true e rest = cc
    go false e rest = rest e

pub key_there : (ks : List (List ℕ)) (n : List ℕ) (i : ℕ) → position (bytes_eq n) ks ≡ Some i → ks ≡ insert_key bytes_eq ks n
key_there ks n i h =
    let at = position-Some (bytes_eq n) ks i [] h in
    ap (λ b. cond b ks (ks ++ n ∷ [])) (sym (list_any_at (bytes_eq n) ks i [] at.0 at.1))

not_some_means_none : (o : Option (Option ℕ)) → false ≡ is_some o → o ≡ None
not_some_means_none None h = refl
not_some_means_none (Some x) h = absurd (true≢false (sym h))

module _ {S : Type 0} (m : IndexMap (List ℕ) (Option ℕ) S) (new : Names) (n copy : List ℕ)
    (none : false ≡ is_some (get bytes_eq m n)) (copied : copy ≡ n) (is : new ≡ insert_entry bytes_eq m.entries copy None) where
  pushed : new ≡ m.entries ++ (n, None) ∷ []
  pushed = is ∙ ap (λ k. insert_entry bytes_eq m.entries k None) copied ∙ insert_entry-new bytes_eq m n None (not_some_means_none _ none)

  lacking : list_any (bytes_eq n) (keys m) ≡ false
  lacking = name_looked_up_in_vain (bytes_eq n) m.entries (not_some_means_none _ none)

  pub more_new : HasMoreNames m.entries new
  more_new = record { added = n ∷ []; names_are = pushed }

  keys_with : keys_of new ≡ keys m ++ n ∷ []
  keys_with = ap keys_of pushed ∙ map-append (λ (e : List ℕ × Option ℕ). e.0) m.entries ((n, None) ∷ [])

  pub key_new : keys_of new ≡ insert_key bytes_eq (keys m) n
  key_new = keys_with ∙ ap (λ b. cond b (keys m) (keys m ++ n ∷ [])) (sym lacking)

  pub place_of_new : (i : ℕ) → i ≡ insert_index bytes_eq m copy → get_or (keys_of new) i [] ≡ n
  place_of_new i at =
      let end : position_or_len (bytes_eq n) (keys m) ≡ length (keys m)
      = position_or_len_is (bytes_eq n) (keys m) (length (keys m)) [] (omega arith) (λ k lt. false_from_ne_true _ (λ same. true≢false (sym (list_any_at (bytes_eq n) (keys m) k [] lt same) ∙ lacking))) (λ lt. absurd (omega (arith, lt))) in
      let last : i ≡ length (keys m) = at ∙ ap (insert_index bytes_eq m) copied ∙ end in
      let past : i - length (keys m) ≡ 0 = omega (arith, last) in
      ap (λ l. get_or l i []) keys_with
      ∙ get_or-append_right (keys m) (n ∷ []) (length (keys m)) i [] refl (omega (arith, last))
      ∙ ap (λ k. get_or (n ∷ []) k []) past

-- ---- a number that is written

pub keys_stay : (ns : Names) (at : ℕ) (w : Option ℕ) → keys_of (set_value_at ns at w) ≡ keys_of ns
keys_stay [] at w = refl
keys_stay (e ∷ ns) zero w = refl
keys_stay (e ∷ ns) (suc at) w = ap (λ l. e.0 ∷ l) (keys_stay ns at w)

number_written_at_its_place : (ns : Names) (at : ℕ) (w : Option ℕ) → at < length ns → get_or (values_of (set_value_at ns at w)) at None ≡ w
number_written_at_its_place [] at w lt = absurd (omega (arith, lt))
number_written_at_its_place (e ∷ ns) zero w lt = refl
number_written_at_its_place (e ∷ ns) (suc at) w lt = number_written_at_its_place ns at w (omega (arith, lt))

number_written_at_other_place : (ns : Names) (at : ℕ) (w : Option ℕ) (i : ℕ) → at ≢ i → get_or (values_of (set_value_at ns at w)) i None ≡ get_or (values_of ns) i None
number_written_at_other_place [] at w i other = refl
number_written_at_other_place (e ∷ ns) zero w zero other = absurd (other refl)
number_written_at_other_place (e ∷ ns) zero w (suc i) other = refl
number_written_at_other_place (e ∷ ns) (suc at) w zero other = refl
number_written_at_other_place (e ∷ ns) (suc at) w (suc i) other = number_written_at_other_place ns at w i (λ h. other (ap suc h))

number_after_write : (ns : Names) (at : ℕ) (w : Option ℕ) (i : ℕ) → at < length ns → get_or (values_of (set_value_at ns at w)) i None ≡ cond (at == i) w (get_or (values_of ns) i None)
number_after_write ns at w i lt = go (at == i) refl
  where
    go : (b : Bool) → (at == i) ≡ b → get_or (values_of (set_value_at ns at w)) i None ≡ cond b w (get_or (values_of ns) i None)
    go true e = ap (λ k. get_or (values_of (set_value_at ns at w)) k None) (sym (eqb-true at i e)) ∙ number_written_at_its_place ns at w lt
    go false e = number_written_at_other_place ns at w i (eqb-false at i e)

-- ---- the class that has a name

module _ (p : ClassEntry → Bool) where
  none_there : (i : ℕ) (es : List ClassEntry) → list_any p es ≡ false → position_from p i es ≡ None
  none_there i [] h = refl
  none_there i (e ∷ es) h =
      let q = or_parts (p e) (list_any p es) h in
      ap (λ b. cond b (Some i) (position_from p (i + 1) es)) q.0 ∙ none_there (i + 1) es q.1

  some_there : (i : ℕ) (es : List ClassEntry) → is_some (position_from p i es) ≡ list_any p es
  some_there i [] = refl
  some_there i (e ∷ es) = go (p e) (some_there (i + 1) es)
    where
      go : (b : Bool) → is_some (position_from p (i + 1) es) ≡ list_any p es → is_some (cond b (Some i) (position_from p (i + 1) es)) ≡ (b || list_any p es)
      go true r = refl
      go false r = r

  last_not : (i : ℕ) (es : List ClassEntry) (e : ClassEntry) → p e ≡ false → position_from p i (es ++ e ∷ []) ≡ position_from p i es
  last_not i [] e h = ap (λ b. cond b (Some i) None) h
  last_not i (d ∷ es) e h = ap (cond (p d) (Some i)) (last_not (i + 1) es e h)

  last_found : (i : ℕ) (es : List ClassEntry) (e : ClassEntry) → list_any p es ≡ false → p e ≡ true → position_from p i (es ++ e ∷ []) ≡ Some (i + length es)
  last_found i [] e h s = ap (λ b. cond b (Some i) None) s ∙ ap Some (omega arith)
  last_found i (d ∷ es) e h s =
      let q = or_parts (p d) (list_any p es) h in
      ap (λ b. cond b (Some i) (position_from p (i + 1) (es ++ e ∷ []))) q.0 ∙ last_found (i + 1) es e q.1 s ∙ ap Some (omega arith)

no_entry_above_all_names : (n i : ℕ) (es : List ClassEntry) → AreBelow n es → n ≤ i → list_any (λ (d : ClassEntry). d.name == i) es ≡ false
no_entry_above_all_names n i es below le =
    list_any_none (λ (d : ClassEntry). d.name == i) es (λ k d l. ne_eqb (get_or es k d).name i (λ e. omega (arith, e, below k d l, le)))

last_class_was_accepted : (before cs : List Class) (c : Class) → IsClassTable before (cs ++ c ∷ []) → class_refusal widest_classes (before ++ cs) c ≡ None
last_class_was_accepted before [] c t = subst (λ l. class_refusal widest_classes l c ≡ None) (sym (append-nil before)) t.0
last_class_was_accepted before (d ∷ cs) c t = subst (λ l. class_refusal widest_classes l c ≡ None) (append_assoc before (d ∷ []) cs) (last_class_was_accepted (before ++ d ∷ []) cs c t.2)

module _ (names : List (List ℕ)) (es : List ClassEntry) (e : ClassEntry) (t : IsEntryTable names (es ++ e ∷ [])) where
  last_within : e.name < length names
  last_within = (popped names es e t).0.own

  -- no class before the last has its name
  last_alone : list_any (λ (d : ClassEntry). d.name == e.name) es ≡ false
  unfolding class_refusal
  last_alone =
      let classes : IsClassTable [] (map (class_of_entry names) es ++ class_of_entry names e ∷ [])
      = subst (IsClassTable []) (map-append (class_of_entry names) es (e ∷ [])) t.classes in
      let tests = no_refusal_test_holds _ (last_class_was_accepted [] (map (class_of_entry names) es) (class_of_entry names e) classes) in
      let distinct : IsDistinct bytes_eq names = subst (IsDistinct bytes_eq) (table_names names (es ++ e ∷ []) t) (table_distinct _) in
      let below : AreBelow (length names) (es ++ e ∷ []) = λ k d l. (all_entries_are_within names (es ++ e ∷ []) t.placed k d l).own in
      sym (named_at_place names (get_or names e.name []) e.name distinct last_within refl es (all_of_front (λ (d : ClassEntry). d.name < length names) es e below))
      ∙ (or_parts _ _ tests.1.1.1.0).0

-- ---- what there is after a class is defined, and after it is undone

pub numbered_table_with_one_more : (old new : Names) (es : List ClassEntry) (e : ClassEntry) (k : ℕ)
    → IsNumberedTable old es → HasMoreNames old new → IsEntryTable (keys_of new) (es ++ e ∷ []) → k ≡ length es
    → IsNumberedTable (set_value_at new e.name (Some k)) (es ++ e ∷ [])
numbered_table_with_one_more old new es e k t more now is = record {
  table = subst (λ l. IsEntryTable l (es ++ e ∷ [])) (sym (keys_stay new e.name (Some k))) now;
  numbered = λ i. number_after_write new e.name (Some k) i (omega (arith, last_within (keys_of new) es e now, length-map new (λ (n : List ℕ × Option ℕ). n.0))) ∙ go i (e.name == i) refl;
}
  where
    go : (i : ℕ) (b : Bool) → (e.name == i) ≡ b → cond b (Some k) (get_or (values_of new) i None) ≡ class_named_at (es ++ e ∷ []) i
    go i true s =
        let alone : list_any (λ (d : ClassEntry). d.name == i) es ≡ false
        = subst (λ j. list_any (λ (d : ClassEntry). d.name == j) es ≡ false) (eqb-true e.name i s) (last_alone (keys_of new) es e now) in
        ap Some (omega (arith, is)) ∙ sym (last_found (λ (d : ClassEntry). d.name == i) 0 es e alone s)
    go i false s = numbers_of_older_names_stay old new more i ∙ t.numbered i ∙ sym (last_not (λ (d : ClassEntry). d.name == i) 0 es e s)

module _ (names : Names) (es : List ClassEntry) (e : ClassEntry) (t : IsNumberedTable names (es ++ e ∷ [])) where
  pub keys_left : keys_of (take e.names_before (set_value_at names e.name None)) ≡ take e.names_before (keys_of names)
  keys_left = sym (take-map (λ (n : List ℕ × Option ℕ). n.0) e.names_before (set_value_at names e.name None)) ∙ ap (take e.names_before) (keys_stay names e.name None)

  left : (i : ℕ) (b : Bool) → (e.name == i) ≡ b → cond b None (get_or (values_of names) i None) ≡ class_named_at es i
  left i true s =
      let alone : list_any (λ (d : ClassEntry). d.name == i) es ≡ false
      = subst (λ j. list_any (λ (d : ClassEntry). d.name == j) es ≡ false) (eqb-true e.name i s) (last_alone (keys_of names) es e t.table) in
      sym (none_there (λ (d : ClassEntry). d.name == i) 0 es alone)
  left i false s = t.numbered i ∙ last_not (λ (d : ClassEntry). d.name == i) 0 es e s

  numbers_left : (i : ℕ) → get_or (values_of (take e.names_before (set_value_at names e.name None))) i None ≡ class_named_at es i
  numbers_left i = ⊎_elim
      (λ below. ap (λ l. get_or l i None) (sym (take-map (λ (n : List ℕ × Option ℕ). n.1) e.names_before (set_value_at names e.name None)))
      ∙ get_or-take e.names_before (values_of (set_value_at names e.name None)) i None below
      ∙ number_after_write names e.name None i (omega (arith, last_within (keys_of names) es e t.table, length-map names (λ (n : List ℕ × Option ℕ). n.0)))
      ∙ left i (e.name == i) refl)
      (λ above. get_or_past (values_of (take e.names_before (set_value_at names e.name None))) i None (omega (arith, above, length-map (take e.names_before (set_value_at names e.name None)) (λ (n : List ℕ × Option ℕ). n.1), length-take e.names_before (set_value_at names e.name None)))
      ∙ sym (none_there (λ (d : ClassEntry). d.name == i) 0 es (no_entry_above_all_names e.names_before i es (λ k d l. omega (arith, (all_entries_are_within (take e.names_before (keys_of names)) es (popped (keys_of names) es e t.table).3 k d l).own, length-take e.names_before (keys_of names))) above)))
      (cases_lt i e.names_before)

  pub numbered_less : IsNumberedTable (take e.names_before (set_value_at names e.name None)) es
  numbered_less = record {
    table = subst (λ l. IsEntryTable l es) (sym keys_left) (popped_table (keys_of names) es e t.table);
    numbered = numbers_left;
  }

-- ---- whether a class has a name

module _ (names : Names) (es : List ClassEntry) (t : IsNumberedTable names es) (n : List ℕ) where
  below : AreBelow (length (keys_of names)) es
  below = λ k d l. (all_entries_are_within (keys_of names) es t.table.placed k d l).own

  pub name_of_none : lookup (bytes_eq n) names ≡ None → list_any (λ (d : Class). bytes_eq d.name n) (map (class_of_entry (keys_of names)) es) ≡ false
  name_of_none h = named_nowhere (keys_of names) n es (name_looked_up_in_vain (bytes_eq n) names h) below

  pub name_of_some : (o : Option ℕ) → lookup (bytes_eq n) names ≡ Some o → list_any (λ (d : Class). bytes_eq d.name n) (map (class_of_entry (keys_of names)) es) ≡ is_some o
  name_of_some o h =
      let at = place_from_lookup (bytes_eq n) names o h in
      let within : at.0 < length names = slice_get_within names at.0 (at.1, o) at.2 in
      let entry : get_or names at.0 (at.1, o) ≡ (at.1, o) = get_or_from_slice_get names at.0 (at.1, o) (at.1, o) at.2 in
      let is : get_or (keys_of names) at.0 [] ≡ n
      = get_or-map (λ (m : List ℕ × Option ℕ). m.0) names at.0 (at.1, o) [] within ∙ ap (λ (m : List ℕ × Option ℕ). m.0) entry ∙ sym (bytes_same n at.1 at.3) in
      let number : get_or (values_of names) at.0 None ≡ o
      = get_or-map (λ (m : List ℕ × Option ℕ). m.1) names at.0 (at.1, o) None within ∙ ap (λ (m : List ℕ × Option ℕ). m.1) entry in
      let distinct : IsDistinct bytes_eq (keys_of names) = subst (IsDistinct bytes_eq) (table_names (keys_of names) es t.table) (table_distinct _) in
      named_at_place (keys_of names) n at.0 distinct (omega (arith, within, length-map names (λ (m : List ℕ × Option ℕ). m.0))) is es below
      ∙ sym (some_there (λ (d : ClassEntry). d.name == at.0) 0 es)
      ∙ ap is_some (sym (t.numbered at.0) ∙ number)

-- ---- no names

pub empty_table_is_numbered : (names : Names) (es : List ClassEntry) → names ≡ [] → es ≡ [] → IsEntryTable [] [] → IsNumberedTable names es
empty_table_is_numbered names es n e t = subst (λ (ns : Names). IsNumberedTable ns es) (sym n) (subst (IsNumberedTable []) (sym e) record { table = t; numbered = λ i. refl })
