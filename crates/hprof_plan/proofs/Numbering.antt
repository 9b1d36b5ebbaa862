-- Classes of a dump that have a number, one after another.
use Rattle.std.proofs.Common.{◌≡◌, ℕ, zero, suc, ◌+◌, ◌-◌, ◌<◌, ◌≤◌, Bool, true, false, cond, ◌&&◌, List, [], ◌∷◌, ◌++◌, length, get_or, take, reverse, slice_get, Option, Some, None, is_some, refl, sym, ap, ◌∙◌, append_assoc, arith}
use Rattle.std.specs.Prelude.{fold, flat_map, nat_eq, nat_lt}
use Rattle.std.specs.List.{list_all, list_any}
use Rattle.std.specs.Map.{keys_of, lookup}
use Rattle.std.specs.Option.{option_map, option_map_or}
use Rattle.std.proofs.Math.Bool.{and-false}
use Rattle.std.proofs.Math.Seq.{take-nil}
use Rattle.std.proofs.lemmas.Bool.{and_parts, and_from, le-ltb, lt-ltb, ltb-false, ltb-true}
use Rattle.std.proofs.lemmas.Grind.{flat_map-append}
use Rattle.std.proofs.lemmas.List.{append-nil, length-append, length-take, reverse-append, take-append-le, take_all, take_more}
use Rattle.std.proofs.lemmas.List.Folds.{list_all-append}
use Rattle.std.proofs.lemmas.List.Sums.{fold-append}
use Rattle.std.proofs.lemmas.Map.Entries.{length-keys_of}
use Rattle.std.proofs.lemmas.Map.Made.{keys_of-map_values, lookup-map_values}
use Rattle.std.proofs.lemmas.Option.{get_or_from_slice_get, slice_get-map, slice_get_within}
use Rattle.indexmap.specs.IndexSet.{insert_all as insert_keys, insert_key}
use Rattle.hprof_reader.specs.SubRecords.{ClassTold, class_told}
use Rattle.hprof_reader.specs.declared.class_dumps.ClassDump.{ClassDump}
use Rattle.hprof_plan.specs.Tables.{classes_told}
use Rattle.hprof_plan.specs.Numbers.{numbered, upwards, with_number, with_numbers}

-- ---- the first of a list

module _ {X : Type 0} where
  pub first_and_one : (n : ℕ) (xs : List X) (x : X) → length (take n xs) < n → take n (xs ++ x ∷ []) ≡ take n xs ++ x ∷ []
  first_and_one n xs x few =
      let short : length xs < n = omega (arith, few, length-take n xs) in
      take_all n (xs ++ x ∷ []) (omega (arith, short, length-append xs (x ∷ [])))
      ∙ ap (λ (t : List X). t ++ x ∷ []) (sym (take_all n xs (omega (arith, short))))

  pub first_are_full : (n : ℕ) (xs : List X) (x : X) → n ≤ length (take n xs) → take n (xs ++ x ∷ []) ≡ take n xs
  first_are_full n xs x full = take-append-le n xs (x ∷ []) (omega (arith, full, length-take n xs))

  pub one_taken : (xs : List X) (i : ℕ) (x : X) → Some x ≡ slice_get xs i → take (i + 1) xs ≡ take i xs ++ x ∷ []
  one_taken xs i x at =
      take_more xs i x (slice_get_within xs i x (sym at)) ∙ ap (λ (y : X). take i xs ++ y ∷ []) (get_or_from_slice_get xs i x x (sym at))

-- ---- one number more

module _ (room : ℕ) (classes : List (ℕ × ClassTold)) where
  abbrev is_there : ℕ → Bool
  is_there id = is_some (lookup (nat_eq id) classes)

  abbrev chosen : Bool → List ℕ → ℕ → List ℕ
  chosen b ids id = cond b (insert_key nat_eq ids id) ids

  pub no_number_if_full : (ids : List ℕ) (id : ℕ) → room ≤ length ids → with_number room classes ids id ≡ ids
  no_number_if_full ids id full = ap (λ (b : Bool). chosen (b && is_there id) ids id) (le-ltb (length ids) room full)

  pub no_number_if_lacking : (ids : List ℕ) (id : ℕ) → is_some (lookup (nat_eq id) classes) ≡ false → with_number room classes ids id ≡ ids
  no_number_if_lacking ids id lacking =
      ap (λ (b : Bool). chosen (nat_lt (length ids) room && b) ids id) lacking ∙ ap (λ (b : Bool). chosen b ids id) (and-false (nat_lt (length ids) room))

  pub no_number_if_numbered : (ids : List ℕ) (id : ℕ) → list_any (nat_eq id) ids ≡ true → with_number room classes ids id ≡ ids
  no_number_if_numbered ids id there = by (nat_lt (length ids) room && is_there id)
    where
      by : (b : Bool) → chosen b ids id ≡ ids
      by true = ap (λ (c : Bool). cond c ids (ids ++ id ∷ [])) there
      by false = refl

  number_if_there : (ids : List ℕ) (id : ℕ) → length ids < room → is_there id ≡ true → with_number room classes ids id ≡ insert_key nat_eq ids id
  number_if_there ids id few there =
      ap (λ (b : Bool). chosen (b && is_there id) ids id) (lt-ltb (length ids) room few) ∙ ap (λ (b : Bool). chosen b ids id) there

  pub next_number : (ids : List ℕ) (id : ℕ) → length ids < room → is_some (lookup (nat_eq id) classes) ≡ true → list_any (nat_eq id) ids ≡ false
      → with_number room classes ids id ≡ ids ++ id ∷ []
  next_number ids id few there new = number_if_there ids id few there ∙ ap (λ (c : Bool). cond c ids (ids ++ id ∷ [])) new

  -- ---- as many as there is room for

  inserted_few : (ids : List ℕ) (id : ℕ) → length ids < room → length (insert_key nat_eq ids id) ≤ room
  inserted_few ids id few = by (list_any (nat_eq id) ids)
    where
      by : (c : Bool) → length (cond c ids (ids ++ id ∷ [])) ≤ room
      by true = omega (arith, few)
      by false = omega (arith, few, length-append ids (id ∷ []))

  first_numbered : (ids : List ℕ) (id : ℕ) → is_there id ≡ true → with_number room classes (take room ids) id ≡ take room (insert_key nat_eq ids id)
  first_numbered ids id there = by (nat_lt (length (take room ids)) room) refl
    where
      past : room ≤ length (take room ids) → (c : Bool) → take room ids ≡ take room (cond c ids (ids ++ id ∷ []))
      past full true = refl
      past full false = sym (first_are_full room ids id full)

      by : (b : Bool) → nat_lt (length (take room ids)) room ≡ b → with_number room classes (take room ids) id ≡ take room (insert_key nat_eq ids id)
      by true h =
          let few = ltb-true (length (take room ids)) room h in
          let short : length ids < room = omega (arith, few, length-take room ids) in
          number_if_there (take room ids) id few there
          ∙ ap (λ (ks : List ℕ). insert_key nat_eq ks id) (take_all room ids (omega (arith, short)))
          ∙ sym (take_all room (insert_key nat_eq ids id) (inserted_few ids id short))
      by false h =
          let full = ltb-false (length (take room ids)) room h in
          no_number_if_full (take room ids) id full ∙ past full (list_any (nat_eq id) ids)

  all_numbered : (ids more : List ℕ) → list_all is_there more ≡ true → with_numbers room classes (take room ids) more ≡ take room (insert_keys nat_eq ids more)
  unfolding with_numbers
  all_numbered ids [] all = refl
  all_numbered ids (id ∷ more) all =
      let both = and_parts (is_there id) (list_all is_there more) all in
      ap (λ (ks : List ℕ). fold (with_number room classes) ks more) (first_numbered ids id both.0)
      ∙ all_numbered (insert_key nat_eq ids id) more both.1

  pub no_numbers_if_full : (ids more : List ℕ) → room ≤ length ids → with_numbers room classes ids more ≡ ids
  unfolding with_numbers
  no_numbers_if_full ids [] full = refl
  no_numbers_if_full ids (id ∷ more) full =
      ap (λ (ks : List ℕ). fold (with_number room classes) ks more) (no_number_if_full ids id full) ∙ no_numbers_if_full ids more full

  pub no_numbers_more : (ids : List ℕ) → with_numbers room classes ids [] ≡ ids
  unfolding with_numbers
  no_numbers_more ids = refl

  pub numbers_and_one : (ids more : List ℕ) (id : ℕ) → with_numbers room classes ids (more ++ id ∷ []) ≡ with_number room classes (with_numbers room classes ids more) id
  unfolding with_numbers
  numbers_and_one ids more id = fold-append (with_number room classes) ids more (id ∷ [])

  pub numbers_and_more : (ids more others : List ℕ) → with_numbers room classes ids (more ++ others) ≡ with_numbers room classes (with_numbers room classes ids more) others
  unfolding with_numbers
  numbers_and_more ids more others = fold-append (with_number room classes) ids more others

  -- ---- each after its supers

  upwards_there : (n id : ℕ) → list_all is_there (upwards classes n id) ≡ true
  unfolding upwards
  upwards_there zero id = refl
  upwards_there (suc n) id = by (λ k. upwards_there n k) (lookup (nat_eq id) classes) refl
    where
      by : ((k : ℕ) → list_all is_there (upwards classes n k) ≡ true) → (o : Option ClassTold) → lookup (nat_eq id) classes ≡ o
          → list_all is_there (option_map_or (λ (c : ClassTold). id ∷ upwards classes n c.head.super_id) o []) ≡ true
      by above None h = refl
      by above (Some c) h = and_from _ _ (ap is_some h) (above c.head.super_id)

  reversed_there : (ids : List ℕ) → list_all is_there ids ≡ true → list_all is_there (reverse ids) ≡ true
  reversed_there [] all = refl
  reversed_there (id ∷ ids) all =
      let both = and_parts (is_there id) (list_all is_there ids) all in
      ap (list_all is_there) (reverse-append (id ∷ []) ids)
      ∙ list_all-append is_there (reverse ids) (id ∷ [])
      ∙ and_from _ _ (reversed_there ids both.1) (and_from _ _ both.0 refl)

  abbrev pub after_supers : ℕ → List ℕ
  after_supers id = reverse (upwards classes room id)

  lines_there : (ids : List ℕ) → list_all is_there (flat_map after_supers ids) ≡ true
  lines_there [] = refl
  lines_there (id ∷ ids) =
      list_all-append is_there (after_supers id) (flat_map after_supers ids)
      ∙ and_from _ _ (reversed_there (upwards classes room id) (upwards_there room id)) (lines_there ids)

  pub numbers_are : with_numbers room classes [] (flat_map after_supers (keys_of classes)) ≡ numbered room classes
  unfolding numbered
  numbers_are =
      ap (λ (ks : List ℕ). with_numbers room classes ks (flat_map after_supers (keys_of classes))) (sym (take-nil room))
      ∙ all_numbered [] (flat_map after_supers (keys_of classes)) (lines_there (keys_of classes))

  opened_line : (ids : List ℕ) (i id : ℕ) → slice_get ids i ≡ Some id
      → with_numbers room classes [] (flat_map after_supers (take (i + 1) ids))
      ≡ with_numbers room classes (with_numbers room classes [] (flat_map after_supers (take i ids))) (after_supers id)
  opened_line ids i id at =
      ap (λ (l : List ℕ). with_numbers room classes [] (flat_map after_supers l)) (one_taken ids i id (sym at))
      ∙ ap (with_numbers room classes []) (flat_map-append after_supers (take i ids) (id ∷ []) ∙ ap (λ (l : List ℕ). flat_map after_supers (take i ids) ++ l) (append-nil (after_supers id)))
      ∙ numbers_and_more [] (flat_map after_supers (take i ids)) (after_supers id)

  pub next_numbered : (old ids keys new : List ℕ) (i : ℕ) → i < length ids → keys ≡ with_numbers room classes old (take i ids)
      → new ≡ with_number room classes keys (get_or ids i 0) → new ≡ with_numbers room classes old (take (i + 1) ids)
  next_numbered old ids keys new i less so_far more =
      more ∙ ap (λ (ks : List ℕ). with_number room classes ks (get_or ids i 0)) so_far
      ∙ sym (numbers_and_one old (take i ids) (get_or ids i 0)) ∙ ap (with_numbers room classes old) (sym (take_more ids i 0 less))

  pub next_line : (ids keys new : List ℕ) (i id : ℕ) → slice_get ids i ≡ Some id → keys ≡ with_numbers room classes [] (flat_map after_supers (take i ids))
      → new ≡ with_numbers room classes keys (after_supers id) → new ≡ with_numbers room classes [] (flat_map after_supers (take (i + 1) ids))
  next_line ids keys new i id at so_far more =
      more ∙ ap (λ (ks : List ℕ). with_numbers room classes ks (after_supers id)) so_far ∙ sym (opened_line ids i id at)

  pub all_lines : (ids keys : List ℕ) (i : ℕ) → length ids ≤ i → ids ≡ keys_of classes → keys ≡ with_numbers room classes [] (flat_map after_supers (take i ids))
      → keys ≡ numbered room classes
  all_lines ids keys i past are so_far =
      so_far ∙ ap (λ (l : List ℕ). with_numbers room classes [] (flat_map after_supers l)) (take_all i ids past ∙ are) ∙ numbers_are

-- ---- a class, by its id

pub class_found : (es : List (ℕ × ClassDump)) (id : ℕ) (d : ClassDump) → Some d ≡ lookup (nat_eq id) es → lookup (nat_eq id) (classes_told es) ≡ Some (class_told d)
class_found es id d h = lookup-map_values class_told (nat_eq id) es ∙ ap (option_map class_told) (sym h)

pub class_lacking : (es : List (ℕ × ClassDump)) (id : ℕ) → None ≡ lookup (nat_eq id) es → lookup (nat_eq id) (classes_told es) ≡ None
class_lacking es id h = lookup-map_values class_told (nat_eq id) es ∙ ap (option_map class_told) (sym h)

pub id_nth : (es : List (ℕ × ClassDump)) (i id : ℕ) (d : ClassDump) → Some (id, d) ≡ slice_get es i → slice_get (keys_of (classes_told es)) i ≡ Some id
id_nth es i id d h = ap (λ (ks : List ℕ). slice_get ks i) (keys_of-map_values class_told es) ∙ slice_get-map (λ (e : ℕ × ClassDump). e.0) es i ∙ ap (option_map (λ (e : ℕ × ClassDump). e.0)) (sym h)

pub as_many_ids : (es : List (ℕ × ClassDump)) → length (keys_of (classes_told es)) ≡ length es
as_many_ids es = ap length (keys_of-map_values class_told es) ∙ length-keys_of es

-- ---- upwards, class by class

module _ (classes : List (ℕ × ClassTold)) where
  opened : (n i id : ℕ) (o : Option ClassTold) → i < n → lookup (nat_eq id) classes ≡ o
      → upwards classes (n - i) id ≡ option_map_or (λ (c : ClassTold). id ∷ upwards classes (n - (i + 1)) c.head.super_id) o []
  unfolding upwards
  opened n i id o less h =
      let k : n - i ≡ suc (n - (i + 1)) = omega (arith, less) in
      ap (λ (m : ℕ). upwards classes m id) k ∙ ap (λ (x : Option ClassTold). option_map_or (λ (c : ClassTold). id ∷ upwards classes (n - (i + 1)) c.head.super_id) x []) h

  pub one_up : (n i id : ℕ) (c : ClassTold) (line all : List ℕ) → i < n → lookup (nat_eq id) classes ≡ Some c → line ++ upwards classes (n - i) id ≡ all
      → (line ++ id ∷ []) ++ upwards classes (n - (i + 1)) c.head.super_id ≡ all
  one_up n i id c line all less h so_far =
      append_assoc line (id ∷ []) (upwards classes (n - (i + 1)) c.head.super_id)
      ∙ ap (λ (t : List ℕ). line ++ t) (sym (opened n i id (Some c) less h)) ∙ so_far

  pub top_reached : (n i id : ℕ) (line all : List ℕ) → i < n → lookup (nat_eq id) classes ≡ None → line ++ upwards classes (n - i) id ≡ all → line ≡ all
  top_reached n i id line all less h so_far =
      sym (append-nil line) ∙ ap (λ (t : List ℕ). line ++ t) (sym (opened n i id None less h)) ∙ so_far

  pub most_reached : (n i id : ℕ) (line all : List ℕ) → n ≤ i → line ++ upwards classes (n - i) id ≡ all → line ≡ all
  unfolding upwards
  most_reached n i id line all past so_far =
      let k : n - i ≡ 0 = omega (arith, past) in
      sym (append-nil line) ∙ ap (λ (t : List ℕ). line ++ t) (sym (ap (λ (m : ℕ). upwards classes m id) k)) ∙ so_far
