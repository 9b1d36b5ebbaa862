-- The name of a field stands among the names of a heap, where its id says.
use Rattle.std.proofs.Common.{◌≡◌, ◌∙◌, ◌+◌, ◌-◌, ◌<◌, ◌≤◌, ℕ, suc, Bool, true, false, cond, List, [], ◌∷◌, Option, Some, length, get_or, refl, sym, ap, subst, arith}
use Rattle.std.specs.Prelude.{IfSome, flat_map, not, slice_get, ◌||◌}
use Rattle.std.specs.List.{list_any, position_or_len}
use Rattle.std.specs.Str.{bytes_eq}
use Rattle.std.proofs.lemmas.Option.{get_or_from_slice_get}
use Rattle.heap_class.specs.declared.Field.{Field}
use Rattle.heap_class.specs.Classes.{Class, fields_of, first_uses, name_id, name_table, names_in}
use Rattle.heap_class.proofs.FirstUses.{bytes_same}
use Rattle.heap_class.proofs.Front.{field_name_there, uses_have}
use Rattle.hprof_text.proofs.Loops.{item_of_list_within}

-- where something stands
place_true : (p : List ℕ → Bool) (xs : List (List ℕ)) → list_any p xs ≡ true → (position_or_len p xs < length xs) × (p (get_or xs (position_or_len p xs) []) ≡ true)
place_true p [] h = cc
place_true p (x ∷ xs) h = go (p x) refl (place_true p xs)
  where
    go : (b : Bool) → p x ≡ b → (list_any p xs ≡ true → (position_or_len p xs < length xs) × (p (get_or xs (position_or_len p xs) []) ≡ true))
        → (cond (not b) (1 + position_or_len p xs) 0 < length (x ∷ xs)) × (p (get_or (x ∷ xs) (cond (not b) (1 + position_or_len p xs) 0) []) ≡ true)
    go true e again = (omega arith, e)
    go false e again =
        let r = again (ap (λ b. b || list_any p xs) (sym e) ∙ h) in
        let next : 1 + position_or_len p xs ≡ suc (position_or_len p xs) = omega arith in
        (omega (arith, r.0), subst (λ k. p (get_or (x ∷ xs) k []) ≡ true) (sym next) r.1)

-- ---- the names of fields

name_stands : (cs : List Class) (k i : ℕ) (f : Field) → slice_get (fields_of cs k) i ≡ Some f
    → (position_or_len (bytes_eq f.name) (name_table cs) < length (name_table cs)) × (get_or (name_table cs) (position_or_len (bytes_eq f.name) (name_table cs)) [] ≡ f.name)
unfolding name_table
name_stands cs k i f h =
    let p = place_true (bytes_eq f.name) (first_uses (flat_map names_in cs)) (uses_have f.name (flat_map names_in cs) (field_name_there cs k i f h)) in
    (p.0, sym (bytes_same f.name _ p.1))

-- ---- by its id

id_is : (cs : List Class) (n : ℕ) (o : Option Field) (f : Field) → o ≡ Some f → IfSome o (λ f. n ≡ name_id cs f.name) → n ≡ 1 + position_or_len (bytes_eq f.name) (name_table cs)
unfolding name_id
id_is cs n o f e h = subst (λ (p : Option Field). IfSome p (λ f. n ≡ 1 + position_or_len (bytes_eq f.name) (name_table cs))) e h

pub id_stands : (cs : List Class) (k i n : ℕ) → i < length (fields_of cs k) → IfSome (slice_get (fields_of cs k) i) (λ f. n ≡ name_id cs f.name) → (1 ≤ n) × (n - 1 < length (name_table cs))
id_stands cs k i n lt h =
    let f = item_of_list_within (fields_of cs k) i lt in
    let e = id_is cs n (slice_get (fields_of cs k) i) f.0 f.1 h in
    let s = name_stands cs k i f.0 f.1 in
    (omega (arith, e), omega (arith, e, s.0))

pub named_by_id : (cs : List Class) (k i n : ℕ) (name : List ℕ) → i < length (fields_of cs k) → IfSome (slice_get (fields_of cs k) i) (λ f. n ≡ name_id cs f.name) → slice_get (name_table cs) (n - 1) ≡ Some name → IfSome (slice_get (fields_of cs k) i) (λ f. name ≡ f.name)
named_by_id cs k i n name lt h g =
    let f = item_of_list_within (fields_of cs k) i lt in
    let e = id_is cs n (slice_get (fields_of cs k) i) f.0 f.1 h in
    let s = name_stands cs k i f.0 f.1 in
    let at : n - 1 ≡ position_or_len (bytes_eq f.0.name) (name_table cs) = omega (arith, e) in
    let same : name ≡ f.0.name = sym (get_or_from_slice_get (name_table cs) (n - 1) name [] g) ∙ ap (λ j. get_or (name_table cs) j []) at ∙ s.1 in
    subst (λ (o : Option Field). IfSome o (λ f. name ≡ f.name)) (sym f.1) same
