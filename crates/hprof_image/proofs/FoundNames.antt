-- Names and classes are found by their ids.
use Rattle.std.proofs.Common.{◌≡◌, ℕ, zero, suc, ◌+◌, ◌||◌, Bool, true, false, not, cond, List, [], ◌∷◌, map, Option, Some, refl, sym, ap, ap₂, ◌∙◌, arith}
use Rattle.std.specs.Prelude.{flat_map, slice_get}
use Rattle.std.specs.List.{AllByRecursion, enumerate_from, position_or_len, list_any}
use Rattle.std.specs.Str.{bytes_eq}
use Rattle.std.proofs.lemmas.Bool.{eq-eqb, ne_eqb, or_left, or_right}
use Rattle.heap_class.specs.declared.Field.{Field}
use Rattle.heap_class.specs.Classes.{Class, names_in, first_uses, name_table, name_id}
use Rattle.heap_class.proofs.FirstUses.{bytes_same, bytes_self}
use Rattle.heap_class.proofs.Front.{any_of_first_part, any_of_second_part, uses_have}
use Rattle.hprof_text.specs.Text.{class_id}
use Rattle.hprof_image.specs.Parts.{found}

-- ---- entries by their numbers

pub numbered_entry_is_found : {A B : Type 0} (key : ℕ → ℕ) (value : ℕ × A → B) → ((a b : ℕ) → key a ≡ key b → a ≡ b) → (xs : List A) (k i n : ℕ) (x : A) → n ≡ i + k → slice_get xs k ≡ Some x → found (map (λ e. (key e.0, value e)) (enumerate_from i xs)) (key n) ≡ Some (value (n, x))
numbered_entry_is_found key value apart [] k i n x place there = absurd cc
numbered_entry_is_found {A = A} {B = B} key value apart (y ∷ ys) zero i n x place there =
    let same : n ≡ i = omega (arith, place) in
    let item : y ≡ x = cc in
    rw (eq-eqb (key n) (key i) (ap key same)) (ap₂ (λ (m : ℕ) (z : A). Some (value (m, z))) (sym same) item)
numbered_entry_is_found key value apart (y ∷ ys) (suc k) i n x place there =
    rw (ne_eqb (key n) (key i) (λ e. let same : n ≡ i = apart n i e in absurd (omega (arith, place, same)))) (numbered_entry_is_found key value apart ys k (i + 1) n x (omega (arith, place)) there)

pub class_ids_apart : (a b : ℕ) → class_id a ≡ class_id b → a ≡ b
class_ids_apart a b e = omega (arith, e)

-- ---- a name in a list

item_after_first : {A : Type 0} (x : A) (xs : List A) (k m : ℕ) (r : Option A) → k ≡ 1 + m → slice_get xs m ≡ r → slice_get (x ∷ xs) k ≡ r
item_after_first x xs zero m r e h = absurd (omega (arith, e))
item_after_first x xs (suc k) m r e h = let same : k ≡ m = omega (arith, e) in ap (slice_get xs) same ∙ h

pub name_stands_at_its_first_place : (n : List ℕ) (xs : List (List ℕ)) → list_any (bytes_eq n) xs ≡ true → slice_get xs (position_or_len (bytes_eq n) xs) ≡ Some n
name_stands_at_its_first_place n [] there = absurd cc
name_stands_at_its_first_place n (x ∷ xs) there = by_test (bytes_eq n x) refl there (name_stands_at_its_first_place n xs)
  where
    by_test : (b : Bool) → bytes_eq n x ≡ b → (b || list_any (bytes_eq n) xs) ≡ true → (list_any (bytes_eq n) xs ≡ true → slice_get xs (position_or_len (bytes_eq n) xs) ≡ Some n)
        → slice_get (x ∷ xs) (cond (not b) (1 + position_or_len (bytes_eq n) xs) 0) ≡ Some n
    by_test true same there later = ap (λ (y : List ℕ). Some y) (sym (bytes_same n x same))
    by_test false other there later = item_after_first x xs (1 + position_or_len (bytes_eq n) xs) (position_or_len (bytes_eq n) xs) (Some n) refl (later there)

name_of_class_is_among_all : (n : List ℕ) (classes : List Class) (k : ℕ) (c : Class) → slice_get classes k ≡ Some c → list_any (bytes_eq n) (names_in c) ≡ true → list_any (bytes_eq n) (flat_map names_in classes) ≡ true
name_of_class_is_among_all n [] k c stands there = absurd cc
name_of_class_is_among_all n (d ∷ classes) zero c stands there =
    let same : d ≡ c = cc in any_of_first_part (bytes_eq n) (names_in d) (flat_map names_in classes) (ap (λ (d : Class). list_any (bytes_eq n) (names_in d)) same ∙ there)
name_of_class_is_among_all n (d ∷ classes) (suc k) c stands there =
    any_of_second_part (bytes_eq n) (names_in d) (flat_map names_in classes) (name_of_class_is_among_all n classes k c stands there)

-- ---- the names of a class

-- the entries of the names of a dump
abbrev pub name_entries : List Class → List (ℕ × List ℕ)
name_entries classes = map (λ e. (e.0, e.1)) (enumerate_from 1 (name_table classes))

pub name_of_class_is_found : (classes : List Class) (k : ℕ) (c : Class) (n : List ℕ) → slice_get classes k ≡ Some c → list_any (bytes_eq n) (names_in c) ≡ true → found (name_entries classes) (name_id classes n) ≡ Some n
unfolding name_id name_table
name_of_class_is_found classes k c n stands there =
    let names = first_uses (flat_map names_in classes) in
    numbered_entry_is_found (λ i. i) (λ (e : ℕ × List ℕ). e.1) (λ a b e. e) names (position_or_len (bytes_eq n) names) 1 (1 + position_or_len (bytes_eq n) names) n refl
    (name_stands_at_its_first_place n names (uses_have n (flat_map names_in classes) (name_of_class_is_among_all n classes k c stands there)))

pub own_name_is_in_class : (c : Class) → list_any (bytes_eq c.name) (names_in c) ≡ true
unfolding names_in
own_name_is_in_class c = or_left (bytes_eq c.name c.name) _ (bytes_self c.name)

pub all_by_recursion_of_weaker : {A : Type 0} (P Q : A → Type 0) → ((x : A) → P x → Q x) → (xs : List A) → AllByRecursion P xs → AllByRecursion Q xs
all_by_recursion_of_weaker P Q weaker [] all = tt
all_by_recursion_of_weaker P Q weaker (x ∷ xs) all = (weaker x all.0, all_by_recursion_of_weaker P Q weaker xs all.1)

field_names_are_among_theirs : (fs : List Field) → AllByRecursion (λ f. list_any (bytes_eq f.name) (map (λ f. f.name) fs) ≡ true) fs
field_names_are_among_theirs [] = tt
field_names_are_among_theirs (f ∷ fs) = (
  or_left (bytes_eq f.name f.name) _ (bytes_self f.name),
  all_by_recursion_of_weaker (λ g. list_any (bytes_eq g.name) (map (λ f. f.name) fs) ≡ true) _ (λ g there. or_right (bytes_eq g.name f.name) _ there) fs (field_names_are_among_theirs fs),
)

pub field_names_are_in_class : (c : Class) → AllByRecursion (λ f. list_any (bytes_eq f.name) (names_in c) ≡ true) c.fields
unfolding names_in
field_names_are_in_class c = all_by_recursion_of_weaker (λ f. list_any (bytes_eq f.name) (map (λ f. f.name) c.fields) ≡ true) _ (λ f there. or_right (bytes_eq f.name c.name) _ there) c.fields (field_names_are_among_theirs c.fields)
