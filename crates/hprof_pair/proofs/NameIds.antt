-- Names of classes and fields by their ids.
use Rattle.std.proofs.Common.{◌≡◌, ℕ, suc, ◌+◌, Bool, true, false, ◌||◌, cond, List, [], ◌∷◌, ◌++◌, Some, refl, sym, ap, subst, ◌∙◌, arith}
use Rattle.std.specs.Prelude.{flat_map, not, slice_get}
use Rattle.std.specs.List.{list_any, position_or_len}
use Rattle.std.specs.Str.{bytes_eq}
use Rattle.std.proofs.lemmas.List.Folds.{list_any-append}
use Rattle.indexmap.specs.IndexSet.{insert_all, insert_key}
use Rattle.heap_class.specs.Classes.{Class, name_table, names_in}
use Rattle.heap_class.proofs.FirstUses.{bytes_same, bytes_self, names_append}

-- ---- names put in one after another

any_stays : (n : List ℕ) (ks : List (List ℕ)) (x : List ℕ) → list_any (bytes_eq n) ks ≡ true → list_any (bytes_eq n) (insert_key bytes_eq ks x) ≡ true
any_stays n ks x there = go (list_any (bytes_eq x) ks)
  where
    go : (b : Bool) → list_any (bytes_eq n) (cond b ks (ks ++ x ∷ [])) ≡ true
    go true = there
    go false = list_any-append (bytes_eq n) ks (x ∷ []) ∙ ap (λ (b : Bool). b || list_any (bytes_eq n) (x ∷ [])) there

all_stay : (n : List ℕ) (ks xs : List (List ℕ)) → list_any (bytes_eq n) ks ≡ true → list_any (bytes_eq n) (insert_all bytes_eq ks xs) ≡ true
all_stay n ks [] there = there
all_stay n ks (x ∷ xs) there = all_stay n (insert_key bytes_eq ks x) xs (any_stays n ks x there)

last_true : (a b : Bool) → b ≡ true → (a || (b || false)) ≡ true
last_true true b is = refl
last_true false true is = refl
last_true false false is = is

put_in_is_there : (ks : List (List ℕ)) (x : List ℕ) → list_any (bytes_eq x) (insert_key bytes_eq ks x) ≡ true
put_in_is_there ks x = go (list_any (bytes_eq x) ks) refl
  where
    go : (b : Bool) → list_any (bytes_eq x) ks ≡ b → list_any (bytes_eq x) (cond b ks (ks ++ x ∷ [])) ≡ true
    go true there = there
    go false new = list_any-append (bytes_eq x) ks (x ∷ []) ∙ last_true (list_any (bytes_eq x) ks) (bytes_eq x x) (bytes_self x)

each_put_in_is_there : (n : List ℕ) (ks xs : List (List ℕ)) → list_any (bytes_eq n) xs ≡ true → list_any (bytes_eq n) (insert_all bytes_eq ks xs) ≡ true
each_put_in_is_there n ks [] there = cc
each_put_in_is_there n ks (x ∷ xs) there = go (bytes_eq n x) refl there (each_put_in_is_there n (insert_key bytes_eq ks x) xs)
  where
    go : (b : Bool) → bytes_eq n x ≡ b → (b || list_any (bytes_eq n) xs) ≡ true → (list_any (bytes_eq n) xs ≡ true → list_any (bytes_eq n) (insert_all bytes_eq (insert_key bytes_eq ks x) xs) ≡ true)
        → list_any (bytes_eq n) (insert_all bytes_eq ks (x ∷ xs)) ≡ true
    go true same h later = all_stay n (insert_key bytes_eq ks x) xs (subst (λ (m : List ℕ). list_any (bytes_eq m) (insert_key bytes_eq ks x) ≡ true) (sym (bytes_same n x same)) (put_in_is_there ks x))
    go false other h later = later h

-- a name of a class or of a field is in the table
pub name_is_in_table : (classes : List Class) (n : List ℕ) → list_any (bytes_eq n) (flat_map names_in classes) ≡ true → list_any (bytes_eq n) (name_table classes) ≡ true
name_is_in_table classes n there = ap (list_any (bytes_eq n)) (names_append [] classes) ∙ each_put_in_is_there n (name_table []) (flat_map names_in classes) there

-- ---- the first of its like

one_more : (n : ℕ) → 1 + n ≡ suc n
one_more n = omega arith

-- the item at the place of the first that passes
pub first_that_passes : {X : Type 0} (p : X → Bool) (xs : List X) → list_any p xs ≡ true → (x : X) × (slice_get xs (position_or_len p xs) ≡ Some x) × (p x ≡ true)
first_that_passes p [] there = cc
first_that_passes {X} p (x ∷ xs) there = go (p x) refl there (first_that_passes p xs)
  where
    go : (b : Bool) → p x ≡ b → (b || list_any p xs) ≡ true → (list_any p xs ≡ true → (y : X) × (slice_get xs (position_or_len p xs) ≡ Some y) × (p y ≡ true))
        → (y : X) × (slice_get (x ∷ xs) (cond (not b) (1 + position_or_len p xs) 0) ≡ Some y) × (p y ≡ true)
    go true is h later = (x, refl, is)
    go false is h later = let r = later h in (r.0, ap (slice_get (x ∷ xs)) (one_more (position_or_len p xs)) ∙ r.1, r.2)

-- so a name is found by its id
pub name_by_id : (classes : List Class) (n : List ℕ) → list_any (bytes_eq n) (flat_map names_in classes) ≡ true → slice_get (name_table classes) (position_or_len (bytes_eq n) (name_table classes)) ≡ Some n
name_by_id classes n there =
    let found = first_that_passes (bytes_eq n) (name_table classes) (name_is_in_table classes n there) in
    found.1 ∙ ap Some (sym (bytes_same n found.0 found.2))
