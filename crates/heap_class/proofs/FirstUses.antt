-- Names in order of first use: they are what a set has into which they are put one after another.
use Rattle.std.proofs.Common.{◌≡◌, ℕ, ◌+◌, ◌<◌, ◌≤◌, Bool, true, false, not, ◌&&◌, ◌||◌, cond, List, [], ◌∷◌, ◌++◌, length, filter, get_or, take, refl, sym, ap, subst, ◌∙◌, arith, append_assoc, length-append}
use Rattle.std.specs.Prelude.{flat_map}
use Rattle.std.specs.Cmp.Lexicographic.{nat_list_eq_equiv}
use Rattle.std.specs.List.{All, IsDistinct, list_any, position_or_len}
use Rattle.std.specs.Str.{bytes_eq}
use Rattle.std.proofs.lemmas.Slice.Eq.{bytes_eq-Decides}
use Rattle.std.proofs.lemmas.List.{append-nil, take_at}
use Rattle.std.proofs.lemmas.List.Elements.{All-push, All-head, All-tail}
use Rattle.std.proofs.lemmas.List.Folds.{list_any-append}
use Rattle.std.proofs.lemmas.Grind.{flat_map-append, fold-append}
use Rattle.std.proofs.lemmas.Map.Keys.{IsDistinct-push, apart_from_distinct}
use Rattle.std.proofs.lemmas.List.Sums.{position_or_len_is}
use Rattle.indexmap.specs.IndexSet.{insert_key, insert_all}
use Rattle.heap_class.specs.Classes.{Class, first_uses, name_table, names_in}

-- ---- equality of names

pub bytes_same : (x y : List ℕ) → bytes_eq x y ≡ true → x ≡ y
bytes_same x y = (bytes_eq-Decides x y).0

pub bytes_self : (x : List ℕ) → bytes_eq x x ≡ true
bytes_self x = nat_list_eq_equiv.refl x

pub bytes_flip : (x y : List ℕ) → bytes_eq x y ≡ bytes_eq y x
bytes_flip x y = nat_list_eq_equiv.symm x y

-- ---- one filter after another

cond_filter : {A : Type 0} (a b : Bool) (x : A) (p : A → Bool) (ys zs : List A) → p x ≡ b → filter p ys ≡ zs → filter p (cond a (x ∷ ys) ys) ≡ cond (a && b) (x ∷ zs) zs
cond_filter true true x p ys zs e h = rw e (ap (λ l. x ∷ l) h)
cond_filter true false x p ys zs e h = rw e h
cond_filter false b x p ys zs e h = h

-- what passes both tests
filter_both : {A : Type 0} (p q r : A → Bool) → ((x : A) → r x ≡ (q x && p x)) → (xs : List A) → filter p (filter q xs) ≡ filter r xs
filter_both p q r h [] = refl
filter_both p q r h (x ∷ xs) =
    cond_filter (q x) (p x) x p (filter q xs) (filter r xs) refl (filter_both p q r h xs)
    ∙ ap (λ b. cond b (x ∷ filter r xs) (filter r xs)) (sym (h x))

-- a test that all pass
filter_all : {A : Type 0} (xs : List A) → filter (λ x. true) xs ≡ xs
filter_all [] = refl
filter_all (x ∷ xs) = ap (λ ys. x ∷ ys) (filter_all xs)

-- ---- names put in one after another

-- whether a list lacks a name
abbrev lacks_name : List (List ℕ) → List ℕ → Bool
lacks_name ks y = not (list_any (bytes_eq y) ks)

lack_of_last_name : (a b : Bool) → not (a || (b || false)) ≡ (not b && not a)
lack_of_last_name true true = refl
lack_of_last_name true false = refl
lack_of_last_name false true = refl
lack_of_last_name false false = refl

-- a list with one more name
lacks_with_one_more_name : (ks : List (List ℕ)) (x y : List ℕ) → lacks_name (ks ++ x ∷ []) y ≡ (not (bytes_eq x y) && lacks_name ks y)
lacks_with_one_more_name ks x y =
    ap not (list_any-append (bytes_eq y) ks (x ∷ []))
    ∙ lack_of_last_name (list_any (bytes_eq y) ks) (bytes_eq y x)
    ∙ ap (λ b. not b && lacks_name ks y) (bytes_flip y x)

-- a list that has x
lacks_with_name_repeated : (ks : List (List ℕ)) (x y : List ℕ) → list_any (bytes_eq x) ks ≡ true → lacks_name ks y ≡ (not (bytes_eq x y) && lacks_name ks y)
lacks_with_name_repeated ks x y h = go (bytes_eq x y) refl
  where
    go : (b : Bool) → bytes_eq x y ≡ b → lacks_name ks y ≡ (not b && lacks_name ks y)
    go true e = ap not (subst (λ z. list_any (bytes_eq z) ks ≡ true) (bytes_same x y e) h)
    go false e = refl

insert_of_name_already_there : (ks : List (List ℕ)) (x : List ℕ) (zs : List (List ℕ)) → list_any (bytes_eq x) ks ≡ true → ks ++ filter (lacks_name ks) zs ≡ ks ++ filter (lacks_name ks) (x ∷ filter (λ y. not (bytes_eq x y)) zs)
insert_of_name_already_there ks x zs h =
    let rest : List (List ℕ) = filter (lacks_name ks) (filter (λ y. not (bytes_eq x y)) zs) in
    ap (λ l. ks ++ l) (sym (filter_both (lacks_name ks) (λ y. not (bytes_eq x y)) (lacks_name ks) (λ y. lacks_with_name_repeated ks x y h) zs)
    ∙ ap (λ b. cond (not b) (x ∷ rest) rest) (sym h))

insert_of_new_name : (ks : List (List ℕ)) (x : List ℕ) (zs : List (List ℕ)) → list_any (bytes_eq x) ks ≡ false → (ks ++ x ∷ []) ++ filter (lacks_name (ks ++ x ∷ [])) zs ≡ ks ++ filter (lacks_name ks) (x ∷ filter (λ y. not (bytes_eq x y)) zs)
insert_of_new_name ks x zs h =
    let rest : List (List ℕ) = filter (lacks_name ks) (filter (λ y. not (bytes_eq x y)) zs) in
    append_assoc ks (x ∷ []) (filter (lacks_name (ks ++ x ∷ [])) zs)
    ∙ ap (λ l. ks ++ l) (ap (λ l. x ∷ l) (sym (filter_both (lacks_name ks) (λ y. not (bytes_eq x y)) (lacks_name (ks ++ x ∷ [])) (lacks_with_one_more_name ks x) zs))
    ∙ ap (λ b. cond (not b) (x ∷ rest) rest) (sym h))

-- what a list has into which names are put
inserted_names_are_first_uses : (ks xs : List (List ℕ)) → insert_all bytes_eq ks xs ≡ ks ++ filter (lacks_name ks) (first_uses xs)
unfolding first_uses
inserted_names_are_first_uses ks [] = sym (append-nil ks)
inserted_names_are_first_uses ks (x ∷ xs) = go (list_any (bytes_eq x) ks) refl (inserted_names_are_first_uses ks xs) (inserted_names_are_first_uses (ks ++ x ∷ []) xs)
  where
    go : (b : Bool) → list_any (bytes_eq x) ks ≡ b → insert_all bytes_eq ks xs ≡ ks ++ filter (lacks_name ks) (first_uses xs)
        → insert_all bytes_eq (ks ++ x ∷ []) xs ≡ (ks ++ x ∷ []) ++ filter (lacks_name (ks ++ x ∷ [])) (first_uses xs)
        → insert_all bytes_eq (cond b ks (ks ++ x ∷ [])) xs ≡ ks ++ filter (lacks_name ks) (x ∷ filter (λ y. not (bytes_eq x y)) (first_uses xs))
    go true e there new = there ∙ insert_of_name_already_there ks x (first_uses xs) e
    go false e there new = new ∙ insert_of_new_name ks x (first_uses xs) e

table_inserted : (cs : List Class) → name_table cs ≡ insert_all bytes_eq [] (flat_map names_in cs)
unfolding name_table
table_inserted cs = sym (inserted_names_are_first_uses [] (flat_map names_in cs) ∙ filter_all (first_uses (flat_map names_in cs)))

-- the names with those of further classes
pub names_append : (cs ds : List Class) → name_table (cs ++ ds) ≡ insert_all bytes_eq (name_table cs) (flat_map names_in ds)
names_append cs ds =
    table_inserted (cs ++ ds)
    ∙ ap (insert_all bytes_eq []) (flat_map-append names_in cs ds)
    ∙ fold-append (insert_key bytes_eq) [] (flat_map names_in cs) (flat_map names_in ds)
    ∙ ap (λ t. insert_all bytes_eq t (flat_map names_in ds)) (sym (table_inserted cs))

-- and with those of one
pub names_more : (cs : List Class) (c : Class) → name_table (cs ++ c ∷ []) ≡ insert_all bytes_eq (name_table cs) (names_in c)
names_more cs c = names_append cs (c ∷ []) ∙ ap (insert_all bytes_eq (name_table cs)) (append-nil (names_in c))

-- ---- what stays and what is new

pub inserted_prefix : (ks xs : List (List ℕ)) → take (length ks) (insert_all bytes_eq ks xs) ≡ ks
inserted_prefix ks xs = ap (take (length ks)) (inserted_names_are_first_uses ks xs) ∙ take_at ks (filter (lacks_name ks) (first_uses xs)) (length ks) refl

pub inserted_longer : (ks xs : List (List ℕ)) → length ks ≤ length (insert_all bytes_eq ks xs)
inserted_longer ks xs = omega (arith, ap length (inserted_names_are_first_uses ks xs), length-append ks (filter (lacks_name ks) (first_uses xs)))

key_length : (ks : List (List ℕ)) (x : List ℕ) → length (insert_key bytes_eq ks x) ≤ length ks + 1
key_length ks x = go (list_any (bytes_eq x) ks)
  where
    go : (b : Bool) → length (cond b ks (ks ++ x ∷ [])) ≤ length ks + 1
    go true = omega arith
    go false = omega (arith, length-append ks (x ∷ []))

pub inserted_names_add_no_more : (ks xs : List (List ℕ)) → length (insert_all bytes_eq ks xs) ≤ length ks + length xs
inserted_names_add_no_more ks [] = omega arith
inserted_names_add_no_more ks (x ∷ xs) = omega (arith, inserted_names_add_no_more (insert_key bytes_eq ks x) xs, key_length ks x)

key_distinct : (ks : List (List ℕ)) (x : List ℕ) → IsDistinct bytes_eq ks → IsDistinct bytes_eq (insert_key bytes_eq ks x)
key_distinct ks x h = go (list_any (bytes_eq x) ks) refl
  where
    go : (b : Bool) → list_any (bytes_eq x) ks ≡ b → IsDistinct bytes_eq (cond b ks (ks ++ x ∷ []))
    go true e = h
    go false e = IsDistinct-push nat_list_eq_equiv ks x h e

inserted_names_are_distinct : (ks xs : List (List ℕ)) → IsDistinct bytes_eq ks → IsDistinct bytes_eq (insert_all bytes_eq ks xs)
inserted_names_are_distinct ks [] h = h
inserted_names_are_distinct ks (x ∷ xs) h = inserted_names_are_distinct (insert_key bytes_eq ks x) xs (key_distinct ks x h)

-- no name stands twice
pub table_distinct : (cs : List Class) → IsDistinct bytes_eq (name_table cs)
unfolding IsDistinct
table_distinct cs = subst (IsDistinct bytes_eq) (sym (table_inserted cs)) (inserted_names_are_distinct [] (flat_map names_in cs) tt)

key_all : (P : List ℕ → Type 0) (ks : List (List ℕ)) (x : List ℕ) → All P ks → P x → All P (insert_key bytes_eq ks x)
key_all P ks x h p = go (list_any (bytes_eq x) ks)
  where
    go : (b : Bool) → All P (cond b ks (ks ++ x ∷ []))
    go true = h
    go false = All-push P ks x h p

pub inserted_names_all_pass : (P : List ℕ → Type 0) (ks xs : List (List ℕ)) → All P ks → All P xs → All P (insert_all bytes_eq ks xs)
inserted_names_all_pass P ks [] h k = h
inserted_names_all_pass P ks (x ∷ xs) h k = inserted_names_all_pass P (insert_key bytes_eq ks x) xs (key_all P ks x h (All-head P x xs k)) (All-tail P x xs k)

-- where a name stands
pub position_is : (ks : List (List ℕ)) (i : ℕ) → IsDistinct bytes_eq ks → i < length ks → position_or_len (bytes_eq (get_or ks i [])) ks ≡ i
position_is ks i h lt =
    position_or_len_is (bytes_eq (get_or ks i [])) ks i [] (omega arith)
    (λ k l. bytes_flip (get_or ks i []) (get_or ks k []) ∙ apart_from_distinct bytes_eq ks k i [] h l lt)
    (λ l. bytes_self (get_or ks i []))
