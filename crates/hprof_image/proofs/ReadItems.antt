-- Items one after another are read as they are spelled.
use Rattle.std.proofs.Common.{◌≡◌, ℕ, zero, suc, ◌+◌, ◌≤◌, List, [], ◌∷◌, ◌++◌, length, length-append, map, Option, Some, None, Result, Ok, refl, sym, ap, ap₂, ◌∙◌, arith}
use Rattle.std.specs.Prelude.{flat_map, filter_map}
use Rattle.std.specs.List.{AllByRecursion, concat, enumerate_from}
use Rattle.std.specs.Result.{result_ok}
use Rattle.hprof_reader.specs.declared.fault.Fault.{Fault}
use Rattle.hprof_reader.proofs.Readers.{IsReader}
use Rattle.hprof_image.specs.Items.{◌>>=◌, items_at, items_in, all_there}

-- ---- up to the end of bytes

first_item_and_rest_are_read : {A : Type 0} (read : List ℕ → Result (A × List ℕ) Fault) (n : ℕ) (bytes : List ℕ) (x : A) (rest : List ℕ) (xs : List A) → 1 ≤ length bytes → read bytes ≡ Ok (x, rest) → items_at read n rest ≡ Some xs
    → items_at read (suc n) bytes ≡ Some (x ∷ xs)
unfolding items_at
first_item_and_rest_are_read read n [] x rest xs some first more = absurd (omega (arith, some))
first_item_and_rest_are_read {A = A} read n (b ∷ bytes) x rest xs some first more =
    ap (λ (r : Result (A × List ℕ) Fault). result_ok r >>= λ y. items_at read n y.1 >>= λ ys. Some (y.0 ∷ ys)) first ∙ ap (λ (o : Option (List A)). o >>= λ ys. Some (x ∷ ys)) more

pub spelled_items_are_read_in_steps : {A : Type 0} (text : A → List ℕ) (fits : A → Type 0) (read : List ℕ → Result (A × List ℕ) Fault) → IsReader text fits read → ((x : A) → 1 ≤ length (text x)) → (xs : List A) (n : ℕ) → AllByRecursion fits xs
    → length (flat_map text xs) ≤ n → items_at read n (flat_map text xs) ≡ Some xs
unfolding items_at
spelled_items_are_read_in_steps text fits read reader some [] n each few = refl
spelled_items_are_read_in_steps text fits read reader some (x ∷ xs) zero each few = absurd (omega (arith, length-append (text x) (flat_map text xs), some x, few))
spelled_items_are_read_in_steps text fits read reader some (x ∷ xs) (suc n) each few =
    let size = length-append (text x) (flat_map text xs) in
    first_item_and_rest_are_read read n (text x ++ flat_map text xs) x (flat_map text xs) xs (omega (arith, size, some x)) (reader.again x (flat_map text xs) each.0)
    (spelled_items_are_read_in_steps text fits read reader some xs n each.1 (omega (arith, size, some x, few)))

pub spelled_items_are_read : {A : Type 0} (text : A → List ℕ) (fits : A → Type 0) (read : List ℕ → Result (A × List ℕ) Fault) → IsReader text fits read → ((x : A) → 1 ≤ length (text x)) → (xs : List A) → AllByRecursion fits xs → items_in read (flat_map text xs) ≡ Some xs
spelled_items_are_read text fits read reader some xs each = spelled_items_are_read_in_steps text fits read reader some xs (length (flat_map text xs)) each (omega arith)

-- ---- values that are all there

pub values_of_parts_are_all_there : {A B C : Type 0} (value : B → Option C) (part : A → B) (told : A → C) (P : A → Type 0) → ((x : A) → P x → value (part x) ≡ Some (told x)) → (xs : List A) → AllByRecursion P xs → all_there (map value (map part xs)) ≡ Some (map told xs)
unfolding all_there
values_of_parts_are_all_there value part told P each [] all = refl
values_of_parts_are_all_there {C = C} value part told P each (x ∷ xs) all =
    ap (λ (o : Option C). o >>= λ y. all_there (map value (map part xs)) >>= λ ys. Some (y ∷ ys)) (each x all.0)
    ∙ ap (λ (o : Option (List C)). o >>= λ ys. Some (told x ∷ ys)) (values_of_parts_are_all_there value part told P each xs all.1)

pub given_values_are_all_there : {A : Type 0} (xs : List A) → all_there (map (λ x. Some x) xs) ≡ Some xs
unfolding all_there
given_values_are_all_there [] = refl
given_values_are_all_there {A = A} (x ∷ xs) = ap (λ (o : Option (List A)). o >>= λ ys. Some (x ∷ ys)) (given_values_are_all_there xs)

-- ---- what some items have and others have not

pub each_item_is_kept : {A B C : Type 0} (value : B → Option C) (part : A → B) (told : A → C) (P : A → Type 0) → ((x : A) → P x → value (part x) ≡ Some (told x)) → (xs : List A) → AllByRecursion P xs → filter_map value (map part xs) ≡ map told xs
each_item_is_kept value part told P each [] all = refl
each_item_is_kept value part told P each (x ∷ xs) all = rw (each x all.0) (ap (λ (ys : List _). told x ∷ ys) (each_item_is_kept value part told P each xs all.1))

pub no_item_is_kept : {A B C : Type 0} (value : B → Option C) (part : A → B) → ((x : A) → value (part x) ≡ None) → (xs : List A) → filter_map value (map part xs) ≡ []
no_item_is_kept value part each [] = refl
no_item_is_kept value part each (x ∷ xs) = rw (each x) (no_item_is_kept value part each xs)

-- ---- texts that are cut

-- the items of a front of these texts, and those of the rest
pub record AreCutAt {A : Type 0} (text : A → List ℕ) (P : A → Type 0) (front rest : List (List ℕ)) (xs : List A) : Type 0 where
  pub ys : List A
  pub zs : List A
  pub joined : xs ≡ ys ++ zs
  pub in_front : map text ys ≡ front
  pub in_rest : map text zs ≡ rest
  pub all_in_front : AllByRecursion P ys
  pub all_in_rest : AllByRecursion P zs

front_one_item_longer : {A : Type 0} (text : A → List ℕ) (P : A → Type 0) (t : List ℕ) (front rest : List (List ℕ)) (x : A) (xs : List A) → text x ≡ t → P x → AreCutAt text P front rest xs → AreCutAt text P (t ∷ front) rest (x ∷ xs)
front_one_item_longer {A = A} text P t front rest x xs first own cut = record {
  ys = x ∷ cut.ys;
  zs = cut.zs;
  joined = ap (λ (l : List A). x ∷ l) cut.joined;
  in_front = ap₂ (λ (h : List ℕ) (l : List (List ℕ)). h ∷ l) first cut.in_front;
  in_rest = cut.in_rest;
  all_in_front = (own, cut.all_in_front);
  all_in_rest = cut.all_in_rest;
}

items_cut_as_their_texts : {A : Type 0} (text : A → List ℕ) (P : A → Type 0) (front rest : List (List ℕ)) (xs : List A) → map text xs ≡ front ++ rest → AllByRecursion P xs → AreCutAt text P front rest xs
items_cut_as_their_texts text P [] rest xs e all = record { ys = []; zs = xs; joined = refl; in_front = refl; in_rest = e; all_in_front = tt; all_in_rest = all }
items_cut_as_their_texts text P (t ∷ front) rest [] e all = absurd cc
items_cut_as_their_texts text P (t ∷ front) rest (x ∷ xs) e all =
    let first : text x ≡ t = cc in
    let others : map text xs ≡ front ++ rest = cc in
    front_one_item_longer text P t front rest x xs first all.0 (items_cut_as_their_texts text P front rest xs others all.1)

pub concat_of_texts : {A : Type 0} (text : A → List ℕ) (xs : List A) → concat (map text xs) ≡ flat_map text xs
concat_of_texts text [] = refl
concat_of_texts text (x ∷ xs) = ap (λ (l : List ℕ). text x ++ l) (concat_of_texts text xs)

-- what is read of texts that stand in segments: the items of each, which together are all of them
pub record AreReadByParts {A : Type 0} (read : List ℕ → Result (A × List ℕ) Fault) (segments : List (List (List ℕ))) (xs : List A) : Type 0 where
  pub parts : List (List A)
  pub read_as : all_there (map (items_in read) (map concat segments)) ≡ Some parts
  pub joined : flat_map (λ part. part) parts ≡ xs

pub segments_are_read_part_by_part : {A : Type 0} (text : A → List ℕ) (fits : A → Type 0) (read : List ℕ → Result (A × List ℕ) Fault) → IsReader text fits read → ((x : A) → 1 ≤ length (text x)) → (segments : List (List (List ℕ))) (xs : List A)
    → map text xs ≡ flat_map (λ s. s) segments → AllByRecursion fits xs → AreReadByParts read segments xs
unfolding all_there
segments_are_read_part_by_part text fits read reader some [] [] e all = record { parts = []; read_as = refl; joined = refl }
segments_are_read_part_by_part text fits read reader some [] (x ∷ xs) e all = absurd cc
segments_are_read_part_by_part {A = A} text fits read reader some (s ∷ segments) xs e all =
    let cut = items_cut_as_their_texts text fits s (flat_map (λ s. s) segments) xs e all in
    let more = segments_are_read_part_by_part text fits read reader some segments cut.zs cut.in_rest cut.all_in_rest in
    let own : items_in read (concat s) ≡ Some cut.ys =
    ap (λ (t : List (List ℕ)). items_in read (concat t)) (sym cut.in_front) ∙ ap (items_in read) (concat_of_texts text cut.ys) ∙ spelled_items_are_read text fits read reader some cut.ys cut.all_in_front in
    record {
      parts = cut.ys ∷ more.parts;
      read_as =
          ap (λ (o : Option (List A)). o >>= λ y. all_there (map (items_in read) (map concat segments)) >>= λ ys. Some (y ∷ ys)) own
          ∙ ap (λ (o : Option (List (List A))). o >>= λ ys. Some (cut.ys ∷ ys)) more.read_as;
      joined = ap (λ (l : List A). cut.ys ++ l) more.joined ∙ sym cut.joined;
    }

-- ---- numbered items

pub numbered_items_without_numbers : {A B : Type 0} (f : A → B) (n : ℕ) (xs : List A) → map (λ e. f e.1) (enumerate_from n xs) ≡ map f xs
numbered_items_without_numbers f n [] = refl
numbered_items_without_numbers {B = B} f n (x ∷ xs) = ap (λ (l : List B). f x ∷ l) (numbered_items_without_numbers f (n + 1) xs)
