-- A list of which the first items were changed.
use Rattle.std.proofs.Common.{◌≡◌, ℕ, zero, suc, ◌≤◌, List, [], ◌∷◌, length, map, Some, refl, sym, ap, ap₂, arith}
use Rattle.std.specs.Prelude.{slice_get}
use Rattle.heap_region.specs.Regions.{updated}

-- the list with f of each of its first n items
pub with_first_items_changed : {A : Type 0} → ℕ → (A → A) → List A → List A
with_first_items_changed n f [] = []
with_first_items_changed zero f (x ∷ xs) = x ∷ xs
with_first_items_changed (suc n) f (x ∷ xs) = f x ∷ with_first_items_changed n f xs

pub no_item_of_list_changed : {A : Type 0} (f : A → A) (xs : List A) → with_first_items_changed 0 f xs ≡ xs
unfolding with_first_items_changed
no_item_of_list_changed f [] = refl
no_item_of_list_changed f (x ∷ xs) = refl

-- one more
pub one_more_first_changed : {A : Type 0} (n : ℕ) (f : A → A) (xs : List A) → updated n f (with_first_items_changed n f xs) ≡ with_first_items_changed (suc n) f xs
unfolding updated with_first_items_changed
one_more_first_changed n f [] = refl
one_more_first_changed zero f (x ∷ xs) = ap (λ ys. f x ∷ ys) (sym (no_item_of_list_changed f xs))
one_more_first_changed (suc n) f (x ∷ xs) = ap (λ ys. f x ∷ ys) (one_more_first_changed n f xs)

-- one more, where the next is no change
pub one_more_first_without_change : {A : Type 0} (n : ℕ) (f : A → A) (xs : List A) → ((x : A) → slice_get xs n ≡ Some x → f x ≡ x) → with_first_items_changed n f xs ≡ with_first_items_changed (suc n) f xs
unfolding with_first_items_changed
one_more_first_without_change n f [] h = refl
one_more_first_without_change zero f (x ∷ xs) h = ap₂ (λ y ys. y ∷ ys) (sym (h x refl)) (sym (no_item_of_list_changed f xs))
one_more_first_without_change (suc n) f (x ∷ xs) h = ap (λ ys. f x ∷ ys) (one_more_first_without_change n f xs h)

-- all
pub all_items_of_list_changed : {A : Type 0} (n : ℕ) (f : A → A) (xs : List A) → length xs ≤ n → with_first_items_changed n f xs ≡ map f xs
unfolding with_first_items_changed
all_items_of_list_changed n f [] le = refl
all_items_of_list_changed zero f (x ∷ xs) le = absurd (omega arith)
all_items_of_list_changed (suc n) f (x ∷ xs) le = ap (λ ys. f x ∷ ys) (all_items_of_list_changed n f xs (omega arith))

-- the next is as it was
pub next_as_was : {A : Type 0} (n : ℕ) (f : A → A) (xs : List A) → slice_get (with_first_items_changed n f xs) n ≡ slice_get xs n
unfolding with_first_items_changed
next_as_was n f [] = refl
next_as_was zero f (x ∷ xs) = refl
next_as_was (suc n) f (x ∷ xs) = next_as_was n f xs
