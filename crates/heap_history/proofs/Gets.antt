-- The item of a list at an index.
use Rattle.std.proofs.Common.{◌≡◌, ℕ, ◌+◌, ◌<◌, zero, suc, List, [], ◌∷◌, ◌++◌, drop, length, refl, ap, ◌∙◌, arith}
use Rattle.std.specs.Prelude.{Some, slice_get}

pub item_of_dropped_list : {X : Type 0} (d n : ℕ) (xs : List X) → slice_get (drop d xs) n ≡ slice_get xs (d + n)
item_of_dropped_list zero n xs = let same : n ≡ 0 + n = omega arith in ap (slice_get xs) same
item_of_dropped_list (suc d) n [] = refl
item_of_dropped_list (suc d) n (x ∷ xs) = let same : suc (d + n) ≡ suc d + n = omega arith in item_of_dropped_list d n xs ∙ ap (slice_get (x ∷ xs)) same

pub item_of_left_list : {X : Type 0} (n : ℕ) (xs ys : List X) → n < length xs → slice_get (xs ++ ys) n ≡ slice_get xs n
item_of_left_list n [] ys lt = absurd (omega (arith, lt))
item_of_left_list zero (x ∷ xs) ys lt = refl
item_of_left_list (suc n) (x ∷ xs) ys lt = item_of_left_list n xs ys (omega (arith, lt))

pub item_of_right_list : {X : Type 0} (n m : ℕ) (xs ys : List X) → m ≡ length xs + n → slice_get (xs ++ ys) m ≡ slice_get ys n
item_of_right_list n m [] ys e = let same : m ≡ n = omega (arith, e) in ap (slice_get ys) same
item_of_right_list n zero (x ∷ xs) ys e = absurd (omega (arith, e))
item_of_right_list n (suc m) (x ∷ xs) ys e = item_of_right_list n m xs ys (omega (arith, e))

-- the item after those of the list
pub item_after_list_is_last : {X : Type 0} (n : ℕ) (xs : List X) (x : X) → n ≡ length xs → slice_get (xs ++ x ∷ []) n ≡ Some x
item_after_list_is_last n xs x e = item_of_right_list 0 n xs (x ∷ []) (omega (arith, e))
