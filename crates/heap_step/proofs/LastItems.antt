-- A list with an item at its end.
use Rattle.std.proofs.Common.{List, [], arith, length, length-append, take, ◌++◌, ◌-◌, ◌<◌, ◌∙◌, ◌∷◌, ◌≡◌}
use Rattle.std.proofs.Math.Seq.{take-length}
use Rattle.std.proofs.lemmas.List.{take-append-le}

-- a list without the item that was put at its end
pub all_but_last : {A : Type 0} (xs : List A) (x : A) → take (length (xs ++ x ∷ []) - 1) (xs ++ x ∷ []) ≡ xs
all_but_last xs x =
    let e : length (xs ++ x ∷ []) - 1 ≡ length xs = omega (arith, length-append xs (x ∷ [])) in
    rw e (take-append-le (length xs) xs (x ∷ []) (omega arith) ∙ take-length xs)

pub list_with_last_not_empty : {A : Type 0} (xs : List A) (x : A) → 0 < length (xs ++ x ∷ [])
list_with_last_not_empty xs x = omega (arith, length-append xs (x ∷ []))
