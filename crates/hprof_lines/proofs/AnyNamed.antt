-- Tests of each element, one after another.
use Rattle.std.proofs.Common.{◌≡◌, ℕ, ◌+◌, ◌<◌, ◌≤◌, Bool, true, false, ◌||◌, List, ◌∷◌, length, drop, get_or, sym, ap, ◌∙◌, add-one, drop-cons}
use Rattle.std.proofs.lemmas.List.{drop_all}
use Rattle.std.specs.List.{list_any}

opened_any : {X : Type 0} (p : X → Bool) (xs : List X) (i : ℕ) (d : X) → i < length xs
    → list_any p (drop i xs) ≡ (p (get_or xs i d) || list_any p (drop (i + 1) xs))
opened_any p xs i d less = ap (list_any p) (drop-cons xs i d less ∙ ap (λ (k : ℕ). get_or xs i d ∷ drop k xs) (sym (add-one i)))

pub any_next : {X : Type 0} (p : X → Bool) (xs : List X) (i : ℕ) (d : X) (all : Bool) → i < length xs → p (get_or xs i d) ≡ false
    → list_any p (drop i xs) ≡ all → list_any p (drop (i + 1) xs) ≡ all
any_next p xs i d all less fails so_far =
    sym (ap (λ (b : Bool). b || list_any p (drop (i + 1) xs)) fails) ∙ sym (opened_any p xs i d less) ∙ so_far

pub any_found : {X : Type 0} (p : X → Bool) (xs : List X) (i : ℕ) (d : X) (all : Bool) → i < length xs → p (get_or xs i d) ≡ true
    → list_any p (drop i xs) ≡ all → true ≡ all
any_found p xs i d all less passes so_far =
    sym (ap (λ (b : Bool). b || list_any p (drop (i + 1) xs)) passes) ∙ sym (opened_any p xs i d less) ∙ so_far

pub any_nowhere : {X : Type 0} (p : X → Bool) (xs : List X) (i : ℕ) (all : Bool) → length xs ≤ i
    → list_any p (drop i xs) ≡ all → false ≡ all
any_nowhere p xs i all past so_far = sym (ap (list_any p) (drop_all i xs past)) ∙ so_far
