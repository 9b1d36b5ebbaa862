-- Places of numbers in a list.
use Rattle.std.proofs.Common.{◌≡◌, ℕ, ◌<◌, Bool, true, false, cond, List, [], ◌∷◌, ◌++◌, length, get_or, Option, Some, None, is_some, refl, sym, ap, subst, ◌∙◌, inl, inr, arith}
use Rattle.std.specs.Prelude.{nat_eq, nat_lt, position}
use Rattle.std.specs.List.{list_any, position_or_len}
use Rattle.std.specs.Option.{option_map_or}
use Rattle.std.proofs.lemmas.Bool.{cases_lt, eq-eqb, eqb-true, lt-ltb, le-ltb, ltb-false}
use Rattle.std.proofs.lemmas.List.{get_or_append_left, get_or_default, length-append}
use Rattle.std.proofs.lemmas.List.Folds.{list_any_at, list_any_none}
use Rattle.std.proofs.lemmas.List.Quantifiers.{position-Some}
use Rattle.std.proofs.lemmas.List.Sums.{fails_before_first, position_or_len_is}

module _ (p : ℕ → Bool) (xs : List ℕ) where
  -- an item that passes, behind others that don't, is at the place that is found
  pub first_found : (i : ℕ) → i < length xs → ((k : ℕ) → k < i → p (get_or xs k 0) ≡ false) → p (get_or xs i 0) ≡ true → position p xs ≡ Some i
  first_found i within before here =
      let at : position_or_len p xs ≡ i = position_or_len_is p xs i 0 (omega (arith, within)) before (λ _. here) in
      ap (λ (j : ℕ). cond (nat_lt j (length xs)) (Some j) None) at ∙ ap (λ (b : Bool). cond b (Some i) None) (lt-ltb i (length xs) within)

  -- if none is found, no item passes
  pub none_passes : position p xs ≡ None → (k : ℕ) → k < length xs → p (get_or xs k 0) ≡ false
  none_passes none k within = fails_before_first p xs k 0 (far (nat_lt (position_or_len p xs) (length xs)) refl none)
    where
      far : (b : Bool) → nat_lt (position_or_len p xs) (length xs) ≡ b → cond b (Some (position_or_len p xs)) None ≡ None → k < position_or_len p xs
      far true h some = cc
      far false h some = omega (arith, within, ltb-false _ _ h)

  -- if no item passes, none is found
  pub none_found : ((k : ℕ) → k < length xs → p (get_or xs k 0) ≡ false) → position p xs ≡ None
  none_found fails =
      let at : position_or_len p xs ≡ length xs = position_or_len_is p xs (length xs) 0 (omega arith) fails (λ h. absurd (omega (arith, h))) in
      ap (λ (j : ℕ). cond (nat_lt j (length xs)) (Some j) None) at ∙ ap (λ (b : Bool). cond b (Some (length xs)) None) (le-ltb (length xs) (length xs) (omega arith))

-- the place of a number in a list and in one that begins with it
pub found_with_one_more : (p : ℕ → Bool) (xs : List ℕ) (y i : ℕ) → position p xs ≡ Some i → position p (xs ++ y ∷ []) ≡ Some i
found_with_one_more p xs y i at =
    let h = position-Some p xs i 0 at in
    first_found p (xs ++ y ∷ []) i (omega (arith, h.0, length-append xs (y ∷ [])))
    (λ k lt. ap p (get_or_append_left xs (y ∷ []) 0 k (omega (arith, lt, h.0))) ∙ h.2 k lt)
    (ap p (get_or_append_left xs (y ∷ []) 0 i h.0) ∙ h.1)

pub last_number_is : (xs : List ℕ) (y : ℕ) → get_or (xs ++ y ∷ []) (length xs) 0 ≡ y
last_number_is [] y = refl
last_number_is (x ∷ xs) y = last_number_is xs y

-- a new number is found behind the others
pub new_is_found : (xs : List ℕ) (y : ℕ) → position (nat_eq y) xs ≡ None → position (nat_eq y) (xs ++ y ∷ []) ≡ Some (length xs)
new_is_found xs y none =
    first_found (nat_eq y) (xs ++ y ∷ []) (length xs) (omega (arith, length-append xs (y ∷ [])))
    (λ k lt. ap (nat_eq y) (get_or_append_left xs (y ∷ []) 0 k lt) ∙ none_passes (nat_eq y) xs none k lt)
    (ap (nat_eq y) (last_number_is xs y) ∙ eq-eqb y y refl)

-- each number is found at its own place
abbrev pub AreApart : List ℕ → Type 0
AreApart xs = (i : ℕ) → i < length xs → position (nat_eq (get_or xs i 0)) xs ≡ Some i

pub apart_and_one : (xs : List ℕ) (y : ℕ) → AreApart xs → position (nat_eq y) xs ≡ None → AreApart (xs ++ y ∷ [])
apart_and_one xs y apart none i within =
    elim (cases_lt i (length xs)) [
      | inl lt ↦ let same = get_or_append_left xs (y ∷ []) 0 i lt in ap (λ (x : ℕ). position (nat_eq x) (xs ++ y ∷ [])) same ∙ found_with_one_more (nat_eq (get_or xs i 0)) xs y i (apart i lt)
      | inr le ↦ let e : i ≡ length xs = omega (arith, le, within, length-append xs (y ∷ [])) in subst (λ (j : ℕ). position (nat_eq (get_or (xs ++ y ∷ []) j 0)) (xs ++ y ∷ []) ≡ Some j) (sym e) (ap (λ (x : ℕ). position (nat_eq x) (xs ++ y ∷ [])) (last_number_is xs y) ∙ new_is_found xs y none)
    ]

-- a number at a place is found there
pub found_at_its_place : (xs : List ℕ) (i x : ℕ) → AreApart xs → i < length xs → get_or xs i 0 ≡ x → position (nat_eq x) xs ≡ Some i
found_at_its_place xs i x apart within is = subst (λ (y : ℕ). position (nat_eq y) xs ≡ Some i) is (apart i within)

-- whether a number is at a place, by one look
pub at_place : (xs : List ℕ) (i x : ℕ) → AreApart xs → i < length xs → nat_eq (get_or xs i 0) x ≡ option_map_or (λ (k : ℕ). nat_eq k i) (position (nat_eq x) xs) false
at_place xs i x apart within = go (nat_eq (get_or xs i 0) x) refl (position (nat_eq x) xs) refl
  where
    go : (b : Bool) → nat_eq (get_or xs i 0) x ≡ b → (o : Option ℕ) → position (nat_eq x) xs ≡ o → b ≡ option_map_or (λ (k : ℕ). nat_eq k i) o false
    go true same o at =
        sym (eq-eqb i i refl) ∙ ap (λ (q : Option ℕ). option_map_or (λ (k : ℕ). nat_eq k i) q false) (sym (found_at_its_place xs i x apart within (eqb-true _ _ same)) ∙ at)
    go false other None at = refl
    go false other (Some k) at = flip (nat_eq k i) refl
      where
        flip : (c : Bool) → nat_eq k i ≡ c → false ≡ c
        flip false h = refl
        flip true h =
            let there = eqb-true x (get_or xs k 0) (position-Some (nat_eq x) xs k 0 at).1 in
            sym other ∙ eq-eqb (get_or xs i 0) x (ap (λ (j : ℕ). get_or xs j 0) (sym (eqb-true k i h)) ∙ sym there)

-- whether a number is found
pub found_if_any : (p : ℕ → Bool) (xs : List ℕ) → is_some (position p xs) ≡ list_any p xs
found_if_any p xs = go (position p xs) refl
  where
    go : (o : Option ℕ) → position p xs ≡ o → is_some o ≡ list_any p xs
    go (Some i) at = let h = position-Some p xs i 0 at in sym (list_any_at p xs i 0 h.0 h.1)
    go None at = sym (list_any_none p xs (λ k d lt. ap p (get_or_default xs k d 0 lt) ∙ none_passes p xs at k lt))
