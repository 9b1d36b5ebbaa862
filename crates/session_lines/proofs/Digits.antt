-- Numbers of a digit, with a space before each.
use Rattle.std.proofs.Common.{◌≡◌, ℕ, ◌+◌, ◌<◌, List, [], ◌∷◌, ◌++◌, ap, ◌∙◌}
use Rattle.std.specs.Prelude.{decimal}
use Rattle.std.proofs.lemmas.Fmt.{decimal_digit}
use Rattle.std.proofs.lemmas.List.Concat.{flat_map-cons}
use Rattle.session_lines.specs.EventLines.{and_words}

pub digit_is_spaced : (n : ℕ) → n < 10 → 32 ∷ decimal n ≡ 32 ∷ (48 + n) ∷ []
digit_is_spaced n low = ap (λ (d : List ℕ). 32 ∷ d) (decimal_digit n low)

one_more_digit : (n : ℕ) (ws : List (List ℕ)) → n < 10 → and_words (decimal n ∷ ws) ≡ 32 ∷ (48 + n) ∷ and_words ws
one_more_digit n ws low = flat_map-cons (λ (w : List ℕ). 32 ∷ w) (decimal n) ws ∙ ap (λ (d : List ℕ). 32 ∷ (d ++ and_words ws)) (decimal_digit n low)

pub digits_are_spaced : (a b c : ℕ) → a < 10 → b < 10 → c < 10 → and_words (decimal a ∷ decimal b ∷ decimal c ∷ []) ≡ 32 ∷ (48 + a) ∷ 32 ∷ (48 + b) ∷ 32 ∷ (48 + c) ∷ []
digits_are_spaced a b c one two three =
    one_more_digit a (decimal b ∷ decimal c ∷ []) one
    ∙ ap (λ (t : List ℕ). 32 ∷ (48 + a) ∷ t) (one_more_digit b (decimal c ∷ []) two
    ∙ ap (λ (t : List ℕ). 32 ∷ (48 + b) ∷ t) (one_more_digit c [] three))
