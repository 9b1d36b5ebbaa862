-- Numbers that are whole texts.
use Rattle.std.proofs.Common.{◌≡◌, ◌≢◌, ap, refl, sym, subst, ◌∙◌, ℕ, ◌^◌, ◌<◌, ◌≤◌, ◌⊎◌, inl, inr, Bool, true, false, cond, List, [], ◌∷◌, length, Some, None, arith, ◌==◌}
use Rattle.std.specs.Prelude.{◌&&◌, nat_lt, nat_le}
use Rattle.std.specs.Char.{is_ascii_digit}
use Rattle.std.specs.List.{list_all}
use Rattle.std.specs.Str.Parse.{digits_value}
use Rattle.std.proofs.lemmas.Bool.{cases_lt}
use Rattle.std.proofs.lemmas.Bool.Decides.{nat_tests}
use Rattle.std.proofs.lemmas.List.{take_all}
use Rattle.session_grammar.specs.Grammar.{number_of_word}
use Rattle.session_grammar.specs.Reads.{word_size, first_word, IsNumberAt}
use Rattle.session_grammar.proofs.Firsts.{word_size_past_other_byte, none_with_size_is_none, some_with_size_is_read}
use Rattle.session_grammar.proofs.Plain.{guard_of_none_is_none}

and_with_false_is_false : (v : Bool) → (v && false) ≡ false
and_with_false_is_false true = refl
and_with_false_is_false false = refl

byte_that_tests_as_space : (b : ℕ) → (b == 32) ≡ true → b ≡ 32
byte_that_tests_as_space b e = grind (arith, nat_tests)

-- a text with a space has a byte that is no digit
text_with_space_not_digits : (b : ℕ) (bs : List ℕ) (v : Bool) → (b == 32) ≡ v → word_size (b ∷ bs) < length (b ∷ bs) → (word_size bs < length bs → list_all is_ascii_digit bs ≡ false) → list_all is_ascii_digit (b ∷ bs) ≡ false
text_with_space_not_digits b bs true e h ih = ap (λ x. is_ascii_digit x && list_all is_ascii_digit bs) (byte_that_tests_as_space b e)
text_with_space_not_digits b bs false e h ih = ap (λ v. is_ascii_digit b && v) (ih (omega (arith, h, word_size_past_other_byte b bs e))) ∙ and_with_false_is_false (is_ascii_digit b)

text_past_word_not_all_digits : (t : List ℕ) → word_size t < length t → list_all is_ascii_digit t ≡ false
text_past_word_not_all_digits [] h = absurd (omega (arith, h))
text_past_word_not_all_digits (b ∷ bs) h = text_with_space_not_digits b bs (b == 32) refl h (text_past_word_not_all_digits bs)

-- it is no number
spaced_number : (t : List ℕ) → word_size t < length t → number_of_word t ≡ None
unfolding number_of_word
spaced_number t h =
    let some_with_size_is_read = nat_lt 0 (length t) && nat_le (length t) 20 in
    let value = digits_value 10 t in
    ap (λ v. cond some_with_size_is_read (cond (v && nat_lt value (2 ^ 64)) (Some value) None) None) (text_past_word_not_all_digits t h) ∙ guard_of_none_is_none some_with_size_is_read

unread_number : (t : List ℕ) → number_of_word (first_word t) ≡ None → (word_size t < length t) ⊎ (length t ≤ word_size t) → number_of_word t ≡ None
unread_number t none (inl lt) = spaced_number t lt
unread_number t none (inr le) = ap number_of_word (sym (take_all (word_size t) t le)) ∙ none

nonzero_tests_unequal_zero : (n : ℕ) → n ≢ 0 → (n == 0) ≡ false
nonzero_tests_unequal_zero n h = grind (arith, nat_tests, h)

-- a first word that is no number
pub word_without_digits_no_number : (t : List ℕ) (value size : ℕ) → IsNumberAt t value size → size ≡ 0 → None ≡ number_of_word t
word_without_digits_no_number t value size at e =
    let none = none_with_size_is_none t (number_of_word (first_word t)) (sym (at ∙ ap (λ n. cond (n == 0) None (Some (value, n))) e)) in
    sym (unread_number t none (cases_lt (word_size t) (length t)))

-- a first word that isn't the whole text
pub several_words_are_no_number : (t : List ℕ) (value size : ℕ) → IsNumberAt t value size → size ≢ 0 → size < length t → None ≡ number_of_word t
several_words_are_no_number t value size at some lt =
    let found = some_with_size_is_read t (number_of_word (first_word t)) value size (sym (at ∙ ap (λ b. cond b None (Some (value, size))) (nonzero_tests_unequal_zero size some))) in
    sym (spaced_number t (subst (λ n. n < length t) found.1 lt))
