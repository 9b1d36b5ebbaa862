-- Words and the ends behind them.
use Rattle.std.proofs.Common.{◌≡◌, ◌∙◌, ◌⊎◌, ℕ, ◌<◌, List, [], ◌∷◌, ◌++◌, length, refl, sym, ap, subst, inl, inr, arith, append_assoc, length-append, All}
use Rattle.std.proofs.lemmas.List.{append_cancel_right, get_or_at}
use Rattle.std.proofs.lemmas.List.Elements.{All-get_or}
use Rattle.std.specs.Char.{IsAsciiAlphanumeric}
use Rattle.secret_word.specs.Ends.{IsWithout}
use Rattle.secret_word.specs.Words.{IsSecret, IsTextOf}

pub byte_of_word_is_alphanumeric : (xs ys : List ℕ) (c : ℕ) → All IsAsciiAlphanumeric (xs ++ c ∷ ys) → IsAsciiAlphanumeric c
byte_of_word_is_alphanumeric xs ys c all =
    subst IsAsciiAlphanumeric (get_or_at xs c ys 0 (length xs) refl) (All-get_or IsAsciiAlphanumeric (xs ++ c ∷ ys) (length xs) 0 (omega (arith, length-append xs (c ∷ ys))) all)

-- an LF or a CR is neither letter nor digit
abbrev pub IsLow : ℕ → Type 0
IsLow c = c < 48

low_byte_is_not_alphanumeric : (c : ℕ) → IsLow c → IsAsciiAlphanumeric c → ⊥
low_byte_is_not_alphanumeric c lt (inl (inl r)) = omega (arith, r.0, lt)
low_byte_is_not_alphanumeric c lt (inl (inr r)) = omega (arith, r.0, lt)
low_byte_is_not_alphanumeric c lt (inr r) = omega (arith, r.0, lt)

-- a word has none
pub secret_word_has_no_low_byte : (word xs ys : List ℕ) (c : ℕ) → IsLow c → IsSecret word → word ≡ xs ++ c ∷ ys → ⊥
secret_word_has_no_low_byte word xs ys c lt secret is = low_byte_is_not_alphanumeric c lt (byte_of_word_is_alphanumeric xs ys c (subst (All IsAsciiAlphanumeric) is secret.2))

-- a text from which nothing was taken
pub text_without_cut_is_word : (text line : List ℕ) → length line ≡ length text → IsWithout 10 text line → (word : List ℕ) → IsSecret word → IsTextOf word text → word ≡ text
text_without_cut_is_word text line same (inl e) word secret of = absurd (omega (arith, same, ap length e, length-append line (10 ∷ [])))
text_without_cut_is_word text line same (inr h) word secret (inl is) = sym is
text_without_cut_is_word text line same (inr h) word secret (inr (inl is)) = absurd (h.1 (word, is))
text_without_cut_is_word text line same (inr h) word secret (inr (inr is)) = absurd (h.1 (word ++ 13 ∷ [], is ∙ sym (append_assoc word (13 ∷ []) (10 ∷ []))))

-- a line from which a CR was taken, or none
pub word_is_line_without_return : (line rest : List ℕ) → IsWithout 13 line rest → (word : List ℕ) → IsSecret word → (line ≡ word) ⊎ (line ≡ word ++ 13 ∷ []) → word ≡ rest
word_is_line_without_return line rest (inl e) word secret (inl is) = absurd (secret_word_has_no_low_byte word rest [] 13 (omega arith) secret (sym is ∙ e))
word_is_line_without_return line rest (inl e) word secret (inr is) = append_cancel_right word rest (13 ∷ []) (sym is ∙ e)
word_is_line_without_return line rest (inr h) word secret (inl is) = sym (h.0 ∙ is)
word_is_line_without_return line rest (inr h) word secret (inr is) = absurd (h.1 (word, is))

-- a text without its LF
pub word_is_text_without_end : (text line rest : List ℕ) → (length line ≡ length text → ⊥) → IsWithout 10 text line → IsWithout 13 line rest → (word : List ℕ) → IsSecret word → IsTextOf word text → word ≡ rest
word_is_text_without_end text line rest apart (inr h) without word secret of = absurd (apart (ap length h.0))
word_is_text_without_end text line rest apart (inl e) without word secret (inl is) = absurd (secret_word_has_no_low_byte word line [] 10 (omega arith) secret (sym is ∙ e))
word_is_text_without_end text line rest apart (inl e) without word secret (inr (inl is)) = word_is_line_without_return line rest without word secret (inl (append_cancel_right line word (10 ∷ []) (sym e ∙ is)))
word_is_text_without_end text line rest apart (inl e) without word secret (inr (inr is)) =
    word_is_line_without_return line rest without word secret (inr (append_cancel_right line (word ++ 13 ∷ []) (10 ∷ []) (sym e ∙ is ∙ sym (append_assoc word (13 ∷ []) (10 ∷ [])))))
