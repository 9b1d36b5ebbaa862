-- First lines that are the word, or aren't.
use Rattle.std.proofs.Common.{◌≡◌, ◌∙◌, ℕ, ◌+◌, ◌<◌, false, ◌==◌, List, [], ◌∷◌, ◌++◌, length, take, drop, refl, sym, ap, subst, inl, inr, arith, append_assoc, length-append}
use Rattle.std.proofs.lemmas.Bool.{ne_eqb}
use Rattle.std.proofs.lemmas.List.{get_or_at}
use Rattle.std.proofs.lemmas.List.Elements.{All-get_or, All-push, All-tail, All-weaker}
use Rattle.std.specs.Char.{IsAsciiAlphanumeric}
use Rattle.secret_word.specs.Ends.{IsFirstEnd, IsWithout, NoLf}
use Rattle.secret_word.specs.Words.{IsBehindWord, IsSecret}
use Rattle.secret_word.proofs.WordEnds.{word_is_line_without_return}

first_byte_or : ℕ → List ℕ → ℕ
first_byte_or d [] = d
first_byte_or d (x ∷ xs) = x

bytes_without_first : List ℕ → List ℕ
bytes_without_first [] = []
bytes_without_first (x ∷ xs) = xs

-- no LF is among bytes without one
no_lf_there : (xs ys : List ℕ) → NoLf (xs ++ 10 ∷ ys) → ⊥
no_lf_there xs ys none =
    let at : (10 == 10) ≡ false = subst (λ b. (b == 10) ≡ false) (get_or_at xs 10 ys 0 (length xs) refl) (All-get_or (λ b. (b == 10) ≡ false) (xs ++ 10 ∷ ys) (length xs) 0 (omega (arith, length-append xs (10 ∷ ys))) none) in
    absurd (cc at)

-- what stands before the first LF
bytes_before_line_feed_equal : (xs ys ms ns : List ℕ) → NoLf xs → NoLf ys → xs ++ 10 ∷ ms ≡ ys ++ 10 ∷ ns → xs ≡ ys
unfolding first_byte_or bytes_without_first
bytes_before_line_feed_equal [] [] ms ns nx ny e = refl
bytes_before_line_feed_equal [] (y ∷ ys) ms ns nx ny e = absurd (no_lf_there [] ys (subst (λ b. NoLf (b ∷ ys)) (sym (ap (first_byte_or 0) e)) ny))
bytes_before_line_feed_equal (x ∷ xs) [] ms ns nx ny e = absurd (no_lf_there [] xs (subst (λ b. NoLf (b ∷ xs)) (ap (first_byte_or 0) e) nx))
bytes_before_line_feed_equal (x ∷ xs) (y ∷ ys) ms ns nx ny e =
    ap (λ b. b ∷ xs) (ap (first_byte_or 0) e)
    ∙ ap (λ l. y ∷ l) (bytes_before_line_feed_equal xs ys ms ns (All-tail (λ b. (b == 10) ≡ false) x xs nx) (All-tail (λ b. (b == 10) ≡ false) y ys ny) (ap bytes_without_first e))

byte_above_ten_no_line_feed : (b : ℕ) → 10 < b → (b == 10) ≡ false
byte_above_ten_no_line_feed b lt = ne_eqb b 10 (λ is. omega (arith, is, lt))

alphanumeric_is_no_line_feed : (b : ℕ) → IsAsciiAlphanumeric b → (b == 10) ≡ false
alphanumeric_is_no_line_feed b (inl (inl r)) = byte_above_ten_no_line_feed b (omega (arith, r.0))
alphanumeric_is_no_line_feed b (inl (inr r)) = byte_above_ten_no_line_feed b (omega (arith, r.0))
alphanumeric_is_no_line_feed b (inr r) = byte_above_ten_no_line_feed b (omega (arith, r.0))

-- a word is a part of a line, and so is a word with a CR
word_in_line : (word : List ℕ) → IsSecret word → NoLf word
word_in_line word secret = All-weaker IsAsciiAlphanumeric (λ b. (b == 10) ≡ false) alphanumeric_is_no_line_feed word secret.2

ended_in_line : (word : List ℕ) → IsSecret word → NoLf (word ++ 13 ∷ [])
ended_in_line word secret = All-push (λ b. (b == 10) ≡ false) word 13 (word_in_line word secret) refl

-- bytes without an LF have no line
pub bytes_without_line_feed_no_word : (word bytes : List ℕ) → NoLf bytes → (rest : List ℕ) → IsBehindWord word bytes rest → ⊥
bytes_without_line_feed_no_word word bytes none rest (inl is) = no_lf_there word rest (subst NoLf is none)
bytes_without_line_feed_no_word word bytes none rest (inr is) = no_lf_there (word ++ 13 ∷ []) rest (subst NoLf (is ∙ sym (append_assoc word (13 ∷ []) (10 ∷ rest))) none)

-- the first line is the word, if there is something behind the word
pub first_is_word : (n : ℕ) (word bytes line : List ℕ) → IsFirstEnd n bytes → IsWithout 13 (take n bytes) line → IsSecret word → (rest : List ℕ) → IsBehindWord word bytes rest → line ≡ word
first_is_word n word bytes line at without secret rest (inl is) =
    sym (word_is_line_without_return (take n bytes) line without word secret (inl (bytes_before_line_feed_equal (take n bytes) word (drop (n + 1) bytes) rest at.1 (word_in_line word secret) (sym at.2 ∙ is))))
first_is_word n word bytes line at without secret rest (inr is) =
    sym (word_is_line_without_return (take n bytes) line without word secret (inr (bytes_before_line_feed_equal (take n bytes) (word ++ 13 ∷ []) (drop (n + 1) bytes) rest at.1 (ended_in_line word secret) (sym at.2 ∙ is ∙ sym (append_assoc word (13 ∷ []) (10 ∷ rest))))))

-- what is behind a first line that is the word
pub bytes_behind_first_word_line : (n : ℕ) (word bytes line : List ℕ) → IsFirstEnd n bytes → IsWithout 13 (take n bytes) line → line ≡ word → IsBehindWord word bytes (drop (n + 1) bytes)
bytes_behind_first_word_line n word bytes line at (inl e) same =
    inr (at.2 ∙ ap (λ l. l ++ 10 ∷ drop (n + 1) bytes) (e ∙ ap (λ l. l ++ 13 ∷ []) same) ∙ append_assoc word (13 ∷ []) (10 ∷ drop (n + 1) bytes))
bytes_behind_first_word_line n word bytes line at (inr h) same =
    inl (at.2 ∙ ap (λ l. l ++ 10 ∷ drop (n + 1) bytes) (sym h.0 ∙ same))
