-- The words of a text, from its front.
use Rattle.std.proofs.Common.{◌≡◌, ℕ, ◌+◌, ◌-◌, ◌<◌, ◌≤◌, Bool, true, false, List, [], ◌∷◌, take, drop, length, get_or, refl, ap, sym, ◌∙◌, subst, arith, add-one, drop-cons, Option, Some, None, cond, ◌⊎◌, inl, inr}
use Rattle.std.specs.Prelude.{filter, nat_lt, not, suc, All, unwrap_or}
use Rattle.std.specs.Bool.{◌==◌}
use Rattle.std.specs.List.{slice_split, position, position_or_len}
use Rattle.std.proofs.lemmas.List.{take_all, drop_all, length-drop, length-take-le}
use Rattle.std.proofs.lemmas.List.Splits.{slice_split-cons_yes, slice_split_none, slice_split_first}
use Rattle.std.proofs.lemmas.List.Sums.{passes_at_first, fails_before_first, prefix_len-le-length}
use Rattle.std.proofs.lemmas.Bool.{cases_lt}
use Rattle.std.proofs.lemmas.Bool.Decides.{nat_tests}
use Rattle.session_grammar.specs.Grammar.{words_of_line}
use Rattle.session_grammar.specs.Reads.{word_size, first_word}

abbrev is_space_byte : ℕ → Bool
is_space_byte b = b == 32

abbrev is_other_than_space : ℕ → Bool
is_other_than_space b = not (b == 32)

abbrev word_has_byte : List ℕ → Bool
word_has_byte w = nat_lt 0 (length w)

-- a space at the front is no part of a word
pub words_space : (b : ℕ) (xs : List ℕ) → (b == 32) ≡ true → words_of_line (b ∷ xs) ≡ words_of_line xs
unfolding words_of_line
words_space b xs e = ap (λ ws. filter word_has_byte ws) (slice_split-cons_yes is_space_byte b xs e)

words_from_first_other_byte : (b : ℕ) (xs : List ℕ) (v : Bool) → (b == 32) ≡ v → words_of_line xs ≡ words_of_line (drop (position_or_len is_other_than_space xs) xs) → words_of_line (b ∷ xs) ≡ words_of_line (drop (position_or_len is_other_than_space (b ∷ xs)) (b ∷ xs))
words_from_first_other_byte b xs true e h =
    let n : position_or_len is_other_than_space (b ∷ xs) ≡ suc (position_or_len is_other_than_space xs) = ap (λ v. cond (not (not v)) (1 + position_or_len is_other_than_space xs) 0) e ∙ omega arith in
    words_space b xs e ∙ h ∙ ap (λ k. words_of_line (drop k (b ∷ xs))) (sym n)
words_from_first_other_byte b xs false e h =
    let n : position_or_len is_other_than_space (b ∷ xs) ≡ 0 = ap (λ v. cond (not (not v)) (1 + position_or_len is_other_than_space xs) 0) e in
    ap (λ k. words_of_line (drop k (b ∷ xs))) (sym n)

-- nor are spaces
pub words_spaces : (xs : List ℕ) → words_of_line xs ≡ words_of_line (drop (position_or_len is_other_than_space xs) xs)
words_spaces [] = refl
words_spaces (b ∷ xs) = words_from_first_other_byte b xs (b == 32) refl (words_spaces xs)

empty_text_has_no_words : words_of_line [] ≡ []
unfolding words_of_line
empty_text_has_no_words = refl

pub no_position_past_end : (k m : ℕ) (b : Bool) → nat_lt k m ≡ b → None ≡ cond b (Some k) None → m ≤ k
no_position_past_end k m true e h = cc
no_position_past_end k m false e h = grind (arith, nat_tests)

pub position_found_within_list : (k m n : ℕ) (b : Bool) → nat_lt k m ≡ b → Some n ≡ cond b (Some k) None → (k < m) × (n ≡ k)
position_found_within_list k m n true e h = let lt : k < m = grind (arith, nat_tests) in (lt, cc)
position_found_within_list k m n false e h = cc

-- no word if there is no other byte
pub spaces_alone_give_no_words : (xs : List ℕ) → None ≡ position is_other_than_space xs → words_of_line xs ≡ []
spaces_alone_give_no_words xs h =
    let all = no_position_past_end (position_or_len is_other_than_space xs) (length xs) _ refl h in
    words_spaces xs ∙ ap words_of_line (drop_all _ xs all) ∙ empty_text_has_no_words

no_space_up_to_end : (t : List ℕ) → length t ≤ position_or_len is_space_byte t → All (λ b. is_space_byte b ≡ false) t
no_space_up_to_end t h k d lt = fails_before_first is_space_byte t k d (omega (arith, h, lt))

zero_below_positive : (n : ℕ) → 0 < n → nat_lt 0 n ≡ true
zero_below_positive n h = grind (arith, nat_tests)

filter_keeps_word_with_bytes : (w : List ℕ) (ws : List (List ℕ)) → 0 < length w → filter word_has_byte (w ∷ ws) ≡ w ∷ filter word_has_byte ws
filter_keeps_word_with_bytes w ws h = ap (λ b. cond b (w ∷ filter word_has_byte ws) (filter word_has_byte ws)) (zero_below_positive (length w) h)

text_before_space_has_bytes : (t : List ℕ) (e : ℕ) → e ≡ position_or_len is_space_byte t → 0 < e → 0 < length t
text_before_space_has_bytes [] e is some = absurd (omega (arith, is, some))
text_before_space_has_bytes (x ∷ xs) e is some = omega arith

first_word_cut_at_space : (t : List ℕ) (e : ℕ) → e ≡ position_or_len is_space_byte t → 0 < e → (e < length t) ⊎ (length t ≤ e) → words_of_line t ≡ take e t ∷ words_of_line (drop (e + 1) t)
unfolding words_of_line
first_word_cut_at_space t e is some (inl lt) =
    let lt' : position_or_len is_space_byte t < length t = subst (λ k. k < length t) is lt in
    let split : slice_split is_space_byte t ≡ take e t ∷ slice_split is_space_byte (drop (e + 1) t) = slice_split_first is_space_byte t 0 lt' ∙ ap (λ k. take k t ∷ slice_split is_space_byte (drop (k + 1) t)) (sym is) in
    let size : 0 < length (take e t) = omega (arith, length-take-le e t (omega (arith, lt))) in
    ap (λ ws. filter word_has_byte ws) split ∙ filter_keeps_word_with_bytes (take e t) (slice_split is_space_byte (drop (e + 1) t)) size
first_word_cut_at_space t e is some (inr le) =
    let all : take e t ≡ t = take_all e t le in
    let none = no_space_up_to_end t (subst (λ k. length t ≤ k) is le) in
    let size : 0 < length t = text_before_space_has_bytes t e is some in
    ap (λ ws. filter word_has_byte ws) (slice_split_none is_space_byte t none) ∙ filter_keeps_word_with_bytes t [] size ∙ ap (λ l. l ∷ []) (sym all) ∙ ap (λ ws. take e t ∷ ws) (sym (ap words_of_line (drop_all (e + 1) t (omega (arith, le))) ∙ empty_text_has_no_words))

-- a text that begins with a word
pub words_first : (t : List ℕ) → 0 < word_size t → words_of_line t ≡ first_word t ∷ words_of_line (drop (word_size t + 1) t)
words_first t some = first_word_cut_at_space t (word_size t) refl some (cases_lt (word_size t) (length t))

position_past_other_byte : (x : ℕ) (xs : List ℕ) (v : Bool) → is_space_byte x ≡ v → not v ≡ true → 0 < position_or_len is_space_byte (x ∷ xs)
position_past_other_byte x xs true e h = cc
position_past_other_byte x xs false e h = let n : position_or_len is_space_byte (x ∷ xs) ≡ 1 + position_or_len is_space_byte xs = ap (λ v. cond (not v) (1 + position_or_len is_space_byte xs) 0) e in omega (arith, n)

guarded_end_is_lesser : (k m : ℕ) (b : Bool) → nat_lt k m ≡ b → k ≤ m → unwrap_or (cond b (Some k) None) m ≡ k
guarded_end_is_lesser k m true e le = refl
guarded_end_is_lesser k m false e le = grind (arith, nat_tests)

-- the first such byte, or the end
pub first_or_end : (p : ℕ → Bool) (xs : List ℕ) (r : Option ℕ) → r ≡ position p xs → unwrap_or r (length xs) ≡ position_or_len p xs
first_or_end p xs r e = ap (λ o. unwrap_or o (length xs)) e ∙ guarded_end_is_lesser (position_or_len p xs) (length xs) _ refl (prefix_len-le-length _ xs)

-- the first word and what follows it
pub front_word : (xs t : List ℕ) (n : ℕ) → Some n ≡ position is_other_than_space xs → t ≡ take (length xs - n) (drop n xs) → words_of_line xs ≡ first_word t ∷ words_of_line (drop (word_size t + 1) t)
front_word xs t n h is =
    let p = position_found_within_list (position_or_len is_other_than_space xs) (length xs) n _ refl h in
    let same : t ≡ drop n xs = is ∙ take_all (length xs - n) (drop n xs) (omega (arith, length-drop n xs)) in
    let lt : n < length xs = omega (arith, p.0, p.1) in
    let at : is_other_than_space (get_or xs n 0) ≡ true = ap (λ k. is_other_than_space (get_or xs k 0)) p.1 ∙ passes_at_first is_other_than_space xs 0 p.0 in
    let begins : t ≡ get_or xs n 0 ∷ drop (n + 1) xs = same ∙ (rw (add-one, drop-cons xs n 0)) in
    let some : 0 < word_size t = subst (λ k. 0 < k) (sym (ap word_size begins)) (position_past_other_byte (get_or xs n 0) (drop (n + 1) xs) _ refl at) in
    words_spaces xs ∙ ap (λ k. words_of_line (drop k xs)) (sym p.1) ∙ ap words_of_line (sym same) ∙ first_word_cut_at_space t (word_size t) refl some (cases_lt (word_size t) (length t))

pub position_within_list_length : (p : ℕ → Bool) (xs : List ℕ) → position_or_len p xs ≤ length xs
position_within_list_length p xs = prefix_len-le-length _ xs
