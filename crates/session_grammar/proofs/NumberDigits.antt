-- Digits that stand in a text, and the numbers that they are in its beginnings.
use Rattle.std.proofs.Common.{◌≡◌, refl, ℕ, ◌+◌, ◌-◌, ◌*◌, ◌^◌, ◌<◌, ◌≤◌, ◌⊎◌, inl, inr, Bool, true, false, cond, List, [], ◌∷◌, ◌++◌, take, drop, length, get_or, Some, None, nat_lt, ap, sym, subst, ◌∙◌, arith, leb-true, le-leb, ne_eqb, lt-ltb}
use Rattle.std.specs.Prelude.{◌==◌, suc}
use Rattle.std.proofs.Math.Seq.{take-add}
use Rattle.std.proofs.lemmas.Bool.{and_from, and_parts}
use Rattle.std.proofs.lemmas.List.{length-drop, length-take-le, get_or-drop, get_or-take, take_all}
use Rattle.std.proofs.lemmas.List.Elements.{All-nil, All-cons, All-append}
use Rattle.std.specs.Char.{is_ascii_digit}
use Rattle.session_grammar.specs.Lines.{NoLf}
use Rattle.session_grammar.specs.Reads.{with_digit, IsReadTo, IsReadIn, IsNumberAt, IsNumberThen, IsDigit, AreDigits, four_value, BeginsWithEight}
use Rattle.session_grammar.proofs.Firsts.{drop_at_is_byte_and_rest}
use Rattle.session_grammar.proofs.Numbers.{nothing_read_yet_is_zero, one_digit_read_further, digit_more_stays_below_limit, read_to_space, read_to_end, number_and_words_behind_it}

-- ---- bytes that are no LF

pub no_line_feed_before_start : (t : List ℕ) → NoLf (take 0 t)
no_line_feed_before_start t = All-nil (λ b. (b == 10) ≡ false)

-- one more byte
pub no_lf_more : (t : List ℕ) (i : ℕ) → i < length t → (get_or t i 0 == 10) ≡ false → NoLf (take i t) → NoLf (take (i + 1) t)
no_lf_more t i lt other before =
    let b = get_or t i 0 in
    let e : take (i + 1) t ≡ take i t ++ (b ∷ []) = take-add i 1 t ∙ ap (λ l. take i t ++ take 1 l) (drop_at_is_byte_and_rest t i lt) in
    subst (λ l. NoLf l) (sym e) (All-append (λ x. (x == 10) ≡ false) (take i t) (b ∷ []) before (All-cons (λ x. (x == 10) ≡ false) b [] other (All-nil (λ x. (x == 10) ≡ false))))

no_lf_digit : (b : ℕ) → 48 ≤ b → (b == 10) ≡ false
no_lf_digit b low = ne_eqb b 10 (λ e. omega (arith, low, e))

-- ---- in a beginning of the text

byte_in_beginning_of_text : (t : List ℕ) (n at i : ℕ) → at + i < n → get_or (drop at (take n t)) i 0 ≡ get_or t (at + i) 0
byte_in_beginning_of_text t n at i lt = get_or-drop at (take n t) i 0 ∙ get_or-take n t (at + i) 0 lt

place_in_beginning_of_text : (t : List ℕ) (n at i : ℕ) → n ≤ length t → at + i < n → i < length (drop at (take n t))
place_in_beginning_of_text t n at i most lt = omega (arith, length-drop at (take n t), length-take-le n t most, lt)

-- ---- digits

pub read_in_none : (t : List ℕ) (at : ℕ) → at ≤ length t → IsReadIn t at 0 0
read_in_none t at le =
    let same : at ≡ at + 0 = omega arith in
    (omega (arith, le), omega arith, λ s e. absurd (omega (arith, e)), λ none. subst (λ n. NoLf (take n t)) same none, λ n low most. nothing_read_yet_is_zero (drop at (take n t)))

read_in_more : (t : List ℕ) (at size value whole : ℕ) → at + size < length t → size < 20 → Some whole ≡ with_digit value (get_or t (at + size) 0) → 48 ≤ get_or t (at + size) 0 → IsReadIn t at value size → IsReadIn t at whole (size + 1)
read_in_more t at size value whole lt few digit low h = (
  omega (arith, lt),
  omega (arith, few),
  λ s e. let same : size ≡ s = omega (arith, e) in subst (λ k. 48 ≤ get_or t (at + k) 0) same low,
  λ none. subst (λ k. NoLf (take k t)) next (no_lf_more t (at + size) lt (no_lf_digit (get_or t (at + size) 0) low) (h.3 none)),
  in_each,
)
  where
    next : at + size + 1 ≡ at + (size + 1)
    next = omega arith

    in_each : (n : ℕ) → at + (size + 1) ≤ n → n ≤ length t → IsReadTo (drop at (take n t)) (drop (size + 1) (drop at (take n t))) (size + 1) whole
    in_each n le most =
        let less : at + size < n = omega (arith, le) in
        let get = byte_in_beginning_of_text t n at size less in
        one_digit_read_further (drop at (take n t)) size value whole (place_in_beginning_of_text t n at size most less) (λ e. omega (arith, low, e, get)) (digit ∙ ap (λ b. with_digit value b) (sym get)) (h.4 n (omega (arith, le)) most)

-- one of the first 19 digits
pub read_in_sure : (t : List ℕ) (at size value : ℕ) → at + size < length t → size < 19 → 48 ≤ get_or t (at + size) 0 → get_or t (at + size) 0 ≤ 57 → IsReadIn t at value size → value < 10 ^ size
    → IsReadIn t at (value * 10 + (get_or t (at + size) 0 - 48)) (size + 1) × (value * 10 + (get_or t (at + size) 0 - 48) < 10 ^ (size + 1))
read_in_sure t at size value lt few low high h less =
    let b = get_or t (at + size) 0 in
    let digit : is_ascii_digit b ≡ true = and_from _ _ (le-leb 48 b low) (le-leb b 57 high) in
    let sure = digit_more_stays_below_limit size value (b - 48) few less (omega (arith, low, high)) in
    let is : Some (value * 10 + (b - 48)) ≡ with_digit value b = sym (ap (λ v. cond v (cond (nat_lt (value * 10 + (b - 48)) (2 ^ 64)) (Some (value * 10 + (b - 48))) None) None) digit ∙ ap (λ v. cond v (Some (value * 10 + (b - 48))) None) (lt-ltb _ _ sure.0)) in
    (read_in_more t at size value (value * 10 + (b - 48)) lt (omega (arith, few)) is low h, sure.1)

-- what is read goes on to this value and size
abbrev pub IsReadTill : List ℕ → ℕ → ℕ → ℕ → Type 0
IsReadTill t at value size = IsReadIn t at value size × (value < 10 ^ size)

-- one more digit `b`, at the place `i`
read_in_next : (t : List ℕ) (at i size value b : ℕ) → i ≡ at + size → get_or t i 0 ≡ b → i < length t → size < 19 → (48 ≤ b) × (b ≤ 57) → IsReadTill t at value size → IsReadTill t at (value * 10 + (b - 48)) (size + 1)
read_in_next t at i size value b e is lt few range h =
    let g : get_or t (at + size) 0 ≡ b = ap (λ k. get_or t k 0) (sym e) ∙ is in
    subst (λ d. IsReadTill t at (value * 10 + (d - 48)) (size + 1)) g (read_in_sure t at size value (omega (arith, e, lt)) few (omega (arith, g, range.0)) (omega (arith, g, range.1)) h.0 h.1)

value_with_four_digits_more : (v a b c d : ℕ) → (((v * 10 + a) * 10 + b) * 10 + c) * 10 + d ≡ v * 10000 + (((a * 10 + b) * 10 + c) * 10 + d)
value_with_four_digits_more v a b c d = omega arith

value_with_eight_digits_more : (v a b : ℕ) → (v * 10000 + a) * 10000 + b ≡ v * 100000000 + (a * 10000 + b)
value_with_eight_digits_more v a b = omega arith

-- four more digits
read_in_four : (t : List ℕ) (at i size value a b c d : ℕ) → i ≡ at + size → i + 3 < length t → size ≤ 15 → get_or t i 0 ≡ a → get_or t (i + 1) 0 ≡ b → get_or t (i + 2) 0 ≡ c → get_or t (i + 3) 0 ≡ d → AreDigits a b c d
    → IsReadTill t at value size → IsReadTill t at (value * 10000 + four_value a b c d) (size + 4)
read_in_four t at i size value a b c d e lt few ia ib ic id are h =
    let one = read_in_next t at i size value a e ia (omega (arith, lt)) (omega (arith, few)) are.0 h in
    let v1 = value * 10 + (a - 48) in
    let two = read_in_next t at (i + 1) (size + 1) v1 b (omega (arith, e)) ib (omega (arith, lt)) (omega (arith, few)) are.1 one in
    let v2 = v1 * 10 + (b - 48) in
    let three = read_in_next t at (i + 2) (size + 1 + 1) v2 c (omega (arith, e)) ic (omega (arith, lt)) (omega (arith, few)) are.2 two in
    let v3 = v2 * 10 + (c - 48) in
    let four = read_in_next t at (i + 3) (size + 1 + 1 + 1) v3 d (omega (arith, e)) id lt (omega (arith, few)) are.3 three in
    let more : size + 1 + 1 + 1 + 1 ≡ size + 4 = omega arith in
    subst (λ v. IsReadTill t at v (size + 4)) (value_with_four_digits_more value (a - 48) (b - 48) (c - 48) (d - 48)) (subst (λ n. IsReadTill t at (v3 * 10 + (d - 48)) n) more four)

-- eight more digits
pub read_in_eight : (t r : List ℕ) (at size value eight : ℕ) → at + size ≤ length t → size ≤ 11 → r ≡ take (length t - (at + size)) (drop (at + size) t) → BeginsWithEight r eight → IsReadIn t at value size → value < 10 ^ size
    → IsReadTill t at (value * 100000000 + eight) (size + 8)
read_in_eight t r at size value eight le few is h read less =
    let i = at + size in
    let rest : r ≡ drop i t = is ∙ take_all (length t - i) (drop i t) (omega (arith, length-drop i t)) in
    let long : i + 7 < length t = omega (arith, h.0, length-drop i t, ap length rest, le) in
    let get : (k : ℕ) → get_or t (i + k) 0 ≡ get_or r k 0 = λ k. sym (ap (λ l. get_or l k 0) rest ∙ get_or-drop i t k 0) in
    let here : get_or t i 0 ≡ get_or r 0 0 = ap (λ k. get_or t k 0) (start i) ∙ get 0 in
    let front = read_in_four t at i size value (get_or r 0 0) (get_or r 1 0) (get_or r 2 0) (get_or r 3 0) refl (omega (arith, long)) (omega (arith, few)) here (get 1) (get 2) (get 3) h.1 (read, less) in
    let next : (k m : ℕ) → k + 4 ≡ m → get_or t (i + 4 + k) 0 ≡ get_or r m 0 = λ k m e. ap (λ j. get_or t j 0) (shift i k m e) ∙ get m in
    let back = read_in_four t at (i + 4) (size + 4) (value * 10000 + four_value (get_or r 0 0) (get_or r 1 0) (get_or r 2 0) (get_or r 3 0)) (get_or r 4 0) (get_or r 5 0) (get_or r 6 0) (get_or r 7 0) (omega arith) (omega (arith, long)) (omega (arith, few)) (get 4) (next 1 5 (omega arith)) (next 2 6 (omega arith)) (next 3 7 (omega arith)) h.2 front in
    let more : size + 4 + 4 ≡ size + 8 = omega arith in
    let whole = value_with_eight_digits_more value (four_value (get_or r 0 0) (get_or r 1 0) (get_or r 2 0) (get_or r 3 0)) (four_value (get_or r 4 0) (get_or r 5 0) (get_or r 6 0) (get_or r 7 0)) ∙ ap (λ v. value * 100000000 + v) (sym h.3) in
    subst (λ v. IsReadTill t at v (size + 8)) whole (subst (λ n. IsReadTill t at ((value * 10000 + four_value (get_or r 0 0) (get_or r 1 0) (get_or r 2 0) (get_or r 3 0)) * 10000 + four_value (get_or r 4 0) (get_or r 5 0) (get_or r 6 0) (get_or r 7 0)) n) more back)
  where
    start : (i : ℕ) → i ≡ i + 0
    start i = omega arith

    shift : (i k m : ℕ) → k + 4 ≡ m → i + 4 + k ≡ i + m
    shift i k m e = omega (arith, e)

-- the first eight digits
pub read_in_first_eight : (t : List ℕ) (at eight : ℕ) → at ≤ length t → BeginsWithEight (take (length t - at) (drop at t)) eight → IsReadTill t at eight 8
read_in_first_eight t at eight le h =
    let same : at ≡ at + 0 = omega arith in
    let value : 0 * 100000000 + eight ≡ eight = omega arith in
    subst (λ v. IsReadTill t at v 8) value (read_in_eight t (take (length t - at) (drop at t)) at 0 0 eight (omega (arith, le)) (omega arith) (ap (λ n. take (length t - n) (drop n t)) same) h (read_in_none t at le) (omega arith))

accepted_digit_not_below_zero : (value b whole : ℕ) → Some whole ≡ with_digit value b → 48 ≤ b
accepted_digit_not_below_zero value b whole h = go (is_ascii_digit b) refl (h)
  where
    go : (v : Bool) → is_ascii_digit b ≡ v → Some whole ≡ cond v (cond (nat_lt (value * 10 + (b - 48)) (2 ^ 64)) (Some (value * 10 + (b - 48))) None) None → 48 ≤ b
    go true e h = let both = and_parts _ _ e in leb-true 48 b both.0
    go false e h = cc

-- the 20th
pub read_in_last : (t : List ℕ) (at size value whole : ℕ) → at + size < length t → size ≤ 19 → Some whole ≡ with_digit value (get_or t (at + size) 0) → IsReadIn t at value size → IsReadIn t at whole (size + 1)
read_in_last t at size value whole lt few digit h = read_in_more t at size value whole lt (omega (arith, few)) digit (accepted_digit_not_below_zero value (get_or t (at + size) 0) whole digit) h

-- one digit more, after the first few
pub read_in_digit : (t : List ℕ) (at size value digit : ℕ) → at + size < length t → size < 19 → IsDigit (get_or t (at + size) 0) digit → IsReadTill t at value size → IsReadTill t at (value * 10 + digit) (size + 1)
read_in_digit t at size value digit lt few is h =
    let b = get_or t (at + size) 0 in
    let both = and_parts _ _ is.0 in
    subst (λ d. IsReadTill t at (value * 10 + d) (size + 1)) (sym is.1) (read_in_sure t at size value lt few (leb-true 48 b both.0) (leb-true b 57 both.1) h.0 h.1)

-- one digit
pub read_in_one : (t : List ℕ) (at : ℕ) → at < length t → is_ascii_digit (get_or t at 0) ≡ true → IsReadIn t at (get_or t at 0 - 48) 1
read_in_one t at lt digit =
    let here : at + 0 ≡ at = omega arith in
    let get : get_or t (at + 0) 0 ≡ get_or t at 0 = ap (λ n. get_or t n 0) here in
    let both = and_parts _ _ digit in
    let low : 48 ≤ get_or t at 0 = leb-true _ _ both.0 in
    let high : get_or t at 0 ≤ 57 = leb-true _ _ both.1 in
    let read = read_in_sure t at 0 0 (omega (arith, lt)) (omega arith) (omega (arith, low, get)) (omega (arith, high, get)) (read_in_none t at (omega (arith, lt))) (omega arith) in
    let value : 0 * 10 + (get_or t (at + 0) 0 - 48) ≡ get_or t at 0 - 48 = omega (arith, get) in
    let one : 0 + 1 ≡ 1 = omega arith in
    subst (λ v. IsReadIn t at v 1) value (subst (λ n. IsReadIn t at (0 * 10 + (get_or t (at + 0) 0 - 48)) n) one read.0)

-- ---- a number

-- the number that the digits are, in a beginning of the text that ends behind them or that has a space there
read_digits_are_number_at : (t : List ℕ) (at ender value size n : ℕ) → IsReadIn t at value size → get_or t (at + size) 0 ≡ ender → n ≤ length t → (n ≡ at + size) ⊎ ((at + size < n) × (ender ≡ 32)) → IsNumberAt (drop at (take n t)) value size
read_digits_are_number_at t at ender value size n h is most (inl e) =
    read_to_end (drop at (take n t)) size value (omega (arith, length-drop at (take n t), length-take-le n t most, e)) h.1 (h.4 n (omega (arith, e)) most)
read_digits_are_number_at t at ender value size n h is most (inr p) =
    read_to_space (drop at (take n t)) size value (place_in_beginning_of_text t n at size most p.0) h.1 (byte_in_beginning_of_text t n at size p.0 ∙ is ∙ p.1) (h.4 n (omega (arith, p.0)) most)

pub read_digits_are_number_then : (t : List ℕ) (at ender value size : ℕ) → IsReadIn t at value size → (size ≡ 0 → ⊥) → get_or t (at + size) 0 ≡ ender → IsNumberThen t at ender value (at + size)
read_digits_are_number_then t at ender value size h some is lt = (
  omega (arith, some),
  omega (arith, h.1),
  is,
  λ s e. let last : size ≡ suc (size - 1) = omega (arith, some) in let same : at + (size - 1) ≡ s = omega (arith, e, some) in subst (λ k. 48 ≤ get_or t k 0) same (h.2 (size - 1) last),
  h.3,
  λ n most way le. (omega (arith, reaches n way, some, length-take-le n t most), number_and_words_behind_it (take n t) at value size (read_digits_are_number_at t at ender value size n h is most way) some),
)
  where
    reaches : (n : ℕ) → (n ≡ at + size) ⊎ ((at + size < n) × (ender ≡ 32)) → at + size ≤ n
    reaches n (inl e) = omega (arith, e)
    reaches n (inr p) = omega (arith, p.0)
