-- Numbers, digit by digit, and tables.
use Rattle.std.proofs.Common.{◌≡◌, refl, ℕ, ◌+◌, ◌-◌, ◌*◌, ◌^◌, ◌<◌, ◌≤◌, Bool, true, false, cond, List, [], ◌∷◌, take, drop, length, get_or, Some, None, nat_lt, nat_le, Option, ap, sym, subst, ◌∙◌, arith, add-one, drop-cons, leb-true, le-leb, ne_eqb, ltb-true, ltb-false, lt-ltb, le-ltb, lit<}
use Rattle.std.specs.Prelude.{find, option_and_then, option_map, ◌&&◌, ◌==◌, suc, zero}
use Rattle.std.proofs.Math.Nat.{pow-succ'}
use Rattle.std.proofs.Math.Seq.{drop-drop}
use Rattle.std.proofs.lemmas.Bool.{and_parts}
use Rattle.std.proofs.lemmas.Bool.Decides.{nat_tests}
use Rattle.std.proofs.lemmas.List.{drop_all}
use Rattle.std.proofs.lemmas.Str.{digit_value_digit}
use Rattle.std.specs.Char.{is_ascii_digit, digit_value}
use Rattle.std.specs.List.{list_all}
use Rattle.std.specs.Str.Parse.{digits_value_after}
use Rattle.session_grammar.specs.Grammar.{words_of_line, value_of_digits, number_of_word, next_number}
use Rattle.session_grammar.specs.Reads.{word_size, first_word, with_digit, with_size, value_from, IsReadTo, IsNumberAt}
use Rattle.session_grammar.proofs.Plain.{guard_of_none_is_none}
use Rattle.session_grammar.proofs.Firsts.{word_size_at_space, word_size_past_other_byte, first_word_keeps_other_byte, first_word_has_word_size, some_with_size_is_read, drop_at_is_byte_and_rest}
use Rattle.session_grammar.proofs.TextWords.{words_first}

-- ---- digits, read one after the other with a bound at each

-- the same with one bound, of the value of all digits
abbrev bounded_value_after_digits : ℕ → List ℕ → Option ℕ
bounded_value_after_digits n bs = cond (list_all is_ascii_digit bs && nat_lt (digits_value_after 10 n bs) (2 ^ 64)) (Some (digits_value_after 10 n bs)) None

value_not_lessened_by_digits : (n : ℕ) (bs : List ℕ) → n ≤ digits_value_after 10 n bs
value_not_lessened_by_digits n [] = omega arith
value_not_lessened_by_digits n (b ∷ bs) = omega (arith, value_not_lessened_by_digits (n * 10 + digit_value b) bs)

digit_by_subtracting_zero : (b : ℕ) → is_ascii_digit b ≡ true → b - 48 ≡ digit_value b
digit_by_subtracting_zero b e =
    let both = and_parts _ _ e in
    let low : 48 ≤ b = leb-true 48 b both.0 in
    let high : b ≤ 57 = leb-true b 57 both.1 in
    omega (arith, digit_value_digit b (low, high))

guard_with_false_is_none : (v : Bool) (o : Option ℕ) → cond (v && false) o None ≡ None
guard_with_false_is_none true o = refl
guard_with_false_is_none false o = refl

none_is_guard_with_false : (v : Bool) (o : Option ℕ) → None ≡ cond (v && false) o None
none_is_guard_with_false v o = sym (guard_with_false_is_none v o)

value_from_one_digit : (n b : ℕ) (bs : List ℕ) (v u : Bool) → is_ascii_digit b ≡ v → nat_lt (n * 10 + (b - 48)) (2 ^ 64) ≡ u → ((m : ℕ) → m < 2 ^ 64 → value_from m bs ≡ bounded_value_after_digits m bs)
    → option_and_then (λ m. value_from m bs) (cond v (cond u (Some (n * 10 + (b - 48))) None) None) ≡ cond ((v && list_all is_ascii_digit bs) && nat_lt (digits_value_after 10 n (b ∷ bs)) (2 ^ 64)) (Some (digits_value_after 10 n (b ∷ bs))) None
value_from_one_digit n b bs true true e h others = others (n * 10 + (b - 48)) (ltb-true _ _ h) ∙ ap (λ d. bounded_value_after_digits (n * 10 + d) bs) (digit_by_subtracting_zero b e)
value_from_one_digit n b bs true false e h others =
    let value = digits_value_after 10 n (b ∷ bs) in
    let same : b - 48 ≡ digit_value b = digit_by_subtracting_zero b e in
    let least : 2 ^ 64 ≤ n * 10 + (b - 48) = ltb-false _ _ h in
    let more : n * 10 + digit_value b ≤ value = value_not_lessened_by_digits (n * 10 + digit_value b) bs in
    let past : nat_lt value (2 ^ 64) ≡ false = le-ltb value (2 ^ 64) (omega (arith, same, least, more)) in
    none_is_guard_with_false (list_all is_ascii_digit bs) (Some value) ∙ ap (λ u. cond (list_all is_ascii_digit bs && u) (Some value) None) (sym past)
value_from_one_digit n b bs false u e h others = refl

-- the bound at each digit is that of the value
value_bounded : (bs : List ℕ) (n : ℕ) → n < 2 ^ 64 → value_from n bs ≡ bounded_value_after_digits n bs
value_bounded [] n h = sym (ap (λ v. cond v (Some n) None) (lt-ltb n (2 ^ 64) h))
value_bounded (b ∷ bs) n h = value_from_one_digit n b bs (is_ascii_digit b) (nat_lt (n * 10 + (b - 48)) (2 ^ 64)) refl refl (value_bounded bs)

pub value_from_nothing_is_value : (bs : List ℕ) → value_from 0 bs ≡ value_of_digits bs
value_from_nothing_is_value bs = value_bounded bs 0 (lit< tt)

-- ---- the first word's digits

pub nothing_read_yet_is_zero : (t : List ℕ) → IsReadTo t t 0 0
nothing_read_yet_is_zero t = (omega arith, sym (value_from_nothing_is_value (first_word t)))

pub one_digit_read_further : (t : List ℕ) (i value n : ℕ) → i < length t → (get_or t i 0 ≡ 32 → ⊥) → Some n ≡ with_digit value (get_or t i 0) → IsReadTo t (drop i t) i value → IsReadTo t (drop (i + 1) t) (i + 1) n
one_digit_read_further t i value n lt other digit h =
    let b = get_or t i 0 in
    let rest = drop (i + 1) t in
    let begins = drop_at_is_byte_and_rest t i lt in
    let longer : word_size (drop i t) ≡ suc (word_size rest) = ap word_size begins ∙ word_size_past_other_byte b rest (ne_eqb b 32 other) in (
      omega (arith, h.0, longer),
      h.1 ∙ ap (λ l. value_from value (first_word l)) begins ∙ ap (λ l. value_from value l) (first_word_keeps_other_byte b rest (ne_eqb b 32 other)) ∙ ap (λ o. option_and_then (λ k. value_from k (first_word rest)) o) (sym digit),
    )

word_without_value_no_number : (t : List ℕ) → value_of_digits (first_word t) ≡ None → number_of_word (first_word t) ≡ None
unfolding number_of_word
word_without_value_no_number t e = ap (λ o. cond (nat_lt 0 (length (first_word t)) && nat_le (length (first_word t)) 20) o None) e ∙ guard_of_none_is_none (nat_lt 0 (length (first_word t)) && nat_le (length (first_word t)) 20)

word_without_number_reads_zero : (t : List ℕ) → number_of_word (first_word t) ≡ None → IsNumberAt t 0 0
word_without_number_reads_zero t e = ap (with_size t) e

-- the first word has a byte that is no digit more
pub other_byte_ends_without_number : (t : List ℕ) (i value : ℕ) → i < length t → (get_or t i 0 ≡ 32 → ⊥) → None ≡ with_digit value (get_or t i 0) → IsReadTo t (drop i t) i value → IsNumberAt t 0 0
other_byte_ends_without_number t i value lt other digit h =
    let b = get_or t i 0 in
    let rest = drop (i + 1) t in
    word_without_number_reads_zero t (word_without_value_no_number t (h.1 ∙ ap (λ l. value_from value (first_word l)) (drop_at_is_byte_and_rest t i lt) ∙ ap (λ l. value_from value l) (first_word_keeps_other_byte b rest (ne_eqb b 32 other)) ∙ ap (λ o. option_and_then (λ k. value_from k (first_word rest)) o) (sym digit)))

-- the first word has more than 20 bytes
word_over_twenty_no_number : (t : List ℕ) → nat_le (word_size t) 20 ≡ false → number_of_word (first_word t) ≡ None
unfolding number_of_word
word_over_twenty_no_number t e =
    ap (λ n. cond (nat_lt 0 n && nat_le n 20) (value_of_digits (first_word t)) None) (first_word_has_word_size t)
    ∙ ap (λ v. cond (nat_lt 0 (word_size t) && v) (value_of_digits (first_word t)) None) e
    ∙ guard_with_false_is_none (nat_lt 0 (word_size t)) (value_of_digits (first_word t))

pub digits_past_twenty_no_number : (t : List ℕ) (value : ℕ) → 20 < length t → (get_or t 20 0 ≡ 32 → ⊥) → IsReadTo t (drop 20 t) 20 value → IsNumberAt t 0 0
digits_past_twenty_no_number t value lt other h =
    let longer : word_size (drop 20 t) ≡ suc (word_size (drop 21 t)) = ap word_size (drop_at_is_byte_and_rest t 20 lt) ∙ word_size_past_other_byte (get_or t 20 0) (drop 21 t) (ne_eqb (get_or t 20 0) 32 other) in
    let past : 20 < word_size t = omega (arith, h.0, longer) in
    let more : nat_le (word_size t) 20 ≡ false = grind (arith, nat_tests, past) in
    word_without_number_reads_zero t (word_over_twenty_no_number t more)

nonempty_value_with_size : (value size : ℕ) → (size ≡ 0 → ⊥) → cond {A = Option (ℕ × ℕ)} (size == 0) None (Some (value, size)) ≡ Some (value, size)
nonempty_value_with_size value size some = ap (λ v. cond {A = Option (ℕ × ℕ)} v None (Some (value, size))) (ne_eqb size 0 some)

word_of_digits_is_number : (t : List ℕ) (size value : ℕ) → word_size t ≡ size → size ≤ 20 → value_of_digits (first_word t) ≡ Some value → IsNumberAt t value size
unfolding number_of_word
word_of_digits_is_number t zero value is most has = ap (λ n. with_size t (cond (nat_lt 0 n && nat_le n 20) (value_of_digits (first_word t)) None)) (first_word_has_word_size t ∙ is)
word_of_digits_is_number t (suc n) value is most has =
    let few : nat_le (suc n) 20 ≡ true = le-leb (suc n) 20 most in
    let some : nat_lt 0 (suc n) ≡ true = lt-ltb 0 (suc n) (omega arith) in
    ap (λ m. with_size t (cond (nat_lt 0 m && nat_le m 20) (value_of_digits (first_word t)) None)) (first_word_has_word_size t ∙ is)
    ∙ ap (λ v. with_size t (cond (v && nat_le (suc n) 20) (value_of_digits (first_word t)) None)) some
    ∙ ap (λ v. with_size t (cond v (value_of_digits (first_word t)) None)) few
    ∙ ap (with_size t) has
    ∙ ap {A = ℕ} {B = Option (ℕ × ℕ)} (λ m. Some (value, m)) is
    ∙ sym (nonempty_value_with_size value (suc n) (λ e. omega (arith, e)))

-- the first word ends here
digits_to_word_end_are_number : (t rest : List ℕ) (size value : ℕ) → size ≤ 20 → word_size rest ≡ 0 → IsReadTo t rest size value → IsNumberAt t value size
digits_to_word_end_are_number t rest size value most none h =
    word_of_digits_is_number t size value (omega (arith, h.0, none)) most (h.1 ∙ ap (λ n. value_from value (take n rest)) none)

pub read_to_space : (t : List ℕ) (size value : ℕ) → size < length t → size ≤ 20 → get_or t size 0 ≡ 32 → IsReadTo t (drop size t) size value → IsNumberAt t value size
read_to_space t size value lt most space h = digits_to_word_end_are_number t (drop size t) size value most (ap word_size (drop_at_is_byte_and_rest t size lt) ∙ word_size_at_space (get_or t size 0) (drop (size + 1) t) (ap (λ b. b == 32) space)) h

pub read_to_end : (t : List ℕ) (size value : ℕ) → length t ≤ size → size ≤ 20 → IsReadTo t (drop size t) size value → IsNumberAt t value size
read_to_end t size value le most h = digits_to_word_end_are_number t (drop size t) size value most (ap word_size (drop_all size t le)) h

-- ---- the value of 19 digits

power_of_ten_not_lessened : (i j : ℕ) → 10 ^ i ≤ 10 ^ (i + j)
power_of_ten_not_lessened i zero = let same : 10 ^ (i + 0) ≡ 10 ^ i = ap (λ n. 10 ^ n) (omega arith) in omega (arith, same)
power_of_ten_not_lessened i (suc j) = let least = power_of_ten_not_lessened i j in let next : 10 ^ (i + suc j) ≡ 10 * 10 ^ (i + j) = ap (λ n. 10 ^ n) (omega arith) ∙ pow-succ' 10 (i + j) in omega (arith, least, next)

pub digit_more_stays_below_limit : (i value d : ℕ) → i < 19 → value < 10 ^ i → d ≤ 9 → (value * 10 + d < 2 ^ 64) × (value * 10 + d < 10 ^ (i + 1))
digit_more_stays_below_limit i value d few less digit =
    let next : 10 ^ (i + 1) ≡ 10 * 10 ^ i = ap (λ n. 10 ^ n) (omega arith) ∙ pow-succ' 10 i in
    let small : value * 10 + d < 10 ^ (i + 1) = omega (arith, next, less, digit) in
    let all : i + 1 + (18 - i) ≡ 19 = omega (arith, few) in
    let most : 10 ^ (i + 1) ≤ 10 ^ 19 = subst (λ n. 10 ^ (i + 1) ≤ 10 ^ n) all (power_of_ten_not_lessened (i + 1) (18 - i)) in
    let fits : 10 ^ 19 < 2 ^ 64 = lit< tt in
    (omega (arith, small, most, fits), small)

-- a number of fewer digits, with a 0 behind it
pub short_value_times_ten_fits : (i value : ℕ) → i < 19 → value < 10 ^ i → value * 10 < 2 ^ 64
short_value_times_ten_fits i value few less = omega (arith, (digit_more_stays_below_limit i value 0 few less (omega arith)).0)

-- one of the first 19 digits
pub early_digit_read_surely : (t : List ℕ) (i value : ℕ) → i < length t → i < 19 → is_ascii_digit (get_or t i 0) ≡ true → IsReadTo t (drop i t) i value → value < 10 ^ i
    → IsReadTo t (drop (i + 1) t) (i + 1) (value * 10 + (get_or t i 0 - 48)) × (value * 10 + (get_or t i 0 - 48) < 10 ^ (i + 1))
early_digit_read_surely t i value lt few digit h less =
    let b = get_or t i 0 in
    let both = and_parts _ _ digit in
    let low : 48 ≤ b = leb-true 48 b both.0 in
    let high : b ≤ 57 = leb-true b 57 both.1 in
    let sure = digit_more_stays_below_limit i value (b - 48) few less (omega (arith, low, high)) in
    let is : Some (value * 10 + (b - 48)) ≡ with_digit value b = sym (ap (λ v. cond v (cond (nat_lt (value * 10 + (b - 48)) (2 ^ 64)) (Some (value * 10 + (b - 48))) None) None) digit ∙ ap (λ v. cond v (Some (value * 10 + (b - 48))) None) (lt-ltb _ _ sure.0)) in
    (one_digit_read_further t i value (value * 10 + (b - 48)) lt (λ e. omega (arith, low, e)) is h, sure.1)

-- neither a digit nor the end of a word
pub bad_byte_ends_no_number : (t : List ℕ) (i value : ℕ) → i < length t → (get_or t i 0 ≡ 32 → ⊥) → is_ascii_digit (get_or t i 0) ≡ false → IsReadTo t (drop i t) i value → IsNumberAt t 0 0
bad_byte_ends_no_number t i value lt other digit h =
    let b = get_or t i 0 in
    other_byte_ends_without_number t i value lt other (sym (ap (λ v. cond v (cond (nat_lt (value * 10 + (b - 48)) (2 ^ 64)) (Some (value * 10 + (b - 48))) None) None) digit)) h

-- ---- the number at a place

pub number_and_words_behind_it : (t : List ℕ) (at value size : ℕ) → IsNumberAt (drop at t) value size → (size ≡ 0 → ⊥) → next_number (words_of_line (drop at t)) ≡ Some (value, words_of_line (drop (at + size + 1) t))
number_and_words_behind_it t at value size h some =
    let u = drop at t in
    let with : Some (value, size) ≡ with_size u (number_of_word (first_word u)) = sym (h ∙ nonempty_value_with_size value size some) in
    let is = some_with_size_is_read u (number_of_word (first_word u)) value size with in
    let longer : 0 < word_size u = omega (arith, is.1, some) in
    ap next_number (words_first u longer)
    ∙ ap (λ o. option_map (λ n. (n, words_of_line (drop (word_size u + 1) u))) o) is.0
    ∙ ap (λ k. Some (value, words_of_line k)) (ap (λ n. drop (n + 1) u) (sym is.1) ∙ drop-drop (size + 1) at t ∙ ap (λ n. drop n t) (omega arith))

-- ---- tables

find_from_place_in_table : {X : Type 0} (f : X → Bool) (ks : List X) (i : ℕ) (d : X) → i < length ks → find f (drop i ks) ≡ cond (f (get_or ks i d)) (Some (get_or ks i d)) (find f (drop (i + 1) ks))
find_from_place_in_table f ks i d lt = let e : drop i ks ≡ get_or ks i d ∷ drop (i + 1) ks = rw (add-one, drop-cons ks i d) in ap (λ l. find f l) e

pub find_past_failing_item : {X : Type 0} (f : X → Bool) (ks : List X) (i : ℕ) (d : X) → i < length ks → f (get_or ks i d) ≡ false → find f (drop i ks) ≡ find f (drop (i + 1) ks)
find_past_failing_item f ks i d lt fails = find_from_place_in_table f ks i d lt ∙ ap (λ b. cond b (Some (get_or ks i d)) (find f (drop (i + 1) ks))) fails
