-- Words with single spaces between them are read as these words.
use Rattle.std.proofs.Common.{◌≡◌, ℕ, zero, suc, ◌-◌, ◌<◌, ◌≤◌, Bool, true, false, cond, ◌&&◌, List, [], ◌∷◌, ◌++◌, length, take, get_or, refl, ap, ◌∙◌, lt-ltb, leb-true, le-leb, arith}
use Rattle.std.specs.Prelude.{All, filter, nat_le, nat_lt, ◌==◌}
use Rattle.std.specs.List.{slice_split, list_all, AllByRecursion}
use Rattle.std.proofs.lemmas.List.{append-nil, length-append}
use Rattle.std.proofs.lemmas.Bool.{and_parts, and_from, ne_eqb}
use Rattle.std.proofs.lemmas.List.Elements.{All-cons, All-nil}
use Rattle.std.proofs.lemmas.List.Concat.{flat_map-cons}
use Rattle.std.proofs.lemmas.List.Splits.{slice_split_none, slice_split_at}
use Rattle.session_grammar.specs.Grammar.{words_of_line, is_plain, without_cr, command_of_text, command_of_words, command_of}
use Rattle.session_grammar.specs.declared.command.Command.TheVariants.{Bad}
use Rattle.session_lines.specs.EventLines.{and_words, spaced}
use Rattle.session_lines.specs.Laws.{is_sign, IsWord}

abbrev tests_as_blank : ℕ → Bool
tests_as_blank b = b == 32

sign_is_no_space : (b : ℕ) → is_sign b ≡ true → tests_as_blank b ≡ false
sign_is_no_space b sign = let low : 33 ≤ b = leb-true 33 b (and_parts (nat_le 0x21 b) (nat_le b 0x7e) sign).0 in ne_eqb b 32 (λ e. omega (arith, low, e))

word_unspaced : (w : List ℕ) → list_all is_sign w ≡ true → All (λ b. tests_as_blank b ≡ false) w
word_unspaced [] signs = All-nil (λ b. tests_as_blank b ≡ false)
word_unspaced (b ∷ w) signs =
    let both = and_parts (is_sign b) (list_all is_sign w) signs in
    All-cons (λ b. tests_as_blank b ≡ false) b w (sign_is_no_space b both.0) (word_unspaced w both.1)

spaced_words_split_again : (w : List ℕ) (ws : List (List ℕ)) → IsWord w → AllByRecursion IsWord ws → slice_split tests_as_blank (spaced w ws) ≡ w ∷ ws
spaced_words_split_again w [] word words = ap (slice_split tests_as_blank) (append-nil w) ∙ slice_split_none tests_as_blank w (word_unspaced w word.1)
spaced_words_split_again w (v ∷ ws) word words =
    ap (λ (t : List ℕ). slice_split tests_as_blank (w ++ t)) (flat_map-cons (λ (u : List ℕ). 32 ∷ u) v ws)
    ∙ slice_split_at tests_as_blank w 32 (spaced v ws) (word_unspaced w word.1) refl
    ∙ ap (λ (l : List (List ℕ)). w ∷ l) (spaced_words_split_again v ws words.0 words.1)

filter_keeps_all_words : (ws : List (List ℕ)) → AllByRecursion IsWord ws → filter (λ w. nat_lt 0 (length w)) ws ≡ ws
filter_keeps_all_words [] words = refl
filter_keeps_all_words ([] ∷ ws) words = absurd (omega (arith, words.0.0))
filter_keeps_all_words ((b ∷ w) ∷ ws) words =
    let others = filter (λ l. nat_lt 0 (length l)) ws in
    ap (λ (v : Bool). cond v ((b ∷ w) ∷ others) others) (lt-ltb 0 (length (b ∷ w)) (omega arith)) ∙ ap (λ (l : List (List ℕ)). (b ∷ w) ∷ l) (filter_keeps_all_words ws words.1)

pub words_spaced : (w : List ℕ) (ws : List (List ℕ)) → IsWord w → AllByRecursion IsWord ws → words_of_line (spaced w ws) ≡ w ∷ ws
unfolding words_of_line
words_spaced w ws word words = ap (filter (λ w. nat_lt 0 (length w))) (spaced_words_split_again w ws word words) ∙ filter_keeps_all_words (w ∷ ws) (word, words)

-- ---- all bytes are plain

plain_sign : (b : ℕ) → is_sign b ≡ true → (nat_le 0x20 b && nat_le b 0x7e) ≡ true
plain_sign b sign =
    let both = and_parts (nat_le 0x21 b) (nat_le b 0x7e) sign in
    and_from _ _ (le-leb 32 b (omega (arith, leb-true 33 b both.0))) both.1

plain_word : (w : List ℕ) → list_all is_sign w ≡ true → is_plain w ≡ true
plain_word [] signs = refl
plain_word (b ∷ w) signs =
    let both = and_parts (is_sign b) (list_all is_sign w) signs in
    and_from _ _ (plain_sign b both.0) (plain_word w both.1)

plain_append : (a b : List ℕ) → is_plain a ≡ true → is_plain b ≡ true → is_plain (a ++ b) ≡ true
plain_append [] b first second = second
plain_append (x ∷ a) b first second =
    let both = and_parts (nat_le 0x20 x && nat_le x 0x7e) (is_plain a) first in
    and_from _ _ both.0 (plain_append a b both.1 second)

plain_and_words : (ws : List (List ℕ)) → AllByRecursion IsWord ws → is_plain (and_words ws) ≡ true
plain_and_words [] words = refl
plain_and_words (w ∷ ws) words =
    ap is_plain (flat_map-cons (λ (u : List ℕ). 32 ∷ u) w ws) ∙ plain_append (32 ∷ w) (and_words ws) (plain_word w words.0.1) (plain_and_words ws words.1)

pub plain_spaced : (w : List ℕ) (ws : List (List ℕ)) → IsWord w → AllByRecursion IsWord ws → is_plain (spaced w ws) ≡ true
plain_spaced w ws word words = plain_append w (and_words ws) (plain_word w word.1) (plain_and_words ws words)

-- ---- and none is a CR

plain_text_byte_above_control : (t : List ℕ) (i : ℕ) → is_plain t ≡ true → i < length t → 0x20 ≤ get_or t i 0
plain_text_byte_above_control [] i plain within = absurd (omega (arith, within))
plain_text_byte_above_control (b ∷ t) zero plain within =
    let both = and_parts (nat_le 0x20 b && nat_le b 0x7e) (is_plain t) plain in
    leb-true 32 b (and_parts (nat_le 0x20 b) (nat_le b 0x7e) both.0).0
plain_text_byte_above_control (b ∷ t) (suc i) plain within =
    plain_text_byte_above_control t i (and_parts (nat_le 0x20 b && nat_le b 0x7e) (is_plain t) plain).1 (omega (arith, within))

text_without_return_is_uncut : (cr : Bool) (a b : List ℕ) → cr ≡ false → cond cr a b ≡ b
text_without_return_is_uncut true a b e = absurd cc
text_without_return_is_uncut false a b e = refl

plain_text_without_return : (t : List ℕ) → 0 < length t → is_plain t ≡ true → without_cr t ≡ t
plain_text_without_return t some plain =
    let high = plain_text_byte_above_control t (length t - 1) plain (omega (arith, some)) in
    text_without_return_is_uncut (get_or t (length t - 1) 0 == 13) (take (length t - 1) t) t (ne_eqb (get_or t (length t - 1) 0) 13 (λ e. omega (arith, high, e)))

-- a line of such words is read by its words
pub command_spaced : (w : List ℕ) (ws : List (List ℕ)) → IsWord w → AllByRecursion IsWord ws → command_of (spaced w ws) ≡ command_of_words (w ∷ ws)
unfolding command_of
command_spaced w ws word words =
    let t = spaced w ws in
    let plain : is_plain t ≡ true = plain_spaced w ws word words in
    ap command_of_text (plain_text_without_return t (omega (arith, word.0, length-append w (and_words ws))) plain)
    ∙ ap (λ (v : Bool). cond v (command_of_words (words_of_line t)) Bad) plain
    ∙ ap command_of_words (words_spaced w ws word words)
