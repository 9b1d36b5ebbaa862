-- Bytes outside 0x20 to 0x7e, which no word of a line holds that is read.
use Rattle.std.proofs.Common.{◌≡◌, ◌∙◌, ap, refl, sym, subst, ℕ, ◌≤◌, Bool, true, false, cond, ◌&&◌, List, [], ◌∷◌, ◌++◌, length, take, drop, Option, Some, None, nat_lt, nat_le, ◌==◌, codes, bytes_eq, filter, find, true≢false, lt-ltb, leb-true, le-leb, eqb-true, arith}
use Rattle.std.specs.Prelude.{option_map, option_and_then, unwrap_or}
use Rattle.std.specs.Char.{is_ascii_digit}
use Rattle.std.specs.List.{list_all, slice_split, onto_first}
use Rattle.std.proofs.lemmas.Bool.{and_parts, and_from}
use Rattle.std.proofs.lemmas.Slice.Eq.{bytes_eq-Decides}
use Rattle.heap_class.specs.declared.Kind.{Kind}
use Rattle.heap_class.specs.declared.Field.{Field}
use Rattle.heap_class.specs.Kinds.{kind_word}
use Rattle.heap_step.specs.declared.Event.TheVariants.{Class, ArrayClass, NewPrim, Snap, Mark, Drain, Finish}
use Rattle.heap_trail.specs.declared.Action.TheVariants.{Step}
use Rattle.session_grammar.specs.declared.command.Command.{Command}
use Rattle.session_grammar.specs.declared.command.Command.TheVariants.{Blank, Bad, Ask, End}
use Rattle.session_grammar.specs.Grammar.{words_of_line, is_plain, value_of_digits, number_of_word, number_or_dash, place_or_dash, all_kinds, kind_of_word, field_of_word, fields_of_words, next_number, next_number_or_dash, next_place_or_dash, next_kind, at_end, one_number, one_number_or_dash, one_place_or_dash, two_numbers, three_numbers, four_numbers, newprim_line, dump_command, Rule, class_rules, making_rules, access_rules, marking_rules, session_rules, all_rules, by_rule, class_line, array_line, command_of_words, command_of_text}
use Rattle.session_grammar.specs.Reads.{TakesMemory, MayTakeMemory, plain_field, plain_fields, plain_class, plain_array, plain_class_rules, plain_rules}

abbrev pub is_plain_byte : ℕ → Bool
is_plain_byte b = nat_le 0x20 b && nat_le b 0x7e

abbrev all_words_are_plain : List (List ℕ) → Bool
all_words_are_plain ws = list_all is_plain ws

-- ---- a text and its words

abbrev byte_equals_space : ℕ → Bool
byte_equals_space b = b == 32

and_is_associative : (x y z : Bool) → (x && (y && z)) ≡ ((x && y) && z)
and_is_associative true y z = refl
and_is_associative false y z = refl

plain_byte_onto_first_word : (b : ℕ) (ws : List (List ℕ)) → all_words_are_plain (onto_first b ws) ≡ (is_plain_byte b && all_words_are_plain ws)
plain_byte_onto_first_word b [] = sym (and_is_associative (is_plain_byte b) true true)
plain_byte_onto_first_word b (w ∷ ws) = sym (and_is_associative (is_plain_byte b) (is_plain w) (all_words_are_plain ws))

plain_words_cut_at_space : (b : ℕ) (ws : List (List ℕ)) (v : Bool) → byte_equals_space b ≡ v → (is_plain_byte b && all_words_are_plain ws) ≡ all_words_are_plain (cond v ([] ∷ ws) (onto_first b ws))
plain_words_cut_at_space b ws true e = ap (λ c. is_plain_byte c && all_words_are_plain ws) (eqb-true b 32 e)
plain_words_cut_at_space b ws false e = sym (plain_byte_onto_first_word b ws)

split_text_is_plain : (t : List ℕ) → is_plain t ≡ all_words_are_plain (slice_split byte_equals_space t)
split_text_is_plain [] = refl
split_text_is_plain (b ∷ t) = ap (λ v. is_plain_byte b && v) (split_text_is_plain t) ∙ plain_words_cut_at_space b (slice_split byte_equals_space t) (byte_equals_space b) refl

plain_words_without_empty_words : (ws : List (List ℕ)) → all_words_are_plain ws ≡ all_words_are_plain (filter (λ w. nat_lt 0 (length w)) ws)
plain_words_without_empty_words [] = refl
plain_words_without_empty_words ([] ∷ ws) = plain_words_without_empty_words ws
plain_words_without_empty_words ((b ∷ w) ∷ ws) =
    let others = filter (λ l. nat_lt 0 (length l)) ws in
    ap (λ v. is_plain (b ∷ w) && v) (plain_words_without_empty_words ws) ∙ ap (λ v. all_words_are_plain (cond v ((b ∷ w) ∷ others) others)) (sym (lt-ltb 0 (length (b ∷ w)) (omega arith)))

-- a text is plain if its words are
words_plain : (t : List ℕ) → is_plain t ≡ all_words_are_plain (words_of_line t)
unfolding words_of_line
words_plain t = split_text_is_plain t ∙ plain_words_without_empty_words (slice_split byte_equals_space t)

-- ---- words that are keywords, numbers and kinds

keyword_plain : (w key : List ℕ) → bytes_eq w key ≡ true → is_plain w ≡ is_plain key
keyword_plain w key e = ap is_plain ((bytes_eq-Decides w key).0 e)

digit_plain : (b : ℕ) → is_ascii_digit b ≡ true → is_plain_byte b ≡ true
digit_plain b e =
    let both = and_parts _ _ e in
    let low = leb-true 48 b both.0 in
    let high = leb-true b 57 both.1 in
    and_from _ _ (le-leb 32 b (omega (arith, low))) (le-leb b 126 (omega (arith, high)))

digits_plain : (w : List ℕ) → list_all is_ascii_digit w ≡ true → is_plain w ≡ true
digits_plain [] e = refl
digits_plain (b ∷ w) e = let both = and_parts _ _ e in and_from _ _ (digit_plain b both.0) (digits_plain w both.1)

some_from_guard : {A : Type 0} (v : Bool) (o : Option A) (x : A) → cond v o None ≡ Some x → (v ≡ true) × (o ≡ Some x)
some_from_guard true o x e = (refl, e)
some_from_guard false o x e = cc

word_of_number_is_plain : (w : List ℕ) (n : ℕ) → number_of_word w ≡ Some n → is_plain w ≡ true
unfolding number_of_word
word_of_number_is_plain w n e = digits_plain w (and_parts _ _ (some_from_guard _ _ n (some_from_guard _ (value_of_digits w) n e).1).0).0

kind_plain_word : (k : Kind) → is_plain (kind_word k) ≡ true
kind_plain_word Kind.Object = refl
kind_plain_word _ = refl

kind_found_first_or_later : (f : Kind → Bool) (first k : Kind) (others : Option Kind) (v : Bool) → f first ≡ v → (others ≡ Some k → f k ≡ true) → cond v (Some first) others ≡ Some k → f k ≡ true
kind_found_first_or_later f first k others true e h is = let same : first ≡ k = cc in subst (λ j. f j ≡ true) same e
kind_found_first_or_later f first k others false e h is = h is

found_kind_meets_test : (f : Kind → Bool) (ks : List Kind) (k : Kind) → find f ks ≡ Some k → f k ≡ true
found_kind_meets_test f [] k e = cc
found_kind_meets_test f (first ∷ ks) k e = kind_found_first_or_later f first k (find f ks) (f first) refl (found_kind_meets_test f ks k) e

pub kind_plain : (w : List ℕ) (k : Kind) → kind_of_word w ≡ Some k → is_plain w ≡ true
unfolding kind_of_word
kind_plain w k e = ap is_plain (sym ((bytes_eq-Decides (kind_word k) w).0 (found_kind_meets_test (λ j. bytes_eq (kind_word j) w) all_kinds k e))) ∙ kind_plain_word k

kind_long_word : (k : Kind) → 3 ≤ length (kind_word k)
kind_long_word Kind.Object = omega arith
kind_long_word _ = omega arith

-- a kind's word has 3 bytes or more
pub kind_long : (w : List ℕ) (k : Kind) → kind_of_word w ≡ Some k → 3 ≤ length w
unfolding kind_of_word
kind_long w k e = subst (λ l. 3 ≤ length l) ((bytes_eq-Decides (kind_word k) w).0 (found_kind_meets_test (λ j. bytes_eq (kind_word j) w) all_kinds k e)) (kind_long_word k)

-- ---- lines whose words are all plain

abbrev ReadWithRest : Type 0 → Type 0
ReadWithRest A = A × List (List ℕ)

-- a reading of the first word, which is plain if it gives something
abbrev IsPlainReadOf : {A : Type 0} → List (List ℕ) → Option (ReadWithRest A) → Type 0
IsPlainReadOf {A = A} ws o = (r : ReadWithRest A) → o ≡ Some r → all_words_are_plain ws ≡ all_words_are_plain r.1

-- all words are plain if they give something
abbrev GivesOnlyPlain : {A : Type 0} → List (List ℕ) → Option A → Type 0
GivesOnlyPlain {A = A} ws o = (c : A) → o ≡ Some c → all_words_are_plain ws ≡ true

word_read_keeps_rest_plain : {A : Type 0} (w : List ℕ) (ws : List (List ℕ)) (o : Option A) → ((x : A) → o ≡ Some x → is_plain w ≡ true) → IsPlainReadOf (w ∷ ws) (option_map (λ x. (x, ws)) o)
word_read_keeps_rest_plain w ws None h r e = cc
word_read_keeps_rest_plain w ws (Some x) h r e = let same : (x, ws) ≡ r = cc in ap (λ v. v && all_words_are_plain ws) (h x refl) ∙ ap (λ p. all_words_are_plain p.1) same

number_read_from_plain_words : (ws : List (List ℕ)) → IsPlainReadOf ws (next_number ws)
number_read_from_plain_words [] r e = cc
number_read_from_plain_words (w ∷ ws) r e = word_read_keeps_rest_plain w ws (number_of_word w) (word_of_number_is_plain w) r e

kind_read_from_plain_words : (ws : List (List ℕ)) → IsPlainReadOf ws (next_kind ws)
kind_read_from_plain_words [] r e = cc
kind_read_from_plain_words (w ∷ ws) r e = word_read_keeps_rest_plain w ws (kind_of_word w) (kind_plain w) r e

made_place_from_plain_word : (w : List ℕ) (o : Option ℕ) (s : Option ℕ) → ((n : ℕ) → o ≡ Some n → is_plain w ≡ true) → option_map Some o ≡ Some s → is_plain w ≡ true
made_place_from_plain_word w None s h e = cc
made_place_from_plain_word w (Some n) s h e = h n refl

number_or_dash_word_is_plain : (w : List ℕ) (v : Bool) (s : Option ℕ) → bytes_eq w (codes "-") ≡ v → cond v (Some None) (option_map Some (number_of_word w)) ≡ Some s → is_plain w ≡ true
number_or_dash_word_is_plain w true s e h = keyword_plain w (codes "-") e
number_or_dash_word_is_plain w false s e h = made_place_from_plain_word w (number_of_word w) s (word_of_number_is_plain w) h

dash_plain : (w : List ℕ) (s : Option ℕ) → number_or_dash w ≡ Some s → is_plain w ≡ true
dash_plain w s e = number_or_dash_word_is_plain w (bytes_eq w (codes "-")) s refl e

number_or_dash_read_plain : (ws : List (List ℕ)) → IsPlainReadOf ws (next_number_or_dash ws)
number_or_dash_read_plain [] r e = cc
number_or_dash_read_plain (w ∷ ws) r e = word_read_keeps_rest_plain w ws (number_or_dash w) (dash_plain w) r e

-- a word that begins with `@` is plain if the rest is
at_sign_word_is_plain : (w : List ℕ) → bytes_eq (take 1 w) (codes "@") ≡ true → is_plain (drop 1 w) ≡ true → is_plain w ≡ true
at_sign_word_is_plain [] e h = refl
at_sign_word_is_plain (b ∷ w) e h = and_from _ _ ((and_parts _ _ (keyword_plain (b ∷ []) (codes "@") e)).0) h

place_word_is_plain : (w : List ℕ) (v : Bool) (s : Option ℕ) → bytes_eq (take 1 w) (codes "@") ≡ v → cond v (option_map Some (number_of_word (drop 1 w))) (option_map Some (number_of_word w)) ≡ Some s → is_plain w ≡ true
place_word_is_plain w true s e h = at_sign_word_is_plain w e (made_place_from_plain_word (drop 1 w) (number_of_word (drop 1 w)) s (word_of_number_is_plain (drop 1 w)) h)
place_word_is_plain w false s e h = made_place_from_plain_word w (number_of_word w) s (word_of_number_is_plain w) h

place_or_dash_word_is_plain : (w : List ℕ) (v : Bool) (s : Option ℕ) → bytes_eq w (codes "-") ≡ v
    → cond v (Some None) (cond (bytes_eq (take 1 w) (codes "@")) (option_map Some (number_of_word (drop 1 w))) (option_map Some (number_of_word w))) ≡ Some s → is_plain w ≡ true
place_or_dash_word_is_plain w true s e h = keyword_plain w (codes "-") e
place_or_dash_word_is_plain w false s e h = place_word_is_plain w (bytes_eq (take 1 w) (codes "@")) s refl h

place_or_dash_is_plain : (w : List ℕ) (s : Option ℕ) → place_or_dash w ≡ Some s → is_plain w ≡ true
unfolding place_or_dash
place_or_dash_is_plain w s e = place_or_dash_word_is_plain w (bytes_eq w (codes "-")) s refl e

place_read_from_plain_words : (ws : List (List ℕ)) → IsPlainReadOf ws (next_place_or_dash ws)
place_read_from_plain_words [] r e = cc
place_read_from_plain_words (w ∷ ws) r e = word_read_keeps_rest_plain w ws (place_or_dash w) (place_or_dash_is_plain w) r e

line_end_gives_only_plain : {A : Type 0} (x : A) (ws : List (List ℕ)) → GivesOnlyPlain ws (at_end x ws)
line_end_gives_only_plain x [] c e = refl
line_end_gives_only_plain x (w ∷ ws) c e = cc

reading_in_turn_only_plain : {A B : Type 0} (ws : List (List ℕ)) (o : Option (ReadWithRest A)) (f : ReadWithRest A → Option B) → IsPlainReadOf ws o → ((r : ReadWithRest A) → GivesOnlyPlain r.1 (f r)) → GivesOnlyPlain ws (option_and_then f o)
reading_in_turn_only_plain ws None f h k c e = cc
reading_in_turn_only_plain ws (Some r) f h k c e = h r refl ∙ k r c e

mapped_reading_only_plain : {A B : Type 0} (ws : List (List ℕ)) (f : A → B) (o : Option A) → GivesOnlyPlain ws o → GivesOnlyPlain ws (option_map f o)
mapped_reading_only_plain ws f None h c e = cc
mapped_reading_only_plain ws f (Some x) h c e = h x refl

one_number_from_plain_words : (ws : List (List ℕ)) → GivesOnlyPlain ws (one_number ws)
one_number_from_plain_words ws = reading_in_turn_only_plain ws (next_number ws) (λ a. at_end a.0 a.1) (number_read_from_plain_words ws) (λ a. line_end_gives_only_plain a.0 a.1)

number_or_dash_only_plain : (ws : List (List ℕ)) → GivesOnlyPlain ws (one_number_or_dash ws)
number_or_dash_only_plain ws = reading_in_turn_only_plain ws (next_number_or_dash ws) (λ a. at_end a.0 a.1) (number_or_dash_read_plain ws) (λ a. line_end_gives_only_plain a.0 a.1)

place_alone_only_plain : (ws : List (List ℕ)) → GivesOnlyPlain ws (one_place_or_dash ws)
place_alone_only_plain ws = reading_in_turn_only_plain ws (next_place_or_dash ws) (λ a. at_end a.0 a.1) (place_read_from_plain_words ws) (λ a. line_end_gives_only_plain a.0 a.1)

two_numbers_only_plain : (ws : List (List ℕ)) → GivesOnlyPlain ws (two_numbers ws)
two_numbers_only_plain ws =
    reading_in_turn_only_plain ws (next_number ws) (λ a. option_and_then (λ b. at_end (a.0, b.0) b.1) (next_number a.1)) (number_read_from_plain_words ws)
    (λ a. reading_in_turn_only_plain a.1 (next_number a.1) (λ b. at_end (a.0, b.0) b.1) (number_read_from_plain_words a.1) (λ b. line_end_gives_only_plain (a.0, b.0) b.1))

three_numbers_only_plain : (ws : List (List ℕ)) → GivesOnlyPlain ws (three_numbers ws)
three_numbers_only_plain ws =
    reading_in_turn_only_plain ws (next_number ws) (λ a. option_and_then (λ b. option_and_then (λ c. at_end (a.0, b.0, c.0) c.1) (next_number b.1)) (next_number a.1)) (number_read_from_plain_words ws)
    (λ a. reading_in_turn_only_plain a.1 (next_number a.1) (λ b. option_and_then (λ c. at_end (a.0, b.0, c.0) c.1) (next_number b.1)) (number_read_from_plain_words a.1)
    (λ b. reading_in_turn_only_plain b.1 (next_number b.1) (λ c. at_end (a.0, b.0, c.0) c.1) (number_read_from_plain_words b.1) (λ c. line_end_gives_only_plain (a.0, b.0, c.0) c.1)))

four_numbers_only_plain : (ws : List (List ℕ)) → GivesOnlyPlain ws (four_numbers ws)
four_numbers_only_plain ws =
    reading_in_turn_only_plain ws (next_number ws) (λ a. option_and_then (λ b. option_and_then (λ c. option_and_then (λ d. at_end (a.0, b.0, c.0, d.0) d.1) (next_number c.1)) (next_number b.1)) (next_number a.1)) (number_read_from_plain_words ws)
    (λ a. reading_in_turn_only_plain a.1 (next_number a.1) (λ b. option_and_then (λ c. option_and_then (λ d. at_end (a.0, b.0, c.0, d.0) d.1) (next_number c.1)) (next_number b.1)) (number_read_from_plain_words a.1)
    (λ b. reading_in_turn_only_plain b.1 (next_number b.1) (λ c. option_and_then (λ d. at_end (a.0, b.0, c.0, d.0) d.1) (next_number c.1)) (number_read_from_plain_words b.1)
    (λ c. reading_in_turn_only_plain c.1 (next_number c.1) (λ d. at_end (a.0, b.0, c.0, d.0) d.1) (number_read_from_plain_words c.1) (λ d. line_end_gives_only_plain (a.0, b.0, c.0, d.0) d.1))))

newprim_plain : (ws : List (List ℕ)) → GivesOnlyPlain ws (newprim_line ws)
newprim_plain ws =
    reading_in_turn_only_plain ws (next_number ws) _ (number_read_from_plain_words ws)
    (λ m. reading_in_turn_only_plain m.1 (next_number m.1) _ (number_read_from_plain_words m.1)
    (λ r. reading_in_turn_only_plain r.1 (next_kind r.1) _ (kind_read_from_plain_words r.1)
    (λ k. reading_in_turn_only_plain k.1 (next_number k.1) _ (number_read_from_plain_words k.1) (λ n. line_end_gives_only_plain (Ask (Step (NewPrim m.0 r.0 k.0 n.0))) n.1))))

-- ---- a line of this first word, or else another one

keyword_line_or_other_plain : {A : Type 0} (w key : List ℕ) (ws : List (List ℕ)) (here other : Option A) (v : Bool) → bytes_eq w key ≡ v → is_plain key ≡ true → GivesOnlyPlain ws here → GivesOnlyPlain (w ∷ ws) other → GivesOnlyPlain (w ∷ ws) (cond v here other)
keyword_line_or_other_plain w key ws here other true e key_is h k c is = and_from _ _ (keyword_plain w key e ∙ key_is) (h c is)
keyword_line_or_other_plain w key ws here other false e key_is h k c is = k c is

and_then_of_condition : {A B : Type 0} (f : A → Option B) (v : Bool) (x : A) (o : Option A) → option_and_then f (cond v (Some x) o) ≡ cond v (f x) (option_and_then f o)
and_then_of_condition f true x o = refl
and_then_of_condition f false x o = refl

rule_tried_before_others : (w : List ℕ) (ws : List (List ℕ)) (rule : Rule) (rules : List Rule) → by_rule (rule ∷ rules) w ws ≡ cond (bytes_eq w rule.0) (rule.1 ws) (by_rule rules w ws)
unfolding by_rule
rule_tried_before_others w ws rule rules = and_then_of_condition (λ (r : Rule). r.1 ws) (bytes_eq w rule.0) rule (find (λ r. bytes_eq w r.0) rules)

rule_and_others_only_plain : (w : List ℕ) (ws : List (List ℕ)) (rule : Rule) (rules : List Rule) → is_plain rule.0 ≡ true → GivesOnlyPlain ws (rule.1 ws) → GivesOnlyPlain (w ∷ ws) (by_rule rules w ws) → GivesOnlyPlain (w ∷ ws) (by_rule (rule ∷ rules) w ws)
rule_and_others_only_plain w ws rule rules key h others c is = keyword_line_or_other_plain w rule.0 ws (rule.1 ws) (by_rule rules w ws) (bytes_eq w rule.0) refl key h others c (sym (rule_tried_before_others w ws rule rules) ∙ is)

no_rule_from_plain_words : (w : List ℕ) (ws : List (List ℕ)) → GivesOnlyPlain (w ∷ ws) (by_rule [] w ws)
unfolding by_rule
no_rule_from_plain_words w ws c e = cc

session_plain : (w : List ℕ) (ws : List (List ℕ)) → GivesOnlyPlain (w ∷ ws) (by_rule session_rules w ws)
unfolding session_rules
session_plain w ws =
    rule_and_others_only_plain w ws _ _ refl (mapped_reading_only_plain ws _ (one_number ws) (one_number_from_plain_words ws))
    (rule_and_others_only_plain w ws _ _ refl (mapped_reading_only_plain ws _ (one_place_or_dash ws) (place_alone_only_plain ws))
    (rule_and_others_only_plain w ws _ _ refl (mapped_reading_only_plain ws _ (one_number ws) (one_number_from_plain_words ws))
    (rule_and_others_only_plain w ws _ _ refl (mapped_reading_only_plain ws (λ pin. dump_command pin) (one_number_or_dash ws) (number_or_dash_only_plain ws))
    (rule_and_others_only_plain w ws _ _ refl (mapped_reading_only_plain ws _ (one_number ws) (one_number_from_plain_words ws))
    (rule_and_others_only_plain w ws _ _ refl (line_end_gives_only_plain End ws) (no_rule_from_plain_words w ws))))))

marking_plain : (w : List ℕ) (ws : List (List ℕ)) → GivesOnlyPlain (w ∷ ws) (by_rule (marking_rules ++ session_rules) w ws)
unfolding marking_rules
marking_plain w ws =
    rule_and_others_only_plain w ws _ _ refl (line_end_gives_only_plain (Ask (Step Snap)) ws)
    (rule_and_others_only_plain w ws _ _ refl (line_end_gives_only_plain (Ask (Step Mark)) ws)
    (rule_and_others_only_plain w ws _ _ refl (line_end_gives_only_plain (Ask (Step Drain)) ws)
    (rule_and_others_only_plain w ws _ _ refl (line_end_gives_only_plain (Ask (Step Finish)) ws)
    (rule_and_others_only_plain w ws _ _ refl (mapped_reading_only_plain ws _ (one_number ws) (one_number_from_plain_words ws)) (session_plain w ws)))))

access_plain : (w : List ℕ) (ws : List (List ℕ)) → GivesOnlyPlain (w ∷ ws) (by_rule (access_rules ++ (marking_rules ++ session_rules)) w ws)
unfolding access_rules
access_plain w ws =
    rule_and_others_only_plain w ws _ _ refl (mapped_reading_only_plain ws _ (four_numbers ws) (four_numbers_only_plain ws))
    (rule_and_others_only_plain w ws _ _ refl (mapped_reading_only_plain ws _ (four_numbers ws) (four_numbers_only_plain ws))
    (rule_and_others_only_plain w ws _ _ refl (mapped_reading_only_plain ws _ (four_numbers ws) (four_numbers_only_plain ws))
    (rule_and_others_only_plain w ws _ _ refl (mapped_reading_only_plain ws _ (four_numbers ws) (four_numbers_only_plain ws))
    (rule_and_others_only_plain w ws _ _ refl (mapped_reading_only_plain ws _ (two_numbers ws) (two_numbers_only_plain ws)) (marking_plain w ws)))))

making_plain : (w : List ℕ) (ws : List (List ℕ)) → GivesOnlyPlain (w ∷ ws) (by_rule (making_rules ++ (access_rules ++ (marking_rules ++ session_rules))) w ws)
unfolding making_rules
making_plain w ws =
    rule_and_others_only_plain w ws _ _ refl (mapped_reading_only_plain ws _ (three_numbers ws) (three_numbers_only_plain ws))
    (rule_and_others_only_plain w ws _ _ refl (mapped_reading_only_plain ws _ (four_numbers ws) (four_numbers_only_plain ws))
    (rule_and_others_only_plain w ws _ _ refl (newprim_plain ws) (access_plain w ws)))

-- ---- lines with names

pub guard_of_none_is_none : {A : Type 0} (v : Bool) → cond {A = Option A} v None None ≡ None
guard_of_none_is_none true = refl
guard_of_none_is_none false = refl

-- what comes only of plain words
guarded_by_plain_words : {A : Type 0} (o : Option A) (v : Bool) → ((x : A) → o ≡ Some x → v ≡ true) → o ≡ cond v o None
guarded_by_plain_words o true h = refl
guarded_by_plain_words None false h = refl
guarded_by_plain_words (Some x) false h = absurd (true≢false (sym (h x refl)))

and_then_of_guard : {A B : Type 0} (f : A → Option B) (v : Bool) (x : A) → option_and_then f (cond v (Some x) None) ≡ cond v (f x) None
and_then_of_guard f true x = refl
and_then_of_guard f false x = refl

pub map_of_guard : {A B : Type 0} (f : A → B) (v : Bool) (o : Option A) → option_map f (cond v o None) ≡ cond v (option_map f o) None
map_of_guard f true o = refl
map_of_guard f false o = refl

pub guards_of_both_tests : {A : Type 0} (u v : Bool) (o : Option A) → cond u (cond v o None) None ≡ cond (u && v) o None
guards_of_both_tests true v o = refl
guards_of_both_tests false v o = refl

abbrev fields_with_one_in_front : Option (List Field) → Field → Option (List Field)
fields_with_one_in_front rest f = option_map (λ fs. f ∷ fs) rest

guarded_field_and_fields : (u v : Bool) (o : Option Field) (rest : Option (List Field)) → option_and_then (fields_with_one_in_front (cond v rest None)) (cond u o None) ≡ cond (u && v) (option_and_then (fields_with_one_in_front rest) o) None
guarded_field_and_fields true v None rest = sym (guard_of_none_is_none v)
guarded_field_and_fields true v (Some f) rest = map_of_guard (λ fs. f ∷ fs) v rest
guarded_field_and_fields false v o rest = refl

fields_plain : (ws : List (List ℕ)) → plain_fields ws ≡ cond (all_words_are_plain ws) (fields_of_words ws) None
fields_plain [] = refl
fields_plain (w ∷ ws) = ap (λ rest. option_and_then (fields_with_one_in_front rest) (plain_field w)) (fields_plain ws) ∙ guarded_field_and_fields (is_plain w) (all_words_are_plain ws) (field_of_word w) (fields_of_words ws)

-- a class of this name and super
abbrev class_command_with_fields : List ℕ → Option ℕ → Option (List Field) → Option Command
class_command_with_fields name sup fields = option_map (λ fs. Ask (Step (Class name sup fs))) fields

super_if : (name : List ℕ) (o : Option (Option ℕ)) (ws : List (List ℕ)) → option_and_then (λ (s : Option ℕ × List (List ℕ)). class_command_with_fields name s.0 (plain_fields s.1)) (option_map (λ n. (n, ws)) o) ≡ cond (all_words_are_plain ws) (option_and_then (λ s. class_command_with_fields name s (fields_of_words ws)) o) None
super_if name None ws = sym (guard_of_none_is_none (all_words_are_plain ws))
super_if name (Some s) ws = ap (class_command_with_fields name s) (fields_plain ws) ∙ map_of_guard (λ fs. Ask (Step (Class name s fs))) (all_words_are_plain ws) (fields_of_words ws)

super_plain : (name : List ℕ) (o : Option (Option ℕ)) (ws : List (List ℕ)) (v : Bool) → ((s : Option ℕ) → o ≡ Some s → v ≡ true) → option_and_then (λ (s : Option ℕ × List (List ℕ)). class_command_with_fields name s.0 (plain_fields s.1)) (option_map (λ n. (n, ws)) o) ≡ cond (v && all_words_are_plain ws) (option_and_then (λ s. class_command_with_fields name s (fields_of_words ws)) o) None
super_plain name o ws true h = super_if name o ws
super_plain name None ws false h = refl
super_plain name (Some s) ws false h = absurd (true≢false (sym (h s refl)))

abbrev class_command_after_name : List ℕ → List (List ℕ) → Option Command
class_command_after_name name ws = option_and_then (λ (s : Option ℕ × List (List ℕ)). class_command_with_fields name s.0 (plain_fields s.1)) (next_number_or_dash ws)

class_plain : (ws : List (List ℕ)) → plain_class ws ≡ cond (all_words_are_plain ws) (class_line ws) None
class_plain [] = refl
class_plain (name ∷ []) = and_then_of_guard (λ n. class_command_after_name n.0 n.1) (is_plain name) (name, []) ∙ guard_of_none_is_none (is_plain name) ∙ sym (guard_of_none_is_none (is_plain name && true))
class_plain (name ∷ sup ∷ ws) =
    and_then_of_guard (λ n. class_command_after_name n.0 n.1) (is_plain name) (name, sup ∷ ws)
    ∙ ap (λ o. cond (is_plain name) o None) (super_plain name (number_or_dash sup) ws (is_plain sup) (dash_plain sup))
    ∙ guards_of_both_tests (is_plain name) (is_plain sup && all_words_are_plain ws) (class_line (name ∷ sup ∷ ws))

abbrev array_command_with_end : List ℕ → List (List ℕ) → Option Command
array_command_with_end name ws = at_end (Ask (Step (ArrayClass name))) ws

guarded_array_command : (name : List ℕ) (v : Bool) (ws : List (List ℕ)) → cond v (array_command_with_end name ws) None ≡ cond (v && all_words_are_plain ws) (array_command_with_end name ws) None
guarded_array_command name true [] = refl
guarded_array_command name false [] = refl
guarded_array_command name v (w ∷ ws) = guard_of_none_is_none v ∙ sym (guard_of_none_is_none (v && all_words_are_plain (w ∷ ws)))

array_plain : (ws : List (List ℕ)) → plain_array ws ≡ cond (all_words_are_plain ws) (array_line ws) None
array_plain [] = refl
array_plain (name ∷ ws) = and_then_of_guard (λ n. array_command_with_end n.0 n.1) (is_plain name) (name, ws) ∙ guarded_array_command name (is_plain name) ws

-- ---- what a text asks for, by its words

abbrev rules_without_class_and_array : List Rule
rules_without_class_and_array = making_rules ++ (access_rules ++ (marking_rules ++ session_rules))

two_rules_before_others : (w : List ℕ) (ws : List (List ℕ)) (x y : Rule) (rules : List Rule) → by_rule (x ∷ y ∷ rules) w ws ≡ cond (bytes_eq w x.0) (x.1 ws) (cond (bytes_eq w y.0) (y.1 ws) (by_rule rules w ws))
two_rules_before_others w ws x y rules = rule_tried_before_others w ws x (y ∷ rules) ∙ ap (λ o. cond (bytes_eq w x.0) (x.1 ws) o) (rule_tried_before_others w ws y rules)

line_read_if_words_plain : (w : List ℕ) (ws : List (List ℕ)) (c a : Bool) → bytes_eq w (codes "class") ≡ c → bytes_eq w (codes "array") ≡ a
    → cond c (plain_class ws) (cond a (plain_array ws) (by_rule rules_without_class_and_array w ws)) ≡ cond (all_words_are_plain (w ∷ ws)) (cond c (class_line ws) (cond a (array_line ws) (by_rule rules_without_class_and_array w ws))) None
line_read_if_words_plain w ws true a e h = class_plain ws ∙ ap (λ v. cond (v && all_words_are_plain ws) (class_line ws) None) (sym (keyword_plain w (codes "class") e))
line_read_if_words_plain w ws false true e h = array_plain ws ∙ ap (λ v. cond (v && all_words_are_plain ws) (array_line ws) None) (sym (keyword_plain w (codes "array") h))
line_read_if_words_plain w ws false false e h = guarded_by_plain_words (by_rule rules_without_class_and_array w ws) (all_words_are_plain (w ∷ ws)) (making_plain w ws)

-- a line is read if its words are plain
plain_rules_read_plain_words : (w : List ℕ) (ws : List (List ℕ)) → by_rule plain_rules w ws ≡ cond (all_words_are_plain (w ∷ ws)) (by_rule all_rules w ws) None
unfolding class_rules plain_class_rules
plain_rules_read_plain_words w ws =
    two_rules_before_others w ws (codes "class", plain_class) (codes "array", plain_array) rules_without_class_and_array
    ∙ line_read_if_words_plain w ws _ _ refl refl
    ∙ ap (λ o. cond (all_words_are_plain (w ∷ ws)) o None) (sym (two_rules_before_others w ws (codes "class", class_line) (codes "array", array_line) rules_without_class_and_array))

text_of_words : (t : List ℕ) (ws : List (List ℕ)) → words_of_line t ≡ ws → command_of_text t ≡ cond (all_words_are_plain ws) (command_of_words ws) Bad
text_of_words t ws e = ap (λ v. cond v (command_of_words (words_of_line t)) Bad) (words_plain t) ∙ ap (λ l. cond (all_words_are_plain l) (command_of_words l) Bad) e

pub text_without_words_is_blank : (t : List ℕ) → words_of_line t ≡ [] → Blank ≡ command_of_text t
text_without_words_is_blank t e = sym (text_of_words t [] e)

guard_or_bad_command : (v : Bool) (o : Option Command) → unwrap_or (cond v o None) Bad ≡ cond v (unwrap_or o Bad) Bad
guard_or_bad_command true o = refl
guard_or_bad_command false o = refl

pub text_read_by_plain_rules : (t w : List ℕ) (ws : List (List ℕ)) → words_of_line t ≡ w ∷ ws → unwrap_or (by_rule plain_rules w ws) Bad ≡ command_of_text t
text_read_by_plain_rules t w ws e = ap (λ o. unwrap_or o Bad) (plain_rules_read_plain_words w ws) ∙ guard_or_bad_command (all_words_are_plain (w ∷ ws)) (by_rule all_rules w ws) ∙ sym (text_of_words t (w ∷ ws) e)

command_takes_memory_or_bad : (o : Option Command) → MayTakeMemory o → TakesMemory (unwrap_or o Bad)
command_takes_memory_or_bad None h = h
command_takes_memory_or_bad (Some c) h = h

-- the line's memory is the text's
pub text_takes_memory_of_line : (t : List ℕ) (o : Option Command) → unwrap_or o Bad ≡ command_of_text t → MayTakeMemory o → TakesMemory (command_of_text t)
text_takes_memory_of_line t o e h = subst TakesMemory e (command_takes_memory_or_bad o h)
