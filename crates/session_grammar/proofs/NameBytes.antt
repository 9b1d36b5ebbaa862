-- Names and fields, byte by byte.
use Rattle.std.proofs.Common.{◌≡◌, ◌∙◌, ap, refl, sym, ℕ, ◌+◌, ◌-◌, ◌≤◌, ◌<◌, Bool, true, false, cond, ◌&&◌, ◌||◌, List, [], ◌∷◌, take, drop, length, get_or, Option, Some, None, nat_lt, ◌==◌, arith, ne_eqb, eqb-true, true≢false}
use Rattle.std.specs.Prelude.{not, suc, option_map, option_and_then}
use Rattle.std.specs.Char.{is_ascii_graphic}
use Rattle.std.specs.List.{position, position_or_len}
use Rattle.std.proofs.lemmas.List.{take_all, drop_all, length-drop}
use Rattle.std.proofs.lemmas.Bool.Decides.{nat_tests}
use Rattle.heap_class.specs.declared.Kind.{Kind}
use Rattle.heap_class.specs.declared.Field.{Field}
use Rattle.session_grammar.specs.Grammar.{is_plain, kind_of_word, field_of_word}
use Rattle.session_grammar.specs.Reads.{word_size, first_word, with_size, name_at, plain_field}
use Rattle.session_grammar.proofs.Firsts.{word_size_at_space, word_size_past_other_byte, first_word_at_space, first_word_keeps_other_byte, first_word_has_word_size, some_with_size_is_read, none_with_size_is_none, drop_at_is_byte_and_rest}
use Rattle.session_grammar.proofs.TextWords.{no_position_past_end, position_found_within_list}
use Rattle.session_grammar.proofs.Plain.{is_plain_byte, kind_plain, kind_long}

-- ---- bytes

graphic_byte_is_no_space : (b : ℕ) → is_ascii_graphic b ≡ true → (b == 32) ≡ false
graphic_byte_is_no_space b e = grind (arith, nat_tests)

graphic_plain : (b : ℕ) → is_ascii_graphic b ≡ true → is_plain_byte b ≡ true
graphic_plain b e = grind (arith, nat_tests)

bad_byte : (b : ℕ) → is_ascii_graphic b ≡ false → (b == 32) ≡ false → is_plain_byte b ≡ false
bad_byte b e h = grind (arith, nat_tests)

-- ---- names

abbrev pub name_end : List ℕ → ℕ
name_end t = position_or_len (λ b. not (is_ascii_graphic b)) t

-- a word ends here
abbrev pub stops : List ℕ → Bool
stops [] = true
stops (b ∷ t) = b == 32

-- the name that ends here, if a word does
abbrev name_end_if_word_stops : ℕ → List ℕ → Option ℕ
name_end_if_word_stops n rest = cond (stops rest) (Some n) None

guarded_number_one_up : (v : Bool) (n : ℕ) → option_map (λ m. suc m) (cond v (Some n) None) ≡ cond v (Some (suc n)) None
guarded_number_one_up true n = refl
guarded_number_one_up false n = refl

name_one_good_byte_longer : (b : ℕ) (t : List ℕ) → is_ascii_graphic b ≡ true → name_at t ≡ name_end_if_word_stops (name_end t) (drop (name_end t) t) → name_at (b ∷ t) ≡ name_end_if_word_stops (name_end (b ∷ t)) (drop (name_end (b ∷ t)) (b ∷ t))
name_one_good_byte_longer b t e h =
    let other = graphic_byte_is_no_space b e in
    let n : name_end (b ∷ t) ≡ 1 + name_end t = ap (λ v. cond (not (not v)) (1 + name_end t) 0) e in
    let n' : name_end (b ∷ t) ≡ suc (name_end t) = omega (arith, n) in
    let left : name_at (b ∷ t) ≡ cond (is_plain (first_word t)) (Some (suc (word_size t))) None =
    ap (λ w. cond (is_plain w) (Some (word_size (b ∷ t))) None) (first_word_keeps_other_byte b t other)
    ∙ ap (λ v. cond (v && is_plain (first_word t)) (Some (word_size (b ∷ t))) None) (graphic_plain b e)
    ∙ ap (λ m. cond (is_plain (first_word t)) (Some m) None) (word_size_past_other_byte b t other) in
    left
    ∙ sym (guarded_number_one_up (is_plain (first_word t)) (word_size t))
    ∙ ap (λ o. option_map (λ m. suc m) o) h
    ∙ guarded_number_one_up (stops (drop (name_end t) t)) (name_end t)
    ∙ ap (λ m. name_end_if_word_stops m (drop m (b ∷ t))) (sym n')

no_name_at_bad_byte : (b : ℕ) (t : List ℕ) (v : Bool) → (b == 32) ≡ v → is_ascii_graphic b ≡ false → name_at (b ∷ t) ≡ cond v (Some 0) None
no_name_at_bad_byte b t true e h = ap (λ w. cond (is_plain w) (Some (word_size (b ∷ t))) None) (first_word_at_space b t e) ∙ ap (λ m. Some m) (word_size_at_space b t e)
no_name_at_bad_byte b t false e h =
    ap (λ w. cond (is_plain w) (Some (word_size (b ∷ t))) None) (first_word_keeps_other_byte b t e) ∙ ap (λ v. cond (v && is_plain (first_word t)) (Some (word_size (b ∷ t))) None) (bad_byte b h e)

name_after_one_byte : (b : ℕ) (t : List ℕ) (v : Bool) → is_ascii_graphic b ≡ v → name_at t ≡ name_end_if_word_stops (name_end t) (drop (name_end t) t) → name_at (b ∷ t) ≡ name_end_if_word_stops (name_end (b ∷ t)) (drop (name_end (b ∷ t)) (b ∷ t))
name_after_one_byte b t true e h = name_one_good_byte_longer b t e h
name_after_one_byte b t false e h =
    let n : name_end (b ∷ t) ≡ 0 = ap (λ v. cond (not (not v)) (1 + name_end t) 0) e in
    no_name_at_bad_byte b t (b == 32) refl e ∙ ap (λ m. name_end_if_word_stops m (drop m (b ∷ t))) (sym n)

-- the first word is a name if its good bytes end with it
pub first_word_name_to_end : (t : List ℕ) → name_at t ≡ cond (stops (drop (name_end t) t)) (Some (name_end t)) None
first_word_name_to_end [] = refl
first_word_name_to_end (b ∷ t) = name_after_one_byte b t (is_ascii_graphic b) refl (first_word_name_to_end t)

pub bad_byte_in_name : (t : List ℕ) → name_end t < length t → (get_or t (name_end t) 0 ≡ 32 → ⊥) → None ≡ name_at t
bad_byte_in_name t lt h =
    let n = name_end t in
    sym (first_word_name_to_end t ∙ ap (λ l. cond (stops l) (Some n) None) (drop_at_is_byte_and_rest t n lt) ∙ ap (λ v. cond v (Some n) None) (ne_eqb (get_or t n 0) 32 h))

pub name_to_space : (t : List ℕ) → name_end t < length t → get_or t (name_end t) 0 ≡ 32 → Some (name_end t) ≡ name_at t
name_to_space t lt h =
    let n = name_end t in
    sym (first_word_name_to_end t ∙ ap (λ l. cond (stops l) (Some n) None) (drop_at_is_byte_and_rest t n lt) ∙ ap (λ b. cond (b == 32) (Some n) None) h)

pub name_to_end : (t : List ℕ) → length t ≤ name_end t → Some (name_end t) ≡ name_at t
name_to_end t le = let n = name_end t in sym (first_word_name_to_end t ∙ ap (λ l. cond (stops l) (Some n) None) (drop_all n t le))

-- ---- fields

abbrev stops_field_name : ℕ → Bool
stops_field_name b = b == 58 || not (is_ascii_graphic b)

abbrev pub colon_end : List ℕ → ℕ
colon_end t = position_or_len stops_field_name t

abbrev field_of_name_and_kind : List ℕ → Option Kind → Option Field
field_of_name_and_kind name o = option_map (λ k. record { name = name; kind = k }) o

abbrev field_of_name_and_word : List ℕ → List ℕ → Option Field
field_of_name_and_word name word = field_of_name_and_kind name (kind_of_word word)

-- the field whose name ends here
abbrev pub field_after : List ℕ → List ℕ → Option Field
field_after name [] = None
field_after name (b ∷ t) = cond (b == 58) (field_of_name_and_word name (first_word t)) None

abbrev field_with_longer_name : ℕ → Option Field → Option Field
field_with_longer_name b o = option_map (λ f. record { name = b ∷ f.name; kind = f.kind }) o

longer_field_of_kind : (b : ℕ) (name : List ℕ) (o : Option Kind) → field_with_longer_name b (field_of_name_and_kind name o) ≡ field_of_name_and_kind (b ∷ name) o
longer_field_of_kind b name None = refl
longer_field_of_kind b name (Some k) = refl

guarded_field_with_longer_name : (b : ℕ) (v : Bool) (o : Option Field) → field_with_longer_name b (cond v o None) ≡ cond v (field_with_longer_name b o) None
guarded_field_with_longer_name b true o = refl
guarded_field_with_longer_name b false o = refl

longer_field_after_name : (b : ℕ) (name t : List ℕ) → field_with_longer_name b (field_after name t) ≡ field_after (b ∷ name) t
longer_field_after_name b name [] = refl
longer_field_after_name b name (c ∷ t) = guarded_field_with_longer_name b (c == 58) (field_of_name_and_word name (first_word t)) ∙ ap (λ o. cond (c == 58) o None) (longer_field_of_kind b name (kind_of_word (first_word t)))

abbrev is_colon_byte : ℕ → Bool
is_colon_byte b = b == 58

-- a field of this word, whose first colon stands here if a colon does
abbrev field_cut_at_colon : List ℕ → ℕ → Bool → Option Field
field_cut_at_colon w n v = option_and_then (λ m. field_of_name_and_word (take m w) (drop (m + 1) w)) (cond v (Some n) None)

field_cut_one_byte_longer : (b : ℕ) (w : List ℕ) (n : ℕ) (v : Bool) → field_cut_at_colon (b ∷ w) (suc n) v ≡ field_with_longer_name b (field_cut_at_colon w n v)
field_cut_one_byte_longer b w n true =
    let next : suc n + 1 ≡ suc (n + 1) = omega arith in
    ap (λ m. field_of_name_and_word (b ∷ take n w) (drop m (b ∷ w))) next ∙ sym (longer_field_of_kind b (take n w) (kind_of_word (drop (n + 1) w)))
field_cut_one_byte_longer b w n false = refl

nat_lt_of_successors : (n m : ℕ) (v : Bool) → nat_lt n m ≡ v → nat_lt (suc n) (suc m) ≡ v
nat_lt_of_successors n m true e = grind (arith, nat_tests)
nat_lt_of_successors n m false e = grind (arith, nat_tests)

nat_lt_both_one_up : (n m : ℕ) → nat_lt (suc n) (suc m) ≡ nat_lt n m
nat_lt_both_one_up n m = nat_lt_of_successors n m (nat_lt n m) refl

field_word_one_byte_longer : (b : ℕ) (w : List ℕ) → (b == 58) ≡ false → field_of_word (b ∷ w) ≡ field_with_longer_name b (field_of_word w)
field_word_one_byte_longer b w e =
    let n : position_or_len is_colon_byte (b ∷ w) ≡ 1 + position_or_len is_colon_byte w = ap (λ v. cond (not v) (1 + position_or_len is_colon_byte w) 0) e in
    let n' : position_or_len is_colon_byte (b ∷ w) ≡ suc (position_or_len is_colon_byte w) = omega (arith, n) in
    ap (λ m. field_cut_at_colon (b ∷ w) m (nat_lt m (length (b ∷ w)))) n'
    ∙ ap (λ v. field_cut_at_colon (b ∷ w) (suc (position_or_len is_colon_byte w)) v) (nat_lt_both_one_up (position_or_len is_colon_byte w) (length w))
    ∙ field_cut_one_byte_longer b w (position_or_len is_colon_byte w) (nat_lt (position_or_len is_colon_byte w) (length w))

plain_field_one_byte_longer : (b : ℕ) (w : List ℕ) → is_plain_byte b ≡ true → (b == 58) ≡ false → plain_field (b ∷ w) ≡ field_with_longer_name b (plain_field w)
plain_field_one_byte_longer b w e h =
    ap (λ v. cond (v && is_plain w) (field_of_word (b ∷ w)) None) e ∙ ap (λ o. cond (is_plain w) o None) (field_word_one_byte_longer b w h) ∙ sym (guarded_field_with_longer_name b (is_plain w) (field_of_word w))

kind_guard_by_own_test : (name : List ℕ) (o : Option Kind) (v : Bool) → ((k : Kind) → o ≡ Some k → v ≡ true) → cond v (field_of_name_and_kind name o) None ≡ field_of_name_and_kind name o
kind_guard_by_own_test name o true h = refl
kind_guard_by_own_test name None false h = refl
kind_guard_by_own_test name (Some k) false h = absurd (true≢false (sym (h k refl)))

successor_above_zero : (n : ℕ) → nat_lt 0 (suc n) ≡ true
successor_above_zero n = grind (arith, nat_tests)

-- a field with no name
plain_colon : (w : List ℕ) → plain_field (58 ∷ w) ≡ field_of_name_and_word [] w
plain_colon w = ap (λ v. cond (is_plain w) (field_cut_at_colon (58 ∷ w) 0 v) None) (successor_above_zero (length w)) ∙ kind_guard_by_own_test [] (kind_of_word w) (is_plain w) (λ k e. kind_plain w k e)

abbrev IsFieldToColon : List ℕ → Type 0
IsFieldToColon t = plain_field (first_word t) ≡ field_after (take (colon_end t) t) (drop (colon_end t) t)

field_past_good_byte : (b : ℕ) (t : List ℕ) → is_ascii_graphic b ≡ true → (b == 58) ≡ false → colon_end (b ∷ t) ≡ suc (colon_end t) → IsFieldToColon t → IsFieldToColon (b ∷ t)
field_past_good_byte b t e h n is =
    ap plain_field (first_word_keeps_other_byte b t (graphic_byte_is_no_space b e))
    ∙ plain_field_one_byte_longer b (first_word t) (graphic_plain b e) h
    ∙ ap (field_with_longer_name b) is
    ∙ longer_field_after_name b (take (colon_end t) t) (drop (colon_end t) t)
    ∙ ap (λ m. field_after (take m (b ∷ t)) (drop m (b ∷ t))) (sym n)

-- at a colon, a space or a bad byte
field_at_stop : (b : ℕ) (t : List ℕ) (colon space : Bool) → (b == 58) ≡ colon → (b == 32) ≡ space → stops_field_name b ≡ true → plain_field (first_word (b ∷ t)) ≡ cond (b == 58) (field_of_name_and_word [] (first_word t)) None
field_at_stop b t true space e h s =
    let is : b ≡ 58 = eqb-true b 58 e in
    ap (λ c. plain_field (first_word (c ∷ t))) is
    ∙ ap plain_field (first_word_keeps_other_byte 58 t refl)
    ∙ plain_colon (first_word t)
    ∙ sym (ap (λ v. cond v (field_of_name_and_word [] (first_word t)) None) e)
field_at_stop b t false true e h s = ap plain_field (first_word_at_space b t h) ∙ sym (ap (λ v. cond v (field_of_name_and_word [] (first_word t)) None) e)
field_at_stop b t false false e h s =
    let bad : is_ascii_graphic b ≡ false = grind (arith, nat_tests) in
    ap plain_field (first_word_keeps_other_byte b t h)
    ∙ ap (λ v. cond (v && is_plain (first_word t)) (field_of_word (b ∷ first_word t)) None) (bad_byte b bad h)
    ∙ sym (ap (λ v. cond v (field_of_name_and_word [] (first_word t)) None) e)

byte_that_stops_no_name : (b : ℕ) (colon graphic : Bool) → (b == 58) ≡ colon → is_ascii_graphic b ≡ graphic → (colon || not graphic) ≡ false → ((b == 58) ≡ false) × (is_ascii_graphic b ≡ true)
byte_that_stops_no_name b true graphic e h s = cc
byte_that_stops_no_name b false true e h s = (e, h)
byte_that_stops_no_name b false false e h s = cc

colon_end_past_good_byte : (b : ℕ) (t : List ℕ) → stops_field_name b ≡ false → colon_end (b ∷ t) ≡ suc (colon_end t)
colon_end_past_good_byte b t e = let n : colon_end (b ∷ t) ≡ 1 + colon_end t = ap (λ v. cond (not v) (1 + colon_end t) 0) e in omega (arith, n)

colon_end_at_stop : (b : ℕ) (t : List ℕ) → stops_field_name b ≡ true → colon_end (b ∷ t) ≡ 0
colon_end_at_stop b t e = ap (λ v. cond (not v) (1 + colon_end t) 0) e

field_after_one_byte : (b : ℕ) (t : List ℕ) (v : Bool) → stops_field_name b ≡ v → IsFieldToColon t → IsFieldToColon (b ∷ t)
field_after_one_byte b t true e is = field_at_stop b t (b == 58) (b == 32) refl refl e ∙ ap (λ m. field_after (take m (b ∷ t)) (drop m (b ∷ t))) (sym (colon_end_at_stop b t e))
field_after_one_byte b t false e is =
    let p = byte_that_stops_no_name b (b == 58) (is_ascii_graphic b) refl refl e in
    field_past_good_byte b t p.1 p.0 (colon_end_past_good_byte b t e) is

-- the first word is a field if its good bytes end at a colon, and a kind follows
pub first_word_is_field_to_colon : (t : List ℕ) → plain_field (first_word t) ≡ field_after (take (colon_end t) t) (drop (colon_end t) t)
first_word_is_field_to_colon [] = refl
first_word_is_field_to_colon (b ∷ t) = field_after_one_byte b t (stops_field_name b) refl (first_word_is_field_to_colon t)

word_size_by_colon_end : (b : ℕ) (t : List ℕ) (v : Bool) → stops_field_name b ≡ v → word_size t ≡ colon_end t + word_size (drop (colon_end t) t) → word_size (b ∷ t) ≡ colon_end (b ∷ t) + word_size (drop (colon_end (b ∷ t)) (b ∷ t))
word_size_by_colon_end b t true e h =
    let none : word_size (b ∷ t) ≡ 0 + word_size (b ∷ t) = omega arith in
    none ∙ ap (λ m. m + word_size (drop m (b ∷ t))) (sym (colon_end_at_stop b t e))
word_size_by_colon_end b t false e h =
    let p = byte_that_stops_no_name b (b == 58) (is_ascii_graphic b) refl refl e in
    let n = colon_end_past_good_byte b t e in
    let s = word_size_past_other_byte b t (graphic_byte_is_no_space b p.1) in
    let same : word_size (b ∷ t) ≡ suc (colon_end t) + word_size (drop (colon_end t) t) = omega (arith, s, h) in
    same ∙ ap (λ m. m + word_size (drop m (b ∷ t))) (sym n)

-- no space stands before a field's colon
word_size_from_colon_end : (t : List ℕ) → word_size t ≡ colon_end t + word_size (drop (colon_end t) t)
word_size_from_colon_end [] = refl
word_size_from_colon_end (b ∷ t) = word_size_by_colon_end b t (stops_field_name b) refl (word_size_from_colon_end t)

-- a kind's word has 3 bytes or more
pub kind_size : (t : List ℕ) (n : ℕ) (k : Kind) → n ≡ word_size t → Some k ≡ kind_of_word (take n t) → 3 ≤ n
kind_size t n k is e =
    let same : kind_of_word (first_word t) ≡ Some k = ap (λ m. kind_of_word (take m t)) (sym is) ∙ sym e in
    let long = kind_long (first_word t) k same in
    omega (arith, long, first_word_has_word_size t, is)

pub no_stop_no_field : (t : List ℕ) → None ≡ position stops_field_name t → None ≡ with_size t (plain_field (first_word t))
no_stop_no_field t h =
    let all = no_position_past_end (colon_end t) (length t) _ refl h in
    sym (ap (with_size t) (first_word_is_field_to_colon t ∙ ap (λ l. field_after (take (colon_end t) t) l) (drop_all (colon_end t) t all)))

-- what is told of a field if its name ends at n
field_name_ends_at_stop : (t : List ℕ) (n : ℕ) → Some n ≡ position stops_field_name t → (n < length t) × (n ≡ colon_end t) × (plain_field (first_word t) ≡ field_after (take n t) (get_or t n 0 ∷ drop (n + 1) t))
field_name_ends_at_stop t n h =
    let p = position_found_within_list (colon_end t) (length t) n _ refl h in
    let lt : n < length t = omega (arith, p.0, p.1) in
    (lt, p.1, first_word_is_field_to_colon t ∙ ap (λ m. field_after (take m t) (drop m t)) (sym p.1) ∙ ap (λ l. field_after (take n t) l) (drop_at_is_byte_and_rest t n lt))

pub other_stop_no_field : (t : List ℕ) (n : ℕ) → Some n ≡ position stops_field_name t → (get_or t n 0 ≡ 58 → ⊥) → None ≡ with_size t (plain_field (first_word t))
other_stop_no_field t n h is =
    let p = field_name_ends_at_stop t n h in
    sym (ap (with_size t) (p.2 ∙ ap (λ v. cond v (field_of_name_and_word (take n t) (first_word (drop (n + 1) t))) None) (ne_eqb (get_or t n 0) 58 is)))

field_colon : (t : List ℕ) (n : ℕ) → Some n ≡ position stops_field_name t → get_or t n 0 ≡ 58 → plain_field (first_word t) ≡ field_of_name_and_word (take n t) (first_word (drop (n + 1) t))
field_colon t n h is = (field_name_ends_at_stop t n h).2 ∙ ap (λ b. cond (b == 58) (field_of_name_and_word (take n t) (first_word (drop (n + 1) t))) None) is

size_colon : (t : List ℕ) (n : ℕ) → Some n ≡ position stops_field_name t → get_or t n 0 ≡ 58 → word_size t ≡ n + 1 + word_size (drop (n + 1) t)
size_colon t n h is =
    let p = field_name_ends_at_stop t n h in
    let rest : word_size (drop n t) ≡ suc (word_size (drop (n + 1) t)) = ap word_size (drop_at_is_byte_and_rest t n p.0) ∙ ap (λ b. word_size (b ∷ drop (n + 1) t)) is ∙ word_size_past_other_byte 58 (drop (n + 1) t) refl in
    let whole : word_size t ≡ n + word_size (drop n t) = word_size_from_colon_end t ∙ ap (λ m. m + word_size (drop m t)) (sym p.1) in
    omega (arith, whole, rest)

-- the rest of a text, as a slice has it
pub slice_from_place_is_drop : (t : List ℕ) (m : ℕ) → take (length t - m) (drop m t) ≡ drop m t
slice_from_place_is_drop t m = take_all (length t - m) (drop m t) (omega (arith, length-drop m t))

pub field_unkind : (t kind : List ℕ) (n : ℕ) → Some n ≡ position stops_field_name t → get_or t n 0 ≡ 58 → kind ≡ take (length t - (n + 1)) (drop (n + 1) t) → None ≡ with_size kind (kind_of_word (first_word kind)) → None ≡ with_size t (plain_field (first_word t))
field_unkind t kind n h is same e =
    let rest : kind ≡ drop (n + 1) t = same ∙ slice_from_place_is_drop t (n + 1) in
    let none : kind_of_word (first_word (drop (n + 1) t)) ≡ None = ap (λ l. kind_of_word (first_word l)) (sym rest) ∙ none_with_size_is_none kind (kind_of_word (first_word kind)) e in
    sym (ap (with_size t) (field_colon t n h is ∙ ap (option_map (λ k. record { name = take n t; kind = k })) none))

pub colon_and_kind_make_field : (t kind : List ℕ) (n s : ℕ) (k : Kind) → Some n ≡ position stops_field_name t → get_or t n 0 ≡ 58 → kind ≡ take (length t - (n + 1)) (drop (n + 1) t) → Some (k, s) ≡ with_size kind (kind_of_word (first_word kind))
    → Some (record { name = take n t; kind = k }, n + 1 + s) ≡ with_size t (plain_field (first_word t))
colon_and_kind_make_field t kind n s k h is same e =
    let rest : kind ≡ drop (n + 1) t = same ∙ slice_from_place_is_drop t (n + 1) in
    let p = some_with_size_is_read kind (kind_of_word (first_word kind)) k s e in
    let has : kind_of_word (first_word (drop (n + 1) t)) ≡ Some k = ap (λ l. kind_of_word (first_word l)) (sym rest) ∙ p.0 in
    let all : word_size t ≡ n + 1 + s = size_colon t n h is ∙ ap (λ m. n + 1 + m) (sym (p.1 ∙ ap word_size rest)) in
    let f : plain_field (first_word t) ≡ Some (record { name = take n t; kind = k }) = field_colon t n h is ∙ ap (option_map (λ k. record { name = take n t; kind = k })) has in
    sym (ap (with_size t) f ∙ ap (λ m. Some (record { name = take n t; kind = k }, m)) all)
