-- The words of an event are read as that event.
use Rattle.std.proofs.Common.{◌≡◌, ℕ, suc, ◌+◌, ◌<◌, ◌^◌, Bool, true, false, cond, not, ◌&&◌, List, [], ◌∷◌, ◌++◌, length, map, Option, Some, None, refl, sym, ap, subst, ◌∙◌, append_assoc, lt-ltb, le-leb, arith}
use Rattle.std.specs.Prelude.{codes, decimal, nat_lt, nat_le, ◌==◌, option_map, option_and_then, position, take, drop}
use Rattle.std.specs.List.{list_all, prefix_len, position_or_len, AllByRecursion}
use Rattle.std.specs.Char.{is_ascii_digit}
use Rattle.std.specs.Str.{bytes_eq}
use Rattle.std.specs.Str.Parse.{AllDigits, digits_value}
use Rattle.std.proofs.lemmas.Bool.{and_parts, and_from}
use Rattle.std.proofs.lemmas.Fmt.{decimal_is_IsNumeral, length-decimal-le}
use Rattle.std.proofs.lemmas.List.{length-append, take_at, drop_at}
use Rattle.std.proofs.lemmas.Slice.Eq.{bytes_eq-Decides}
use Rattle.std.proofs.lemmas.Str.Parse.{tells_digits}
use Rattle.heap_class.specs.declared.Field.{Field}
use Rattle.heap_class.specs.declared.Kind.{Kind}
use Rattle.heap_class.specs.declared.Kind.TheVariants.{Boolean, Char, Float, Double, Byte, Short, Int, Long}
use Rattle.heap_class.specs.Kinds.{kind_word}
use Rattle.heap_step.specs.declared.Event.{Event}
use Rattle.heap_step.specs.declared.Event.TheVariants.{Class, ArrayClass, New, NewArray, NewPrim, Load, Store, Put, Move, Clear, Snap, Mark, Drain, Finish, Sweep}
use Rattle.heap_trail.specs.declared.Action.TheVariants.{Step}
use Rattle.session_grammar.specs.declared.command.Command.TheVariants.{Ask}
use Rattle.session_grammar.specs.Grammar.{number_of_word, value_of_digits, kind_of_word, field_of_word, fields_of_words, number_or_dash, by_rule, class_rules, making_rules, access_rules, marking_rules, session_rules, command_of_words}
use Rattle.session_lines.specs.EventLines.{verb_of, words_of, field_word, super_word}
use Rattle.session_lines.specs.Laws.{is_sign, IsWord, IsFieldWord, IsLong, IsLongOrNone, HasLine, IsLineOf}
use Rattle.session_lines.proofs.SpacedWords.{command_spaced, plain_spaced}

digits_signs : (ds : List ℕ) → AllDigits 10 ds → list_all is_sign ds ≡ true
digits_signs [] digits = refl
digits_signs (c ∷ cs) digits =
    let parts = tells_digits.parts c cs digits in
    and_from _ _ (and_from _ _ (le-leb 33 c (omega (arith, parts.0))) (le-leb c 126 (omega (arith, parts.0)))) (digits_signs cs parts.1)

digits_ascii : (ds : List ℕ) → AllDigits 10 ds → list_all is_ascii_digit ds ≡ true
digits_ascii [] digits = refl
digits_ascii (c ∷ cs) digits =
    let parts = tells_digits.parts c cs digits in
    and_from _ _ (and_from _ _ (le-leb 48 c (omega (arith, parts.0))) (le-leb c 57 (omega (arith, parts.0)))) (digits_ascii cs parts.1)

true_condition_takes_first : {A : Type 0} (v : Bool) (x y : A) → v ≡ true → cond v x y ≡ x
true_condition_takes_first true x y e = refl
true_condition_takes_first false x y e = absurd cc

false_condition_takes_second : {A : Type 0} (v : Bool) (x y : A) → v ≡ false → cond v x y ≡ y
false_condition_takes_second true x y e = absurd cc
false_condition_takes_second false x y e = refl

decimal_word_is_read_back : (n : ℕ) → IsLong n → number_of_word (decimal n) ≡ Some n
unfolding number_of_word
decimal_word_is_read_back n long =
    let numeral = decimal_is_IsNumeral n long in
    let short = length-decimal-le 20 n (omega arith) (omega (arith, long)) long in
    let less : digits_value 10 (decimal n) < 2 ^ 64 = omega (arith, numeral.1, long) in
    true_condition_takes_first (nat_lt 0 (length (decimal n)) && nat_le (length (decimal n)) 20) (value_of_digits (decimal n)) None (and_from _ _ (lt-ltb 0 (length (decimal n)) numeral.0.0) (le-leb (length (decimal n)) 20 short))
    ∙ true_condition_takes_first (list_all is_ascii_digit (decimal n) && nat_lt (digits_value 10 (decimal n)) (2 ^ 64)) (Some (digits_value 10 (decimal n))) None
    (and_from _ _ (digits_ascii (decimal n) numeral.0.1) (lt-ltb (digits_value 10 (decimal n)) (2 ^ 64) less))
    ∙ ap (λ (v : ℕ). Some v) numeral.1

number_word : (n : ℕ) → IsLong n → IsWord (decimal n)
number_word n long = let numeral = decimal_is_IsNumeral n long in (numeral.0.0, digits_signs (decimal n) numeral.0.1)

verb_word : (e : Event) → IsWord (verb_of e)
verb_word (Class name sup fields) = (omega arith, refl)
verb_word (ArrayClass name) = (omega arith, refl)
verb_word (New m r class) = (omega arith, refl)
verb_word (NewArray m r class len) = (omega arith, refl)
verb_word (NewPrim m r kind len) = (omega arith, refl)
verb_word (Load m to from slot) = (omega arith, refl)
verb_word (Store m target slot source) = (omega arith, refl)
verb_word (Put m target slot value) = (omega arith, refl)
verb_word (Move m to from_m from) = (omega arith, refl)
verb_word (Clear m r) = (omega arith, refl)
verb_word Snap = (omega arith, refl)
verb_word Mark = (omega arith, refl)
verb_word Drain = (omega arith, refl)
verb_word Finish = (omega arith, refl)
verb_word (Sweep region) = (omega arith, refl)

kind_is_word : (kind : Kind) → IsWord (kind_word kind)
kind_is_word Kind.Object = (omega arith, refl)
kind_is_word Boolean = (omega arith, refl)
kind_is_word Char = (omega arith, refl)
kind_is_word Float = (omega arith, refl)
kind_is_word Double = (omega arith, refl)
kind_is_word Byte = (omega arith, refl)
kind_is_word Short = (omega arith, refl)
kind_is_word Int = (omega arith, refl)
kind_is_word Long = (omega arith, refl)

kind_word_is_read_back : (kind : Kind) → kind_of_word (kind_word kind) ≡ Some kind
unfolding kind_of_word
kind_word_is_read_back Kind.Object = refl
kind_word_is_read_back Boolean = refl
kind_word_is_read_back Char = refl
kind_word_is_read_back Float = refl
kind_word_is_read_back Double = refl
kind_word_is_read_back Byte = refl
kind_word_is_read_back Short = refl
kind_word_is_read_back Int = refl
kind_word_is_read_back Long = refl

signs_append : (a b : List ℕ) → list_all is_sign a ≡ true → list_all is_sign b ≡ true → list_all is_sign (a ++ b) ≡ true
signs_append [] b first second = second
signs_append (x ∷ a) b first second =
    let both = and_parts (is_sign x) (list_all is_sign a) first in
    and_from _ _ both.0 (signs_append a b both.1 second)

field_is_word : (f : Field) → IsFieldWord f → IsWord (field_word f)
field_is_word f fits = (
  omega (arith, fits.0.0, length-append f.name (58 ∷ kind_word f.kind)),
  signs_append f.name (58 ∷ kind_word f.kind) fits.0.1 (kind_is_word f.kind).1,
)

fields_are_words : (fs : List Field) → AllByRecursion IsFieldWord fs → AllByRecursion IsWord (map field_word fs)
fields_are_words [] fits = tt
fields_are_words (f ∷ fs) fits = (field_is_word f fits.0, fields_are_words fs fits.1)

super_is_word : (sup : Option ℕ) → IsLongOrNone sup → IsWord (super_word sup)
super_is_word (Some k) long = number_word k long
super_is_word None long = (omega arith, refl)

event_words : (e : Event) → HasLine e → AllByRecursion IsWord (words_of e)
event_words (Class name sup fields) fits = (fits.0, (super_is_word sup fits.1, fields_are_words fields fits.2))
event_words (ArrayClass name) fits = (fits, tt)
event_words (New m r class) fits = (number_word m fits.0, (number_word r fits.1, (number_word class fits.2, tt)))
event_words (NewArray m r class len) fits = (number_word m fits.0, (number_word r fits.1, (number_word class fits.2, (number_word len fits.3, tt))))
event_words (NewPrim m r kind len) fits = (number_word m fits.0, (number_word r fits.1, (kind_is_word kind, (number_word len fits.2, tt))))
event_words (Load m to from slot) fits = (number_word m fits.0, (number_word to fits.1, (number_word from fits.2, (number_word slot fits.3, tt))))
event_words (Store m target slot source) fits = (number_word m fits.0, (number_word target fits.1, (number_word slot fits.2, (number_word source fits.3, tt))))
event_words (Put m target slot value) fits = (number_word m fits.0, (number_word target fits.1, (number_word slot fits.2, (number_word value fits.3, tt))))
event_words (Move m to from_m from) fits = (number_word m fits.0, (number_word to fits.1, (number_word from_m fits.2, (number_word from fits.3, tt))))
event_words (Clear m r) fits = (number_word m fits.0, (number_word r fits.1, tt))
event_words Snap fits = tt
event_words Mark fits = tt
event_words Drain fits = tt
event_words Finish fits = tt
event_words (Sweep region) fits = (number_word region fits, tt)

decimal_word_is_no_dash : (n : ℕ) (v : Bool) → IsLong n → bytes_eq (decimal n) (codes "-") ≡ v → v ≡ false
decimal_word_is_no_dash n true long e =
    let same : decimal n ≡ codes "-" = (bytes_eq-Decides (decimal n) (codes "-")).0 e in
    let digits : AllDigits 10 (codes "-") = subst (AllDigits 10) same (decimal_is_IsNumeral n long).0.1 in
    absurd (omega (arith, digits.0))
decimal_word_is_no_dash n false long e = refl

super_read : (sup : Option ℕ) → IsLongOrNone sup → number_or_dash (super_word sup) ≡ Some sup
super_read (Some k) long =
    false_condition_takes_second (bytes_eq (decimal k) (codes "-")) (Some None) (option_map (λ n. Some n) (number_of_word (decimal k))) (decimal_word_is_no_dash k _ long refl)
    ∙ ap (λ (o : Option ℕ). option_map (λ n. Some n) o) (decimal_word_is_read_back k long)
super_read None long = refl

one_plus_is_successor : (n : ℕ) → 1 + n ≡ suc n
one_plus_is_successor n = omega arith

colon_right_behind_name : (name rest : List ℕ) → list_all (λ b. not (b == 58)) name ≡ true → prefix_len (λ b. not (b == 58)) (name ++ 58 ∷ rest) ≡ length name
colon_right_behind_name [] rest others = refl
colon_right_behind_name (b ∷ name) rest others =
    let both = and_parts (not (b == 58)) (list_all (λ b. not (b == 58)) name) others in
    ap (λ (v : Bool). cond v (1 + prefix_len (λ b. not (b == 58)) (name ++ 58 ∷ rest)) 0) both.0 ∙ ap (λ (n : ℕ). 1 + n) (colon_right_behind_name name rest both.1) ∙ one_plus_is_successor (length name)

rest_behind_name_and_colon : (name rest : List ℕ) → drop (length name + 1) (name ++ 58 ∷ rest) ≡ rest
rest_behind_name_and_colon name rest =
    ap (drop (length name + 1)) (sym (append_assoc name (58 ∷ []) rest)) ∙ drop_at (name ++ 58 ∷ []) rest (length name + 1) (length-append name (58 ∷ []))

abbrev field_made_of_word : List ℕ → ℕ → Option Field
field_made_of_word w n = option_map (λ k. record { name = take n w; kind = k }) (kind_of_word (drop (n + 1) w))

field_read : (f : Field) → IsFieldWord f → field_of_word (field_word f) ≡ Some f
field_read f fits =
    let w = field_word f in
    let n = length f.name in
    let is : position_or_len (λ b. b == 58) w ≡ n = colon_right_behind_name f.name (kind_word f.kind) fits.1 in
    let within : position_or_len (λ b. b == 58) w < length w = omega (arith, is, length-append f.name (58 ∷ kind_word f.kind)) in
    let at : position (λ b. b == 58) w ≡ Some n =
    true_condition_takes_first (nat_lt (position_or_len (λ b. b == 58) w) (length w)) (Some (position_or_len (λ b. b == 58) w)) None (lt-ltb (position_or_len (λ b. b == 58) w) (length w) within) ∙ ap (λ (k : ℕ). Some k) is in
    ap (option_and_then (field_made_of_word w)) at
    ∙ ap (λ (t : List ℕ). option_map (λ k. record { name = take n w; kind = k }) (kind_of_word t)) (rest_behind_name_and_colon f.name (kind_word f.kind))
    ∙ ap (λ (o : Option Kind). option_map (λ k. record { name = take n w; kind = k }) o) (kind_word_is_read_back f.kind)
    ∙ ap (λ (t : List ℕ). Some (record { name = t; kind = f.kind })) (take_at f.name (58 ∷ kind_word f.kind) n refl)

fields_read : (fs : List Field) → AllByRecursion IsFieldWord fs → fields_of_words (map field_word fs) ≡ Some fs
fields_read [] fits = refl
fields_read (f ∷ fs) fits = rw (field_read f fits.0, fields_read fs fits.1) refl

words_read : (e : Event) → HasLine e → command_of_words (verb_of e ∷ words_of e) ≡ Ask (Step e)
unfolding by_rule class_rules making_rules access_rules marking_rules session_rules
words_read (Class name sup fields) fits = rw (super_read sup fits.1, fields_read fields fits.2) refl
words_read (ArrayClass name) fits = refl
words_read (NewPrim m r kind len) fits = rw (decimal_word_is_read_back m fits.0, decimal_word_is_read_back r fits.1, kind_word_is_read_back kind, decimal_word_is_read_back len fits.2) refl
words_read (New m r class) fits = rw (decimal_word_is_read_back m fits.0, decimal_word_is_read_back r fits.1, decimal_word_is_read_back class fits.2) refl
words_read (NewArray m r class len) fits = rw (decimal_word_is_read_back m fits.0, decimal_word_is_read_back r fits.1, decimal_word_is_read_back class fits.2, decimal_word_is_read_back len fits.3) refl
words_read (Load m to from slot) fits = rw (decimal_word_is_read_back m fits.0, decimal_word_is_read_back to fits.1, decimal_word_is_read_back from fits.2, decimal_word_is_read_back slot fits.3) refl
words_read (Store m target slot source) fits = rw (decimal_word_is_read_back m fits.0, decimal_word_is_read_back target fits.1, decimal_word_is_read_back slot fits.2, decimal_word_is_read_back source fits.3) refl
words_read (Put m target slot value) fits = rw (decimal_word_is_read_back m fits.0, decimal_word_is_read_back target fits.1, decimal_word_is_read_back slot fits.2, decimal_word_is_read_back value fits.3) refl
words_read (Move m to from_m from) fits = rw (decimal_word_is_read_back m fits.0, decimal_word_is_read_back to fits.1, decimal_word_is_read_back from_m fits.2, decimal_word_is_read_back from fits.3) refl
words_read (Clear m r) fits = rw (decimal_word_is_read_back m fits.0, decimal_word_is_read_back r fits.1) refl
words_read (Sweep region) fits = rw (decimal_word_is_read_back region fits) refl
words_read Snap fits = refl
words_read Mark fits = refl
words_read Drain fits = refl
words_read Finish fits = refl

pub each_event_line_reads_back : (e : Event) → HasLine e → IsLineOf e
each_event_line_reads_back e fits = record {
  plain = plain_spaced (verb_of e) (words_of e) (verb_word e) (event_words e fits);
  read = command_spaced (verb_of e) (words_of e) (verb_word e) (event_words e fits) ∙ words_read e fits;
}
