-- The reading of lines, and which lines allocate for it.
use Rattle.std.specs.Prelude.{◌≡◌, true, ◌⊎◌, ℕ, suc, get_or, ◌+◌, ◌-◌, ◌*◌, ◌^◌, ◌<◌, ◌≤◌, All, length, ◌==◌, nat_lt, List, [], ◌∷◌, ◌++◌, take, drop, codes, Option, Some, None, option_map, option_and_then, if◌then◌else◌}
use Rattle.std.specs.Char.{is_ascii_digit}
use Rattle.std.specs.List.{position_or_len}
use Rattle.heap_class.specs.declared.Field.{Field}
use Rattle.heap_step.specs.declared.Event.{Event}
use Rattle.heap_step.specs.declared.Event.TheVariants.{Class, ArrayClass}
use Rattle.heap_trail.specs.declared.Action.{Action}
use Rattle.heap_trail.specs.declared.Action.TheVariants.{Step}
use Rattle.session_grammar.specs.Grammar.{words_of_line, is_plain, Rule, value_of_digits, number_of_word, next_number, field_of_word, next_number_or_dash, at_end, making_rules, access_rules, marking_rules, session_rules}
use Rattle.session_grammar.specs.Lines.{NoLf}
use Rattle.session_grammar.specs.declared.spans.FieldSpan.{FieldSpan}
use Rattle.session_grammar.specs.declared.command.Command.{Command}
use Rattle.session_grammar.specs.declared.command.Command.TheVariants.{Ask}

-- the event defines a class
abbrev pub DefinesClass : Event → Type 0
DefinesClass (Class name sup fields) = Unit {0}
DefinesClass (ArrayClass name) = Unit {0}
DefinesClass _ = ⊥

-- reading the line of this action allocates
abbrev pub ActionTakesMemory : Action → Type 0
ActionTakesMemory (Step e) = DefinesClass e
ActionTakesMemory _ = ⊥

-- reading the line of this command allocates
abbrev pub TakesMemory : Command → Type 0
TakesMemory (Ask a) = ActionTakesMemory a
TakesMemory _ = ⊥

-- reading a line of this command, if it has one, allocates
abbrev pub MayTakeMemory : Option Command → Type 0
MayTakeMemory None = ⊥
MayTakeMemory (Some k) = TakesMemory k

-- ---- the first word of a text that begins with one

-- the size of the first word
abbrev pub word_size : List ℕ → ℕ
word_size t = position_or_len (λ b. b == 32) t

-- the first word
abbrev pub first_word : List ℕ → List ℕ
first_word t = take (word_size t) t

-- a value that was read of the first word, with the word's size
abbrev pub with_size : {A : Type 0} → List ℕ → Option A → Option (A × ℕ)
with_size t o = option_map (λ x. (x, word_size t)) o

-- the text that is left begins with a word, which is the first one, and goes on behind the space that ends it
abbrev pub IsFront : List (List ℕ) → List ℕ → List ℕ → Type 0
IsFront ws left t = (t ≡ left) × (ws ≡ first_word t ∷ words_of_line (drop (word_size t + 1) t))

-- the end of a text
abbrev pub IsRestOf : List ℕ → List ℕ → Type 0
IsRestOf text rest = (length rest ≤ length text) × (rest ≡ drop (length text - length rest) text)

-- a number with one more digit, if it stays below 2 ^ 64
abbrev pub with_digit : ℕ → ℕ → Option ℕ
with_digit n b =
    if is_ascii_digit b
    then (if nat_lt (n * 10 + (b - 48)) (2 ^ 64) then Some (n * 10 + (b - 48)) else None) else None

-- a number with these digits appended
abbrev pub value_from : ℕ → List ℕ → Option ℕ
value_from n [] = Some n
value_from n (b ∷ bs) = option_and_then (λ m. value_from m bs) (with_digit n b)

-- the first word has `size` bytes before `rest`, and its value is that of the value so far with the digits of `rest`
abbrev pub IsReadTo : List ℕ → List ℕ → ℕ → ℕ → Type 0
IsReadTo t rest size value =
    (word_size t ≡ size + word_size rest)
    × (value_of_digits (first_word t) ≡ value_from value (first_word rest))

-- the number that the first word holds, and its size; or size 0, if it holds no number
abbrev pub IsNumberAt : List ℕ → ℕ → ℕ → Type 0
IsNumberAt t value size =
    with_size t (number_of_word (first_word t)) ≡ (if size == 0 then None else Some (value, size))

-- the number that the word at a place holds, and the place behind it and the byte that ends it; or a place past the text by
-- two
abbrev pub IsNumberFrom : List ℕ → ℕ → ℕ → ℕ → Type 0
IsNumberFrom t at value next =
    next ≤ length t + 1
    → (at < length t)
    × (next_number (words_of_line (drop at t)) ≡ Some (value, words_of_line (drop next t)))

-- digits that stand at a place, in any beginning of the text that has them: their number, and their value
abbrev pub IsReadIn : List ℕ → ℕ → ℕ → ℕ → Type 0
IsReadIn t at value size =
    (at + size ≤ length t) × (size ≤ 20)
    × ((s : ℕ) → size ≡ suc s → 48 ≤ get_or t (at + s) 0)
    × (NoLf (take at t) → NoLf (take (at + size) t))
    × ((n : ℕ) → at + size ≤ n → n ≤ length t
    → IsReadTo (drop at (take n t)) (drop size (drop at (take n t))) size value)

-- the number at a place, in each beginning of the text in which it is a word; this byte, at the place `end`, ends it
abbrev pub IsNumberThen : List ℕ → ℕ → ℕ → ℕ → ℕ → Type 0
IsNumberThen t at ender value end =
    end < length t → (at < end) × (end ≤ at + 20) × (get_or t end 0 ≡ ender)
    × ((s : ℕ) → end ≡ suc s → 48 ≤ get_or t s 0)
    × (NoLf (take at t) → NoLf (take end t))
    × ((n : ℕ) → n ≤ length t → (n ≡ end) ⊎ ((end < n) × (ender ≡ 32))
    → IsNumberFrom (take n t) at value (end + 1))

-- the byte is a digit with this value
abbrev pub IsDigit : ℕ → ℕ → Type 0
IsDigit b value = (is_ascii_digit b ≡ true) × (value ≡ b - 48)

-- ---- eight digits at once

-- four digits
abbrev pub AreDigits : ℕ → ℕ → ℕ → ℕ → Type 0
AreDigits a b c d =
    ((48 ≤ a) × (a ≤ 57)) × ((48 ≤ b) × (b ≤ 57)) × ((48 ≤ c) × (c ≤ 57)) × ((48 ≤ d) × (d ≤ 57))

-- the value of four digits
abbrev pub four_value : ℕ → ℕ → ℕ → ℕ → ℕ
four_value a b c d = ((((a - 48) * 10 + (b - 48)) * 10 + (c - 48)) * 10) + (d - 48)

-- a text begins with eight digits, which have this value
abbrev pub BeginsWithEight : List ℕ → ℕ → Type 0
BeginsWithEight t value =
    (8 ≤ length t)
    × AreDigits (get_or t 0 0) (get_or t 1 0) (get_or t 2 0) (get_or t 3 0)
    × AreDigits (get_or t 4 0) (get_or t 5 0) (get_or t 6 0) (get_or t 7 0)
    × (value
    ≡ four_value (get_or t 0 0) (get_or t 1 0) (get_or t 2 0) (get_or t 3 0) * 10000
    + four_value (get_or t 4 0) (get_or t 5 0) (get_or t 6 0) (get_or t 7 0))

-- ---- words without a bad byte

-- the size of the first word, if none of its bytes is bad
abbrev pub name_at : List ℕ → Option ℕ
name_at t = if is_plain (first_word t) then Some (word_size t) else None

-- the field that a word is, if none of its bytes is bad
abbrev pub plain_field : List ℕ → Option Field
plain_field w = if is_plain w then field_of_word w else None

-- the fields that these words are, if each is one without a bad byte
abbrev pub plain_fields : List (List ℕ) → Option (List Field)
plain_fields [] = Some []
plain_fields (w ∷ ws) =
    option_and_then (λ f. option_map (λ fs. f ∷ fs) (plain_fields ws)) (plain_field w)

-- a field that stands in this text
abbrev pub field_of_span : List ℕ → FieldSpan → Field
field_of_span text m = record { name = take m.size (drop m.start text); kind = m.kind }

-- each field is within the text
abbrev pub AreSpansWithin : List ℕ → List FieldSpan → Type 0
AreSpansWithin text spans = All (λ s. s.start + s.size ≤ length text) spans

-- the name that the first word is, and the other words
abbrev pub next_name : List (List ℕ) → Option (List ℕ × List (List ℕ))
next_name [] = None
next_name (w ∷ ws) = if is_plain w then Some (w, ws) else None

-- the command of the words of `class NAME SUPER FIELD ..` without a bad byte
abbrev pub plain_class : List (List ℕ) → Option Command
plain_class ws =
    option_and_then
    (λ name. option_and_then
    (λ sup. option_map (λ fs. Ask (Step (Class name.0 sup.0 fs))) (plain_fields sup.1))
    (next_number_or_dash name.1)) (next_name ws)

-- the command of the words of `array NAME` without a bad byte
abbrev pub plain_array : List (List ℕ) → Option Command
plain_array ws =
    option_and_then (λ name. at_end (Ask (Step (ArrayClass name.0))) name.1) (next_name ws)

-- the rules of lines that define a class without a bad byte: only names can have one
unfoldable pub plain_class_rules : List Rule
plain_class_rules = (codes "class", plain_class) ∷ (codes "array", plain_array) ∷ []

-- the rules of all lines without a bad byte
abbrev pub plain_rules : List Rule
plain_rules =
    plain_class_rules ++ (making_rules ++ (access_rules ++ (marking_rules ++ session_rules)))

-- ---- the words after the first

-- a value that was read of the first word, or none, and the words that are left then
abbrev pub IsNextWord : {A : Type 0} → Option (A × List (List ℕ)) → List (List ℕ) → Option A
    → Type 0
IsNextWord o left None = o ≡ None
IsNextWord o left (Some x) = o ≡ Some (x, left)
