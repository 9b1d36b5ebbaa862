-- The lines of a session.
use Rattle.std.specs.Prelude.{ℕ, Bool, ◌+◌, ◌-◌, ◌^◌, ◌&&◌, ◌==◌, nat_lt, nat_le, List, [], ◌∷◌, ◌++◌, length, take, drop, slice_index, filter, find, codes, Option, Some, None, unwrap_or, option_map, option_and_then, if◌then◌else◌}
use Rattle.std.specs.Char.{is_ascii_digit}
use Rattle.std.specs.List.{list_all, position, slice_split}
use Rattle.std.specs.Str.{bytes_eq}
use Rattle.std.specs.Str.Parse.{digits_value}
use Rattle.heap_class.specs.declared.Kind.{Kind}
use Rattle.heap_class.specs.declared.Kind.TheVariants.{Boolean, Char, Float, Double, Byte, Short, Int, Long}
use Rattle.heap_class.specs.declared.Field.{Field}
use Rattle.heap_class.specs.Kinds.{kind_word}
use Rattle.heap_step.specs.declared.Event.{Event}
use Rattle.heap_step.specs.declared.Event.TheVariants.{Class, ArrayClass, New, NewArray, NewPrim, Load, Store, Put, Move, Clear, Snap, Mark, Drain, Finish, Sweep}
use Rattle.heap_trail.specs.declared.Action.TheVariants.{Step, Rewind, OpenPin, ClosePin}
use Rattle.session_grammar.specs.declared.command.Command.{Command}
use Rattle.session_grammar.specs.declared.command.Command.TheVariants.{Blank, Bad, Ask, Piece, Dump, DumpNow, End}

-- ---- words and numbers

-- the words of a line: the longest runs of bytes other than space
unfoldable pub words_of_line : List ℕ → List (List ℕ)
words_of_line line = filter (λ w. nat_lt 0 (length w)) (slice_split (λ b. b == 32) line)

-- the value of decimal digits, if it is below 2 ^ 64
abbrev pub value_of_digits : List ℕ → Option ℕ
value_of_digits ds =
    if list_all is_ascii_digit ds && nat_lt (digits_value 10 ds) (2 ^ 64)
    then Some (digits_value 10 ds) else None

-- 1 to 20 decimal digits with a value below 2 ^ 64
unfoldable pub number_of_word : List ℕ → Option ℕ
number_of_word w = if nat_lt 0 (length w) && nat_le (length w) 20 then value_of_digits w else None

-- a number, or None for `-`
abbrev pub number_or_dash : List ℕ → Option (Option ℕ)
number_or_dash w = if bytes_eq w (codes "-") then Some None else option_map Some (number_of_word w)

-- a number, with an `@` before it or without; or None for `-`
unfoldable pub place_or_dash : List ℕ → Option (Option ℕ)
place_or_dash w =
    if bytes_eq w (codes "-") then Some None
    else (if bytes_eq (take 1 w) (codes "@") then option_map Some (number_of_word (drop 1 w))
    else option_map Some (number_of_word w))

-- ---- kinds and fields

-- all kinds of slots
abbrev pub all_kinds : List Kind
all_kinds = Kind.Object ∷ Boolean ∷ Char ∷ Float ∷ Double ∷ Byte ∷ Short ∷ Int ∷ Long ∷ []

-- the kind that a word names
unfoldable pub kind_of_word : List ℕ → Option Kind
kind_of_word w = find (λ k. bytes_eq (kind_word k) w) all_kinds

-- NAME:KIND with one colon; no kind's word has one
abbrev pub field_of_word : List ℕ → Option Field
field_of_word w =
    option_and_then
    (λ n. option_map (λ k. record { name = take n w; kind = k }) (kind_of_word (drop (n + 1) w)))
    (position (λ b. b == 58) w)

-- the fields that these words are, if each is one
abbrev pub fields_of_words : List (List ℕ) → Option (List Field)
fields_of_words [] = Some []
fields_of_words (w ∷ ws) =
    option_and_then (λ f. option_map (λ fs. f ∷ fs) (fields_of_words ws)) (field_of_word w)

-- ---- the words after the first

-- the number that the first word holds, and the other words
abbrev pub next_number : List (List ℕ) → Option (ℕ × List (List ℕ))
next_number [] = None
next_number (w ∷ ws) = option_map (λ n. (n, ws)) (number_of_word w)

-- the number that the first word holds, or None from a `-`, and the other words
abbrev pub next_number_or_dash : List (List ℕ) → Option (Option ℕ × List (List ℕ))
next_number_or_dash [] = None
next_number_or_dash (w ∷ ws) = option_map (λ n. (n, ws)) (number_or_dash w)

-- the place that the first word names, or None from a `-`, and the other words
abbrev pub next_place_or_dash : List (List ℕ) → Option (Option ℕ × List (List ℕ))
next_place_or_dash [] = None
next_place_or_dash (w ∷ ws) = option_map (λ n. (n, ws)) (place_or_dash w)

-- the kind that the first word names, and the other words
abbrev pub next_kind : List (List ℕ) → Option (Kind × List (List ℕ))
next_kind [] = None
next_kind (w ∷ ws) = option_map (λ k. (k, ws)) (kind_of_word w)

-- x, if no word is left
abbrev pub at_end : {A : Type 0} → A → List (List ℕ) → Option A
at_end x [] = Some x
at_end x (w ∷ ws) = None

-- the one number that the words are
abbrev pub one_number : List (List ℕ) → Option ℕ
one_number ws = option_and_then (λ a. at_end a.0 a.1) (next_number ws)

-- the one number that the words are, or None from a `-`
abbrev pub one_number_or_dash : List (List ℕ) → Option (Option ℕ)
one_number_or_dash ws = option_and_then (λ a. at_end a.0 a.1) (next_number_or_dash ws)

-- the one place that the words name, or None from a `-`
abbrev pub one_place_or_dash : List (List ℕ) → Option (Option ℕ)
one_place_or_dash ws = option_and_then (λ a. at_end a.0 a.1) (next_place_or_dash ws)

-- the two numbers that the words are
abbrev pub two_numbers : List (List ℕ) → Option (ℕ × ℕ)
two_numbers ws =
    option_and_then (λ a. option_and_then (λ b. at_end (a.0, b.0) b.1) (next_number a.1))
    (next_number ws)

-- the three numbers that the words are
abbrev pub three_numbers : List (List ℕ) → Option (ℕ × ℕ × ℕ)
three_numbers ws =
    option_and_then
    (λ a. option_and_then (λ b. option_and_then (λ c. at_end (a.0, b.0, c.0) c.1) (next_number b.1))
    (next_number a.1)) (next_number ws)

-- the four numbers that the words are
abbrev pub four_numbers : List (List ℕ) → Option (ℕ × ℕ × ℕ × ℕ)
four_numbers ws =
    option_and_then
    (λ a. option_and_then
    (λ b. option_and_then
    (λ c. option_and_then (λ d. at_end (a.0, b.0, c.0, d.0) d.1) (next_number c.1))
    (next_number b.1)) (next_number a.1)) (next_number ws)

-- `class NAME SUPER FIELD ..`
abbrev pub class_line : List (List ℕ) → Option Command
class_line [] = None
class_line (name ∷ []) = None
class_line (name ∷ sup ∷ fields) =
    option_and_then (λ s. option_map (λ fs. Ask (Step (Class name s fs))) (fields_of_words fields))
    (number_or_dash sup)

-- `array NAME`
abbrev pub array_line : List (List ℕ) → Option Command
array_line [] = None
array_line (name ∷ ws) = at_end (Ask (Step (ArrayClass name))) ws

-- `new M R CLASS`
abbrev pub new_line : List (List ℕ) → Option Command
new_line ws = option_map (λ n. Ask (Step (New n.0 n.1 n.2))) (three_numbers ws)

-- `newarray M R CLASS LEN`
abbrev pub newarray_line : List (List ℕ) → Option Command
newarray_line ws = option_map (λ n. Ask (Step (NewArray n.0 n.1 n.2 n.3))) (four_numbers ws)

-- `newprim M R KIND LEN`
abbrev pub newprim_line : List (List ℕ) → Option Command
newprim_line ws =
    option_and_then
    (λ m. option_and_then
    (λ r. option_and_then
    (λ k. option_and_then (λ n. at_end (Ask (Step (NewPrim m.0 r.0 k.0 n.0))) n.1)
    (next_number k.1)) (next_kind r.1)) (next_number m.1)) (next_number ws)

-- `load M TO FROM SLOT`
abbrev pub load_line : List (List ℕ) → Option Command
load_line ws = option_map (λ n. Ask (Step (Load n.0 n.1 n.2 n.3))) (four_numbers ws)

-- `store M TARGET SLOT SOURCE`
abbrev pub store_line : List (List ℕ) → Option Command
store_line ws = option_map (λ n. Ask (Step (Store n.0 n.1 n.2 n.3))) (four_numbers ws)

-- `put M TARGET SLOT VALUE`
abbrev pub put_line : List (List ℕ) → Option Command
put_line ws = option_map (λ n. Ask (Step (Put n.0 n.1 n.2 n.3))) (four_numbers ws)

-- `move M TO FROM_M FROM`
abbrev pub move_line : List (List ℕ) → Option Command
move_line ws = option_map (λ n. Ask (Step (Move n.0 n.1 n.2 n.3))) (four_numbers ws)

-- `clear M R`
abbrev pub clear_line : List (List ℕ) → Option Command
clear_line ws = option_map (λ n. Ask (Step (Clear n.0 n.1))) (two_numbers ws)

-- a step that takes no words
abbrev pub step_line : Event → List (List ℕ) → Option Command
step_line e ws = at_end (Ask (Step e)) ws

-- `sweep REGION`
abbrev pub sweep_line : List (List ℕ) → Option Command
sweep_line ws = option_map (λ region. Ask (Step (Sweep region))) (one_number ws)

-- `rewind N`
abbrev pub rewind_line : List (List ℕ) → Option Command
rewind_line ws = option_map (λ n. Ask (Rewind n)) (one_number ws)

-- `open AT`
abbrev pub open_line : List (List ℕ) → Option Command
open_line ws = option_map (λ at. Ask (OpenPin at)) (one_place_or_dash ws)

-- `piece PIN`
abbrev pub piece_line : List (List ℕ) → Option Command
piece_line ws = option_map (λ pin. Piece pin) (one_number ws)

-- a dump of a pin, or of the current state
abbrev pub dump_command : Option ℕ → Command
dump_command (Some pin) = Dump pin
dump_command None = DumpNow

-- `dump PIN` or `dump -`
abbrev pub dump_line : List (List ℕ) → Option Command
dump_line ws = option_map (λ pin. dump_command pin) (one_number_or_dash ws)

-- `close PIN`
abbrev pub close_line : List (List ℕ) → Option Command
close_line ws = option_map (λ pin. Ask (ClosePin pin)) (one_number ws)

-- `end`
abbrev pub end_line : List (List ℕ) → Option Command
end_line ws = at_end End ws

-- ---- the table of lines

-- a keyword, and what the words after it ask for
abbrev pub Rule : Type 0
Rule = List ℕ × (List (List ℕ) → Option Command)

-- lines that define a class
unfoldable pub class_rules : List Rule
class_rules = (codes "class", class_line) ∷ (codes "array", array_line) ∷ []

-- lines that make an object
unfoldable pub making_rules : List Rule
making_rules =
    (codes "new", new_line) ∷ (codes "newarray", newarray_line) ∷ (codes "newprim", newprim_line)
    ∷ []

-- lines that read or write a slot or a register
unfoldable pub access_rules : List Rule
access_rules =
    (codes "load", load_line)
    ∷ (codes "store", store_line)
    ∷ (codes "put", put_line)
    ∷ (codes "move", move_line)
    ∷ (codes "clear", clear_line)
    ∷ []

-- lines that mark or sweep
unfoldable pub marking_rules : List Rule
marking_rules =
    (codes "snap", step_line Snap)
    ∷ (codes "mark", step_line Mark)
    ∷ (codes "drain", step_line Drain)
    ∷ (codes "finish", step_line Finish)
    ∷ (codes "sweep", sweep_line)
    ∷ []

-- lines that ask the machine or the session for something
unfoldable pub session_rules : List Rule
session_rules =
    (codes "rewind", rewind_line)
    ∷ (codes "open", open_line)
    ∷ (codes "piece", piece_line)
    ∷ (codes "dump", dump_line)
    ∷ (codes "close", close_line)
    ∷ (codes "end", end_line)
    ∷ []

-- all lines
abbrev pub all_rules : List Rule
all_rules = class_rules ++ (making_rules ++ (access_rules ++ (marking_rules ++ session_rules)))

-- what a line asks for, by the rule of its first word
unfoldable pub by_rule : List Rule → List ℕ → List (List ℕ) → Option Command
by_rule rules w ws = option_and_then (λ rule. rule.1 ws) (find (λ rule. bytes_eq w rule.0) rules)

-- the command of these words
abbrev pub command_of_words : List (List ℕ) → Command
command_of_words [] = Blank
command_of_words (w ∷ ws) = unwrap_or (by_rule all_rules w ws) Bad

-- one CR at the end is dropped
abbrev pub without_cr : List ℕ → List ℕ
without_cr l = if slice_index l (length l - 1) == 13 then take (length l - 1) l else l

-- no byte outside 0x20 to 0x7e
abbrev pub is_plain : List ℕ → Bool
is_plain t = list_all (λ b. nat_le 0x20 b && nat_le b 0x7e) t

-- the command of a line without its CR; a line with a bad byte is none of the grammar's
abbrev pub command_of_text : List ℕ → Command
command_of_text t = if is_plain t then command_of_words (words_of_line t) else Bad

-- what a line without its LF asks for
unfoldable pub command_of : List ℕ → Command
command_of line = command_of_text (without_cr line)
