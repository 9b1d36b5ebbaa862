-- The lines of questions.
use Rattle.std.specs.Prelude.{ℕ, List, [], ◌∷◌, take, drop, find, codes, Option, Some, None, option_map, option_and_then, if◌then◌else◌, nat_le, nat_lt, ◌&&◌}
use Rattle.std.specs.Str.{bytes_eq}
use Rattle.session_grammar.specs.Grammar.{at_end, next_number, number_of_word, two_numbers, words_of_line}
use Rattle.question_words.specs.declared.at.At.{At}
use Rattle.question_words.specs.declared.at.At.TheVariants.{Current, Pin, Place}
use Rattle.question_grammar.specs.declared.question.Question.{Question}
use Rattle.question_grammar.specs.declared.question.Question.TheVariants.{Histogram, Garbage, Growth, Kept, Diff, Registers, Classes, Objects, Values, Referrers, Path, Paths, Retained, Dominators, Dominated, Dominator, Show, Born, Wrote, Watch, Writes, When, WhenCount, Dropped, Life, History, Cycles, Pins, Cells, Regions, Status}
use Rattle.question_words.specs.declared.ranges.SlotRange.{SlotRange}
use Rattle.question_words.specs.declared.ranges.SlotRange.TheVariants.{AllSlots, FromSlot}
use Rattle.question_words.specs.declared.ranges.Span.{Span}
use Rattle.question_words.specs.declared.ranges.Span.TheVariants.{AllSteps, Between}
use Rattle.std.specs.Option.{option_or}
use Rattle.heap_questions.specs.declared.wanted.Wanted.{Wanted}
use Rattle.heap_questions.specs.declared.wanted.Wanted.TheVariants.{All, OfClass, Holding}
use Rattle.question_words.specs.Ids.{id_of_word}
use Rattle.question_grammar.specs.Bookmarks.{Bookmarks, default_at, place_named}

-- the place that a word names behind `@`: by its number, or by its name
abbrev pub place_behind : Bookmarks → List ℕ → Option ℕ
place_behind b w = option_or (number_of_word w) (place_named b.names w)

-- the state that a word names: `-`, `@` and a place, or the number of a pin
unfoldable pub at_of_word : Bookmarks → List ℕ → Option At
at_of_word b w =
    if bytes_eq w (codes "-") then Some Current
    else (if bytes_eq (take 1 w) (codes "@")
    then option_map (λ place. Place place) (place_behind b (drop 1 w))
    else option_map (λ pin. Pin pin) (number_of_word w))

-- ---- the words after the first

-- the state that the first word names, and the other words
abbrev pub next_at : Bookmarks → List (List ℕ) → Option (At × List (List ℕ))
next_at b [] = None
next_at b (w ∷ ws) = option_map (λ at. (at, ws)) (at_of_word b w)

-- the one state that the words name
abbrev pub one_at : Bookmarks → List (List ℕ) → Option At
one_at b ws = option_and_then (λ a. at_end a.0 a.1) (next_at b ws)

-- the same; without a word it is that of the session
abbrev pub optional_at : Bookmarks → List (List ℕ) → Option At
optional_at b [] = Some (default_at b)
optional_at b (w ∷ ws) = one_at b (w ∷ ws)

-- the two states that the words name
abbrev pub two_ats : Bookmarks → List (List ℕ) → Option (At × At)
two_ats b ws =
    option_and_then (λ a. option_and_then (λ c. at_end (a.0, c.0) c.1) (next_at b a.1)) (next_at b ws)

-- the same; without the second it is the current one, and without the first that of the session
abbrev pub optional_ats : Bookmarks → List (List ℕ) → Option (At × At)
optional_ats b [] = Some (default_at b, Current)
optional_ats b (w ∷ []) = option_map (λ at. (at, Current)) (at_of_word b w)
optional_ats b (w ∷ v ∷ ws) = two_ats b (w ∷ v ∷ ws)

-- the id that the first word is, and the other words
abbrev pub next_id : List (List ℕ) → Option (ℕ × List (List ℕ))
next_id [] = None
next_id (w ∷ ws) = option_map (λ x. (x, ws)) (id_of_word w)

-- the id that the words are
abbrev pub one_id : List (List ℕ) → Option ℕ
one_id ws = option_and_then (λ x. at_end x.0 x.1) (next_id ws)

-- the state and the id that the words name
abbrev pub at_and_id : Bookmarks → List (List ℕ) → Option (At × ℕ)
at_and_id b ws =
    option_and_then (λ a. option_and_then (λ x. at_end (a.0, x.0) x.1) (next_id a.1)) (next_at b ws)

-- the same; without a state it is that of the session
abbrev pub optional_at_and_id : Bookmarks → List (List ℕ) → Option (At × ℕ)
optional_at_and_id b [] = None
optional_at_and_id b (w ∷ []) = option_map (λ x. (default_at b, x)) (id_of_word w)
optional_at_and_id b (w ∷ v ∷ ws) = at_and_id b (w ∷ v ∷ ws)

-- the state of the session and the number; or without one the state that a word names
abbrev pub number_or_at : Bookmarks → Option ℕ → List ℕ → Option (At × Option ℕ)
number_or_at b (Some n) w = Some (default_at b, Some n)
number_or_at b None w = option_map (λ at. (at, None)) (at_of_word b w)

-- the number that a word is, about the state of the session, or the state that it names
abbrev pub at_or_number : Bookmarks → List ℕ → Option (At × Option ℕ)
at_or_number b w = number_or_at b (number_of_word w) w

-- the place of a state: none for the current one; a pin may keep a state that the retained steps don't lead to
abbrev pub place_of : At → Option (Option ℕ)
place_of Current = Some None
place_of (Place place) = Some (Some place)
place_of (Pin pin) = None

-- the place of the state that a word names
abbrev pub place_of_word : Bookmarks → List ℕ → Option (Option ℕ)
place_of_word b w = option_and_then place_of (at_of_word b w)

-- the place and the id that the words name; without a place it is that of the session
abbrev pub place_and_id : Bookmarks → List (List ℕ) → Option (Option ℕ × ℕ)
place_and_id b [] = None
place_and_id b (w ∷ []) = option_map (λ x. (b.at, x)) (id_of_word w)
place_and_id b (w ∷ v ∷ ws) =
    option_and_then (λ to. option_and_then (λ x. at_end (to, x) ws) (id_of_word v)) (place_of_word b w)

-- the id and the number that two words are
abbrev pub id_and_number : List ℕ → List ℕ → Option (ℕ × ℕ)
id_and_number w v =
    option_and_then (λ x. option_map (λ n. (x, n)) (number_of_word v)) (id_of_word w)

-- the most paths that a question is answered with
abbrev pub path_limit : ℕ
path_limit = 256

-- the number of paths that a word is: from 1 to the limit
abbrev pub path_count : List ℕ → Option ℕ
path_count w =
    option_and_then (λ n. if nat_lt 0 n && nat_le n path_limit then Some n else None)
    (number_of_word w)

-- the id and the number of paths that two words are
abbrev pub id_and_paths : List ℕ → List ℕ → Option (ℕ × ℕ)
id_and_paths w v =
    option_and_then (λ x. option_map (λ n. (x, n)) (path_count v)) (id_of_word w)

-- the state, and the id and the number of paths, that the words name; without a state it is that of the session
abbrev pub at_and_paths : Bookmarks → List (List ℕ) → Option (At × (ℕ × ℕ))
at_and_paths b [] = None
at_and_paths b (w ∷ []) = None
at_and_paths b (w ∷ v ∷ []) = option_map (λ asked. (default_at b, asked)) (id_and_paths w v)
at_and_paths b (w ∷ v ∷ u ∷ ws) =
    option_and_then (λ at. option_and_then (λ asked. at_end (at, asked) ws) (id_and_paths v u))
    (at_of_word b w)

-- the place, and the id and the number, that the words name; without a place it is that of the session
abbrev pub place_and_slot : Bookmarks → List (List ℕ) → Option (Option ℕ × (ℕ × ℕ))
place_and_slot b [] = None
place_and_slot b (w ∷ []) = None
place_and_slot b (w ∷ v ∷ []) = option_map (λ slot. (b.at, slot)) (id_and_number w v)
place_and_slot b (w ∷ v ∷ u ∷ ws) =
    option_and_then (λ to. option_and_then (λ slot. at_end (to, slot) ws) (id_and_number v u))
    (place_of_word b w)

-- the same, with the place at the end
abbrev pub slot_and_place : Bookmarks → List (List ℕ) → Option ((ℕ × ℕ) × Option ℕ)
slot_and_place b [] = None
slot_and_place b (w ∷ []) = None
slot_and_place b (w ∷ v ∷ []) = option_map (λ slot. (slot, b.at)) (id_and_number w v)
slot_and_place b (w ∷ v ∷ u ∷ ws) =
    option_and_then (λ slot. option_and_then (λ to. at_end (slot, to) ws) (place_of_word b u))
    (id_and_number w v)

-- the steps that the words name: all, or those after the first place up to the second, which is that of the current state if it
-- isn't named
abbrev pub span_of : Bookmarks → List (List ℕ) → Option Span
span_of b [] = Some AllSteps
span_of b (w ∷ []) = option_map (λ after. Between after None) (place_of_word b w)
span_of b (w ∷ v ∷ ws) =
    option_and_then (λ after. option_and_then (λ to. at_end (Between after to) ws) (place_of_word b v))
    (place_of_word b w)

-- the two numbers and the steps that the words name
abbrev pub numbers_and_span : Bookmarks → List (List ℕ) → Option ((ℕ × ℕ) × Span)
numbers_and_span b ws =
    option_and_then
    (λ n. option_and_then (λ k. option_map (λ span. ((n.0, k.0), span)) (span_of b k.1)) (next_number n.1))
    (next_number ws)

-- the place and the number that the words name; without a place it is that of the session
abbrev pub place_and_number : Bookmarks → List (List ℕ) → Option (Option ℕ × ℕ)
place_and_number b [] = None
place_and_number b (w ∷ []) = option_map (λ n. (b.at, n)) (number_of_word w)
place_and_number b (w ∷ v ∷ ws) =
    option_and_then (λ to. option_and_then (λ n. at_end (to, n) ws) (number_of_word v))
    (place_of_word b w)

-- the word of a slot that a word tells: an id, `null` or a number
unfoldable pub value_of_word : List ℕ → Option ℕ
value_of_word w =
    if bytes_eq w (codes "null") then Some 0 else option_or (id_of_word w) (number_of_word w)

-- the objects that the words name: all, those of a class, or those of a class with a value in a slot
abbrev pub wanted_of : List (List ℕ) → Option Wanted
wanted_of [] = Some All
wanted_of (k ∷ []) = option_map (λ k. OfClass k) (number_of_word k)
wanted_of (k ∷ s ∷ []) = None
wanted_of (k ∷ s ∷ v ∷ []) =
    option_and_then
    (λ k. option_and_then (λ s. option_map (λ v. Holding k s v) (value_of_word v)) (number_of_word s))
    (number_of_word k)
wanted_of (k ∷ s ∷ v ∷ w ∷ ws) = None

-- the state and the objects that the words name; without a state it is that of the session
abbrev pub at_and_wanted : Bookmarks → List (List ℕ) → Option (At × Wanted)
at_and_wanted b [] = Some (default_at b, All)
at_and_wanted b (w ∷ ws) =
    option_and_then (λ at. option_map (λ x. (at, x)) (wanted_of ws)) (at_of_word b w)

-- the class and the slot that two words name
abbrev pub class_and_slot : List ℕ → List ℕ → Option (ℕ × ℕ)
class_and_slot w v =
    option_and_then (λ k. option_map (λ s. (k, s)) (number_of_word v)) (number_of_word w)

-- the state, and the class and the slot, that the words name; without a state it is that of the session
abbrev pub at_and_slot : Bookmarks → List (List ℕ) → Option (At × (ℕ × ℕ))
at_and_slot b [] = None
at_and_slot b (w ∷ []) = None
at_and_slot b (w ∷ v ∷ []) = option_map (λ slot. (default_at b, slot)) (class_and_slot w v)
at_and_slot b (w ∷ v ∷ u ∷ ws) =
    option_and_then (λ at. option_and_then (λ slot. at_end (at, slot) ws) (class_and_slot v u))
    (at_of_word b w)

-- the objects of a class with a value in a slot, which three words name
abbrev pub holding : List ℕ → List ℕ → List ℕ → Option Wanted
holding k s v =
    option_and_then (λ slot. option_map (λ x. Holding slot.0 slot.1 x) (value_of_word v))
    (class_and_slot k s)

-- ---- the words after `when`

-- the steps, the word of a class, and the words behind it
abbrev pub SpanAndClass : Type 0
SpanAndClass = Span × (List ℕ × List (List ℕ))

-- from the first place on: up to that of word w, if it names one, and then the next word is the class; else w is the class
abbrev pub class_up_to : Option ℕ → Option (Option ℕ) → List ℕ → List (List ℕ) → Option SpanAndClass
class_up_to after None w ws = Some (Between after None, (w, ws))
class_up_to after (Some to) w [] = None
class_up_to after (Some to) w (v ∷ vs) = Some (Between after to, (v, vs))

-- the same from the place of word w on, if it names one; else w is the class, and all steps are meant
abbrev pub class_behind : Bookmarks → Option (Option ℕ) → List ℕ → List (List ℕ) → Option SpanAndClass
class_behind b None w ws = Some (AllSteps, (w, ws))
class_behind b (Some after) w [] = None
class_behind b (Some after) w (v ∷ vs) = class_up_to after (place_of_word b v) v vs

-- the steps that up to two places name, and the class: the first word that names no place
abbrev pub span_and_class : Bookmarks → List (List ℕ) → Option SpanAndClass
span_and_class b [] = None
span_and_class b (w ∷ ws) = class_behind b (place_of_word b w) w ws

-- the objects of class k that have the value in the slot that the words name
abbrev pub holding_behind : List ℕ → List (List ℕ) → Option Wanted
holding_behind k [] = None
holding_behind k (s ∷ []) = None
holding_behind k (s ∷ v ∷ ws) = option_and_then (λ wanted. at_end wanted ws) (holding k s v)

-- for these steps: after `count` a class and how many objects it has at least, else a class, a slot and a value
abbrev pub when_within : SpanAndClass → Option Question
when_within s =
    if bytes_eq s.1.0 (codes "count")
    then option_map (λ n. WhenCount n.0 n.1 s.0) (two_numbers s.1.1)
    else option_map (λ wanted. When wanted s.0) (holding_behind s.1.0 s.1.1)

-- the places, if they are named, and what is looked for there
abbrev pub when_of : Bookmarks → List (List ℕ) → Option Question
when_of b ws = option_and_then (λ s. when_within s) (span_and_class b ws)

-- ---- the words after `dominators`

-- what object x dominates in a state: as many rows as the words say, or all
abbrev pub dominated_by : At → ℕ → List (List ℕ) → Option Question
dominated_by at x [] = Some (Dominated at x None)
dominated_by at x (w ∷ ws) =
    option_and_then (λ n. at_end (Dominated at x (Some n)) ws) (number_of_word w)

-- what is asked of a state by a word, which may be this id, and those behind it
abbrev pub dominators_by : At → Option ℕ → List ℕ → List (List ℕ) → Option Question
dominators_by at (Some x) w ws = dominated_by at x ws
dominators_by at None w ws =
    option_and_then (λ n. at_end (Dominators at (Some n)) ws) (number_of_word w)

-- the same; the first word, which may be this id, may be the state
abbrev pub dominators_from : Bookmarks → Option ℕ → List ℕ → List (List ℕ) → Option Question
dominators_from b (Some x) w ws = dominated_by (default_at b) x ws
dominators_from b None w [] = option_map (λ a. Dominators a.0 a.1) (at_or_number b w)
dominators_from b None w (v ∷ ws) =
    option_and_then (λ at. dominators_by at (id_of_word v) v ws) (at_of_word b w)

-- a state, an id and a number of rows, each if it is named
abbrev pub dominators_of : Bookmarks → List (List ℕ) → Option Question
dominators_of b [] = Some (Dominators (default_at b) None)
dominators_of b (w ∷ ws) = dominators_from b (id_of_word w) w ws

-- ---- the words after `show`

-- the slots that the words name: all, or from the first number on as many as the second says
abbrev pub slots_named : List (List ℕ) → Option SlotRange
slots_named [] = Some AllSlots
slots_named (w ∷ ws) =
    option_and_then (λ first. option_and_then (λ n. at_end (FromSlot first n.0) n.1) (next_number ws))
    (number_of_word w)

-- the slots of object x in a state that the words name
abbrev pub show_by : At → ℕ → List (List ℕ) → Option Question
show_by at x ws = option_map (λ slots. Show at x slots) (slots_named ws)

-- the same; the first word, which may be this id, may be the state
abbrev pub show_from : Bookmarks → Option ℕ → List ℕ → List (List ℕ) → Option Question
show_from b (Some x) w ws = show_by (default_at b) x ws
show_from b None w ws =
    option_and_then (λ at. option_and_then (λ x. show_by at x.0 x.1) (next_id ws)) (at_of_word b w)

-- a state, if it is named, an id and the slots
abbrev pub show_of : Bookmarks → List (List ℕ) → Option Question
show_of b [] = None
show_of b (w ∷ ws) = show_from b (id_of_word w) w ws

-- ---- the table of questions

-- a keyword, and what the words after it ask
abbrev pub QuestionRule : Type 0
QuestionRule = List ℕ × (List (List ℕ) → Option Question)

-- the questions about what retained steps did, about pins, and about the current state
unfoldable pub past_rules : Bookmarks → List QuestionRule
past_rules b =
    (codes "born", λ ws. option_map (λ a. Born a.0 a.1) (place_and_id b ws))
    ∷ (codes "dropped", λ ws. option_map (λ a. Dropped a.0 a.1) (place_and_id b ws))
    ∷ (codes "life", λ ws. option_map (λ x. Life x) (one_id ws))
    ∷ (codes "cycles", λ ws. at_end Cycles ws)
    ∷ (codes "pins", λ ws. at_end Pins ws)
    ∷ (codes "cells", λ ws. at_end Cells ws)
    ∷ (codes "regions", λ ws. option_map (λ at. Regions at) (optional_at b ws))
    ∷ (codes "status", λ ws. at_end Status ws)
    ∷ (codes "history", λ ws. option_map (λ a. History a.0 a.1) (place_and_number b ws))
    ∷ (codes "wrote", λ ws. option_map (λ a. Wrote a.0 a.1.0 a.1.1) (place_and_slot b ws))
    ∷ (codes "watch", λ ws. option_map (λ a. Watch a.0.0 a.0.1 a.1) (slot_and_place b ws))
    ∷ (codes "writes", λ ws. option_map (λ a. Writes a.0.0 a.0.1 a.1) (numbers_and_span b ws))
    ∷ (codes "when", λ ws. when_of b ws)
    ∷ []

-- all questions: those about a state first
unfoldable pub question_rules : Bookmarks → List QuestionRule
question_rules b =
    (codes "histogram", λ ws. option_map (λ at. Histogram at) (optional_at b ws))
    ∷ (codes "garbage", λ ws. option_map (λ at. Garbage at) (optional_at b ws))
    ∷ (codes "registers", λ ws. option_map (λ at. Registers at) (optional_at b ws))
    ∷ (codes "growth", λ ws. option_map (λ a. Growth a.0 a.1) (optional_ats b ws))
    ∷ (codes "classes", λ ws. option_map (λ at. Classes at) (optional_at b ws))
    ∷ (codes "objects", λ ws. option_map (λ a. Objects a.0 a.1) (at_and_wanted b ws))
    ∷ (codes "values", λ ws. option_map (λ a. Values a.0 a.1.0 a.1.1) (at_and_slot b ws))
    ∷ (codes "kept", λ ws. option_map (λ a. Kept a.0 a.1) (optional_ats b ws))
    ∷ (codes "diff", λ ws. option_map (λ a. Diff a.0 a.1) (optional_ats b ws))
    ∷ (codes "referrers", λ ws. option_map (λ a. Referrers a.0 a.1) (optional_at_and_id b ws))
    ∷ (codes "path", λ ws. option_map (λ a. Path a.0 a.1) (optional_at_and_id b ws))
    ∷ (codes "paths", λ ws. option_map (λ a. Paths a.0 a.1.0 a.1.1) (at_and_paths b ws))
    ∷ (codes "retained", λ ws. option_map (λ a. Retained a.0 a.1) (optional_at_and_id b ws))
    ∷ (codes "dominators", λ ws. dominators_of b ws)
    ∷ (codes "dominator", λ ws. option_map (λ a. Dominator a.0 a.1) (optional_at_and_id b ws))
    ∷ (codes "show", λ ws. show_of b ws)
    ∷ past_rules b

-- what the words after a keyword ask, by the first of these rules that has it
abbrev pub question_by : List QuestionRule → List ℕ → List (List ℕ) → Option Question
question_by rules w ws =
    option_and_then (λ rule. rule.1 ws) (find (λ rule. bytes_eq w rule.0) rules)

-- the question of these words, by the rule of the first
unfoldable pub question_of_words : Bookmarks → List (List ℕ) → Option Question
question_of_words b [] = None
question_of_words b (w ∷ ws) = question_by (question_rules b) w ws

-- the question that a line asks
abbrev pub question_of : Bookmarks → List ℕ → Option Question
question_of b line = question_of_words b (words_of_line line)
