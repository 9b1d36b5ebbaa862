-- Lines of questions that name classes and fields.
use Rattle.std.specs.Prelude.{ℕ, List, [], ◌∷◌, codes, Option, None, option_map, option_and_then, if◌then◌else◌}
use Rattle.std.specs.Option.{option_or}
use Rattle.std.specs.Str.{bytes_eq}
use Rattle.heap_class.specs.Classes.{Class}
use Rattle.heap_world.specs.State.{HeapState}
use Rattle.heap_questions.specs.declared.wanted.Wanted.{Wanted}
use Rattle.heap_questions.specs.declared.wanted.Wanted.TheVariants.{OfClass, Holding}
use Rattle.session_grammar.specs.Grammar.{at_end, next_number, words_of_line}
use Rattle.question_words.specs.declared.at.At.{At}
use Rattle.question_grammar.specs.declared.question.Question.{Question}
use Rattle.question_grammar.specs.declared.question.Question.TheVariants.{Objects, Values, Wrote, Watch, Writes, When, WhenCount}
use Rattle.question_words.specs.declared.ranges.Span.{Span}
use Rattle.question_grammar.specs.Bookmarks.{Bookmarks, default_at}
use Rattle.question_grammar.specs.NameWords.{class_and_slot_named, class_of_word, id_and_slot_named}
use Rattle.question_grammar.specs.Questions.{QuestionRule, SpanAndClass, at_of_word, place_of_word, question_by, question_of, span_and_class, span_of, value_of_word}

-- the objects of a class with a value in a slot, which three words name
unfoldable pub holding_named : List Class → List ℕ → List ℕ → List ℕ → Option Wanted
holding_named classes k s v =
    option_and_then (λ slot. option_map (λ x. Holding slot.0 slot.1 x) (value_of_word v))
    (class_and_slot_named classes k s)

-- the state, and a class or a class with a value in a slot, that the words name; without a state it is that of the session
unfoldable pub objects_named : Bookmarks → List Class → List (List ℕ) → Option (At × Wanted)
objects_named b classes [] = None
objects_named b classes (k ∷ []) =
    option_map (λ k. (default_at b, OfClass k)) (class_of_word classes k)
objects_named b classes (w ∷ k ∷ []) =
    option_and_then (λ at. option_map (λ k. (at, OfClass k)) (class_of_word classes k))
    (at_of_word b w)
objects_named b classes (k ∷ s ∷ v ∷ []) =
    option_map (λ wanted. (default_at b, wanted)) (holding_named classes k s v)
objects_named b classes (w ∷ k ∷ s ∷ v ∷ ws) =
    option_and_then
    (λ at. option_and_then (λ wanted. at_end (at, wanted) ws) (holding_named classes k s v))
    (at_of_word b w)

-- the state, and the class and the slot, that the words name; without a state it is that of the session
unfoldable pub values_named : Bookmarks → List Class → List (List ℕ) → Option (At × (ℕ × ℕ))
values_named b classes [] = None
values_named b classes (w ∷ []) = None
values_named b classes (w ∷ v ∷ []) =
    option_map (λ slot. (default_at b, slot)) (class_and_slot_named classes w v)
values_named b classes (w ∷ v ∷ u ∷ ws) =
    option_and_then
    (λ at. option_and_then (λ slot. at_end (at, slot) ws) (class_and_slot_named classes v u))
    (at_of_word b w)

-- the place, and the id and the slot, that the words name; without a place it is that of the session
unfoldable pub write_named : Bookmarks → HeapState → List (List ℕ) → Option (Option ℕ × (ℕ × ℕ))
write_named b state [] = None
write_named b state (w ∷ []) = None
write_named b state (w ∷ v ∷ []) = option_map (λ slot. (b.at, slot)) (id_and_slot_named state w v)
write_named b state (w ∷ v ∷ u ∷ ws) =
    option_and_then
    (λ to. option_and_then (λ slot. at_end (to, slot) ws) (id_and_slot_named state v u))
    (place_of_word b w)

-- the same, with the place at the end
unfoldable pub watch_named : Bookmarks → HeapState → List (List ℕ) → Option ((ℕ × ℕ) × Option ℕ)
watch_named b state [] = None
watch_named b state (w ∷ []) = None
watch_named b state (w ∷ v ∷ []) = option_map (λ slot. (slot, b.at)) (id_and_slot_named state w v)
watch_named b state (w ∷ v ∷ u ∷ ws) =
    option_and_then (λ slot. option_and_then (λ to. at_end (slot, to) ws) (place_of_word b u))
    (id_and_slot_named state w v)

-- the class, the slot and the steps that the words name
unfoldable pub writes_named : Bookmarks → List Class → List (List ℕ) → Option ((ℕ × ℕ) × Span)
writes_named b classes [] = None
writes_named b classes (w ∷ []) = None
writes_named b classes (w ∷ v ∷ ws) =
    option_and_then (λ slot. option_map (λ span. (slot, span)) (span_of b ws))
    (class_and_slot_named classes w v)

-- the objects of class k that have the value in the slot that the words name
abbrev pub holding_behind_named : List Class → List ℕ → List (List ℕ) → Option Wanted
holding_behind_named classes k [] = None
holding_behind_named classes k (s ∷ []) = None
holding_behind_named classes k (s ∷ v ∷ ws) =
    option_and_then (λ wanted. at_end wanted ws) (holding_named classes k s v)

-- the class, and how many objects it has at least, that the words name
abbrev pub count_named : List Class → List (List ℕ) → Option (ℕ × ℕ)
count_named classes [] = None
count_named classes (k ∷ ws) =
    option_and_then
    (λ k. option_and_then (λ n. at_end (k, n.0) n.1) (next_number ws))
    (class_of_word classes k)

-- for these steps: after `count` a class and how many objects it has at least, else a class, a slot and a value
abbrev pub when_within_named : List Class → SpanAndClass → Option Question
when_within_named classes s =
    if bytes_eq s.1.0 (codes "count")
    then option_map (λ n. WhenCount n.0 n.1 s.0) (count_named classes s.1.1)
    else option_map (λ wanted. When wanted s.0) (holding_behind_named classes s.1.0 s.1.1)

-- the places, if they are named, and what is looked for there
unfoldable pub when_named : Bookmarks → List Class → List (List ℕ) → Option Question
when_named b classes ws = option_and_then (λ s. when_within_named classes s) (span_and_class b ws)

-- ---- the table of questions that take a class or a slot

unfoldable pub named_rules : Bookmarks → HeapState → List QuestionRule
named_rules b state =
    (codes "objects", λ ws. option_map (λ a. Objects a.0 a.1) (objects_named b state.classes ws))
    ∷ (codes "values", λ ws. option_map (λ a. Values a.0 a.1.0 a.1.1) (values_named b state.classes ws))
    ∷ (codes "wrote", λ ws. option_map (λ a. Wrote a.0 a.1.0 a.1.1) (write_named b state ws))
    ∷ (codes "watch", λ ws. option_map (λ a. Watch a.0.0 a.0.1 a.1) (watch_named b state ws))
    ∷ (codes "writes", λ ws. option_map (λ a. Writes a.0.0 a.0.1 a.1) (writes_named b state.classes ws))
    ∷ (codes "when", λ ws. when_named b state.classes ws)
    ∷ []

-- the question of these words, which may name classes and fields of a state
unfoldable pub named_question_of_words : Bookmarks → HeapState → List (List ℕ) → Option Question
named_question_of_words b state [] = None
named_question_of_words b state (w ∷ ws) = question_by (named_rules b state) w ws

-- the question that a line asks in a session with these bookmarks: if it asks none by numbers alone, the one that it asks by names
-- of this state
abbrev pub question_in : Bookmarks → HeapState → List ℕ → Option Question
question_in b state line =
    option_or (question_of b line) (named_question_of_words b state (words_of_line line))
