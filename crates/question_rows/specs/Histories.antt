-- The text of `history`.
use Rattle.std.specs.Prelude.{◌≡◌, ℕ, List, ◌++◌, codes, flat_map, length, Option, Result, Ok, Err}
use Rattle.heap_class.specs.Classes.{Class}
use Rattle.heap_class.specs.declared.Refusal.{Refusal}
use Rattle.heap_trail.specs.Trail.{Trail}
use Rattle.heap_questions.specs.declared.past.events.PastEvent.{PastEvent}
use Rattle.heap_questions.specs.declared.past.events.PastEvent.TheVariants.{Put, Store, Register, New, Class as ClassDefined, Snap, Mark, Drain, Finish, Sweep, Reclaim}
use Rattle.heap_questions.specs.declared.past.steps.PastStep.{PastStep}
use Rattle.heap_questions.specs.Newest.{steps_back}
use Rattle.session_text.specs.Replies.{and_number, line}
use Rattle.question_words.specs.Ids.{and_id, and_reference}
use Rattle.question_words.specs.Moments.{refused_text}
use Rattle.question_words.specs.Names.{IsClassThere, class_name}
use Rattle.question_words.specs.Places.{IsTextOrNoMemory}
use Rattle.question_words.specs.Rows.{count_text}
use Rattle.question_words.specs.Moments.{steps_ago}

-- a space, a word, an id and the number of a slot
abbrev pub and_slot : List ℕ → ℕ → ℕ → List ℕ
and_slot word x slot = (word ++ and_id x) ++ and_number slot

-- the numbers of a mutator and its register, and what it named before
abbrev pub and_overwritten : ℕ → ℕ → ℕ → List ℕ
and_overwritten m r old = (and_number m ++ and_number r) ++ and_reference old

-- what a step did, what it overwrote and what it wrote: the class of a new object, or the new word
unfoldable pub event_words : List Class → PastEvent → List ℕ
event_words classes (Put x slot old new) =
    (and_slot (codes " put") x slot ++ and_number old) ++ and_number new
event_words classes (Store x slot old new) =
    (and_slot (codes " store") x slot ++ and_reference old) ++ and_reference new
event_words classes (Register m r old new) =
    (codes " reg" ++ and_overwritten m r old) ++ and_reference new
event_words classes (New x m r old kind) =
    ((codes " new" ++ and_id x) ++ and_overwritten m r old)
    ++ (codes " " ++ class_name classes kind)
event_words classes ClassDefined = codes " class"
event_words classes Snap = codes " snap"
event_words classes (Mark parent pushed) = (codes " mark" ++ and_id parent) ++ and_number pushed
event_words classes (Drain pushed) = codes " drain" ++ and_number pushed
event_words classes (Finish log) = codes " finish" ++ and_number log
event_words classes (Sweep region dead) =
    (codes " sweep" ++ and_number region) ++ and_number dead
event_words classes (Reclaim region) = codes " reclaim" ++ and_number region

-- the class of the object that a step made is there, if it made one
abbrev pub IsEventThere : List Class → PastEvent → Type 0
IsEventThere classes (New x m r old kind) = IsClassThere classes kind
IsEventThere classes event = Unit {0}

abbrev pub IsStepThere : List Class → PastStep → Type 0
IsStepThere classes s = IsEventThere classes s.event

-- the line of a step
unfoldable pub past_step_line : List Class → PastStep → List ℕ
past_step_line classes s =
    line ((codes "row" ++ and_number s.place) ++ event_words classes s.event)

-- the lines of some steps, and their number
abbrev pub steps_text : List Class → List PastStep → List ℕ
steps_text classes steps =
    flat_map (past_step_line classes) steps ++ count_text (length steps)

-- the text is the lines of the newest `count` of the retained steps that led to the state of `ago` steps ago, and their number
abbrev pub AreStepsTold : Trail → ℕ → ℕ → List ℕ → Type 0
AreStepsTold t count ago text = text ≡ steps_text t.current.classes (steps_back t ago count)

-- the same, or why there are none
abbrev pub IsHistoryTextOf : Trail → ℕ → Result ℕ Refusal → List ℕ → Type 0
IsHistoryTextOf t count (Ok ago) text = IsTextOrNoMemory (AreStepsTold t count ago) text
IsHistoryTextOf t count (Err e) text = text ≡ refused_text e

-- the answer of `history`
abbrev pub IsHistoryText : Option ℕ → ℕ → Trail → List ℕ → Type 0
IsHistoryText to count t text = IsHistoryTextOf t count (steps_ago to t) text
