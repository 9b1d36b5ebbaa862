-- The answers about the steps up to a place.
use Rattle.std.specs.Prelude.{◌≡◌, ℕ, ◌-◌, List, Option, Some, None, Result, Ok, Err}
use Rattle.heap_class.specs.declared.Refusal.{Refusal}
use Rattle.heap_trail.specs.Trail.{Trail, retained, rewound}
use Rattle.question_words.specs.declared.ranges.Span.{Span}
use Rattle.question_words.specs.declared.ranges.Span.TheVariants.{AllSteps, Between}
use Rattle.question_words.specs.Moments.{steps_ago, refused_text}
use Rattle.question_words.specs.Places.{IsTextOrNoMemory}

-- the answer about the trail that a rewind of some steps would leave, or why there is none
abbrev pub IsAnswerAgo : (Trail → List ℕ → Type 0) → Trail → Result ℕ Refusal → List ℕ → Type 0
IsAnswerAgo answers t (Ok ago) text = answers (rewound ago t) text
IsAnswerAgo answers t (Err e) text = text ≡ refused_text e

-- the answer about the trail that a rewind to a place would leave; without a place there is no rewind
abbrev pub IsAnswerUpTo : (Trail → List ℕ → Type 0) → Option ℕ → Trail → List ℕ → Type 0
IsAnswerUpTo answers None t text = answers t text
IsAnswerUpTo answers (Some place) t text = IsAnswerAgo answers t (steps_ago (Some place) t) text

-- the same, or for a place memory was refused
abbrev pub IsAnswerSeen : (Trail → List ℕ → Type 0) → Option ℕ → Trail → List ℕ → Type 0
IsAnswerSeen answers None t text = answers t text
IsAnswerSeen answers (Some place) t text =
    IsAnswerAgo (λ u. IsTextOrNoMemory (answers u)) t (steps_ago (Some place) t) text

-- of the steps after one place up to another: how many steps ago the last of them was, and how many there are
abbrev pub steps_between : Result ℕ Refusal → Result ℕ Refusal → Result (ℕ × ℕ) Refusal
steps_between (Ok after) (Ok to) = Ok (to, after - to)
steps_between (Ok after) (Err e) = Err e
steps_between (Err e) to = Err e

-- the same of the steps that a question is about
unfoldable pub steps_of : Span → Trail → Result (ℕ × ℕ) Refusal
steps_of AllSteps t = Ok (0, retained t)
steps_of (Between after to) t = steps_between (steps_ago after t) (steps_ago to t)
