-- The texts of `when`.
use Rattle.std.specs.Prelude.{◌≡◌, ℕ, ◌-◌, nat_lt, List, codes, Option, Some, None, Result, Ok, Err, if◌then◌else◌}
use Rattle.heap_class.specs.declared.Refusal.{Refusal}
use Rattle.heap_trail.specs.Trail.{Trail, retained, rewound}
use Rattle.hprof_text.specs.Image.{Image}
use Rattle.heap_questions.specs.declared.wanted.Wanted.{Wanted}
use Rattle.heap_questions.specs.declared.wanted.Wanted.TheVariants.{OfClass}
use Rattle.heap_questions.specs.FirstPlaces.{HasMany, HasWanted, IsFirstPlace}
use Rattle.question_words.specs.declared.ranges.Span.{Span}
use Rattle.question_words.specs.declared.ranges.Span.TheVariants.{AllSteps, Between}
use Rattle.question_words.specs.ClassSlots.{wanted_refusal}
use Rattle.question_words.specs.Moments.{steps_ago, refused_text}
use Rattle.question_words.specs.Places.{IsTextOrNoMemory, place_text}

-- of the states between two, both included: how many steps ago the newest was, and how many steps before it the oldest
abbrev pub states_from : ℕ → ℕ → ℕ × ℕ
states_from one other = if nat_lt one other then (one, other - one) else (other, one - other)

-- the same, or why there are none
abbrev pub states_between : Result ℕ Refusal → Result ℕ Refusal → Result (ℕ × ℕ) Refusal
states_between (Ok one) (Ok other) = Ok (states_from one other)
states_between (Ok one) (Err e) = Err e
states_between (Err e) other = Err e

-- the same of the states that a question is about: all that are retained, or those between two, whichever is the older
unfoldable pub states_of : Span → Trail → Result (ℕ × ℕ) Refusal
states_of AllSteps t = Ok (0, retained t)
states_of (Between one other) t = states_between (steps_ago one t) (steps_ago other t)

-- the line of the first place, or that there is none
abbrev pub first_text : Option ℕ → List ℕ
first_text (Some place) = place_text place
first_text None = codes "ok never\n"

-- the same, or the line of a refusal
abbrev pub first_or_refused : Result (Option ℕ) Refusal → List ℕ
first_or_refused (Ok first) = first_text first
first_or_refused (Err e) = refused_text e

-- the text is the line of the first place of a trail at which P holds, since `oldest` steps ago
abbrev pub IsFirstTold : (Image → Type 0) → Trail → ℕ → List ℕ → Type 0
IsFirstTold P t oldest text =
    (first : Option ℕ) × IsFirstPlace P t oldest first × (text ≡ first_text first)

-- the same of the states that are named, or why there are none
abbrev pub IsFirstIn : (Image → Type 0) → Trail → Result (ℕ × ℕ) Refusal → List ℕ → Type 0
IsFirstIn P t (Ok states) text =
    IsTextOrNoMemory (IsFirstTold P (rewound states.0 t) states.1) text
IsFirstIn P t (Err e) text = text ≡ refused_text e

-- the same, or why there are no such objects
abbrev pub IsFirstUnless : Option Refusal → (Image → Type 0) → Trail → Result (ℕ × ℕ) Refusal
    → List ℕ → Type 0
IsFirstUnless None P t states text = IsFirstIn P t states text
IsFirstUnless (Some e) P t states text = text ≡ refused_text e

-- the answer of `when` about objects of a current class
abbrev pub IsWhenText : Wanted → Span → Trail → List ℕ → Type 0
IsWhenText wanted span t text =
    IsFirstUnless (wanted_refusal t.current.classes wanted) (HasWanted wanted) t (states_of span t)
    text

-- the answer of `when` about how many objects class k has: at least n
abbrev pub IsWhenCountText : ℕ → ℕ → Span → Trail → List ℕ → Type 0
IsWhenCountText k n span t text =
    IsFirstUnless (wanted_refusal t.current.classes (OfClass k)) (HasMany n (OfClass k)) t
    (states_of span t) text
