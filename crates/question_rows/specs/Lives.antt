-- The text of `life`.
use Rattle.std.specs.Prelude.{◌≡◌, ℕ, ◌+◌, List, ◌++◌, codes, flat_map, length, Option, Some, None}
use Rattle.heap_class.specs.Classes.{Class}
use Rattle.heap_trail.specs.Trail.{Trail, retained}
use Rattle.heap_questions.specs.declared.past.lives.Life.{Life}
use Rattle.heap_questions.specs.declared.past.losses.Loss.{Loss}
use Rattle.heap_questions.specs.declared.past.losses.Loss.TheVariants.{Reached, At, Older}
use Rattle.heap_questions.specs.Lives.{AreLives}
use Rattle.session_text.specs.Replies.{and_number, line}
use Rattle.question_words.specs.Names.{class_name}
use Rattle.question_words.specs.Places.{IsTextOrNoMemory}
use Rattle.question_words.specs.Rows.{count_text}

-- a space and a place, or these words if there is none
abbrev pub and_place_or : List ℕ → Option ℕ → List ℕ
and_place_or words (Some place) = and_number place
and_place_or words None = words

-- when registers lost an object
abbrev pub and_loss : Loss → List ℕ
and_loss Reached = codes " -"
and_loss (At place) = and_number place
and_loss Older = codes " older"

-- the line of an object: its class, the steps that made it, lost it and removed it
unfoldable pub life_line : List Class → Life → List ℕ
life_line classes l =
    line
    ((((codes "row " ++ class_name classes l.kind) ++ and_place_or (codes " older") l.born)
    ++ and_loss l.lost) ++ and_place_or (codes " -") l.swept)

-- the text is the lines of the objects that had the id x in one of the retained states, the oldest first, and their number
abbrev pub AreLivesTold : ℕ → Trail → List ℕ → Type 0
AreLivesTold x t text =
    (lives : List Life) × AreLives t x (retained t + 1) lives
    × (text ≡ flat_map (life_line t.current.classes) lives ++ count_text (length lives))

-- the answer of `life`
abbrev pub IsLifeText : ℕ → Trail → List ℕ → Type 0
IsLifeText x t text = IsTextOrNoMemory (AreLivesTold x t) text
