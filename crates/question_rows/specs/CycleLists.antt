-- The text of `cycles`.
use Rattle.std.specs.Prelude.{◌≡◌, ℕ, List, ◌++◌, codes, flat_map, length}
use Rattle.heap_trail.specs.Trail.{Trail, retained}
use Rattle.heap_questions.specs.declared.past.cycles.EndedCycle.{EndedCycle}
use Rattle.heap_questions.specs.Cycles.{AreLastCycles}
use Rattle.session_text.specs.Replies.{and_number, line}
use Rattle.question_words.specs.Places.{IsTextOrNoMemory}
use Rattle.question_words.specs.Rows.{count_text}

-- the line of a cycle: the place of the step that ended it, how many objects it condemned, and how many of them were removed
unfoldable pub cycle_line : EndedCycle → List ℕ
cycle_line c =
    line (((codes "row" ++ and_number c.place) ++ and_number c.condemned) ++ and_number c.swept)

-- the text is the lines of the cycles that the retained steps ended, the oldest first, and their number
abbrev pub AreCyclesTold : Trail → List ℕ → Type 0
AreCyclesTold t text =
    (cycles : List EndedCycle) × AreLastCycles t (retained t) cycles
    × (text ≡ flat_map cycle_line cycles ++ count_text (length cycles))

-- the answer of `cycles`
abbrev pub IsCyclesText : Trail → List ℕ → Type 0
IsCyclesText t text = IsTextOrNoMemory (AreCyclesTold t) text
