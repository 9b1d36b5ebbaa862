-- The text of `diff`.
use Rattle.std.specs.Prelude.{◌≡◌, ℕ, List, ◌++◌, codes, flat_map, length}
use Rattle.hprof_text.specs.Image.{Image}
use Rattle.heap_questions.specs.Differences.{AreDifferences}
use Rattle.heap_questions.specs.declared.differences.Difference.{Difference}
use Rattle.heap_questions.specs.declared.differences.Difference.TheVariants.{Made, Gone, Changed}
use Rattle.session_text.specs.Replies.{and_number, line}
use Rattle.question_words.specs.Ids.{and_id}
use Rattle.question_words.specs.Rows.{count_text}
use Rattle.question_rows.specs.SlotChanges.{and_word}

-- an object that one state alone has, or a slot and its words in the older and the newer state
abbrev pub difference_words : Difference → List ℕ
difference_words (Made x) = and_id x ++ codes " made"
difference_words (Gone x) = and_id x ++ codes " gone"
difference_words (Changed x s old new) =
    ((and_id x ++ and_number s) ++ and_word old.refers old.word) ++ and_word new.refers new.word

-- the line of a difference
unfoldable pub difference_line : Difference → List ℕ
difference_line d = line (codes "row" ++ difference_words d)

-- the answer of `diff`: the lines of all that differs, and how many they are
abbrev pub IsDiffText : Image → Image → List ℕ → Type 0
IsDiffText older newer text =
    (rows : List Difference) × AreDifferences older newer rows
    × (text ≡ flat_map difference_line rows ++ count_text (length rows))
