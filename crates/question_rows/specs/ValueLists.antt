-- The text of `values`.
use Rattle.std.specs.Prelude.{◌≡◌, ℕ, Bool, List, ◌++◌, codes, flat_map, length, Result, Ok, Err}
use Rattle.heap_class.specs.declared.Refusal.{Refusal}
use Rattle.hprof_text.specs.Image.{Image}
use Rattle.heap_questions.specs.declared.held_values.SlotValue.{SlotValue}
use Rattle.heap_questions.specs.SlotValues.{AreSlotValues}
use Rattle.session_text.specs.Replies.{and_number, line}
use Rattle.question_words.specs.ClassSlots.{class_slot}
use Rattle.question_words.specs.Moments.{refused_text}
use Rattle.question_words.specs.Rows.{count_text}
use Rattle.question_rows.specs.SlotChanges.{and_word}

-- the line of a value: the word, and how many objects hold it
unfoldable pub value_line : Bool → SlotValue → List ℕ
value_line refers v = line ((codes "row" ++ and_word refers v.word) ++ and_number v.objects)

-- the text is the lines of the values that slot s has in the objects of class k, and their number
abbrev pub AreValuesTold : ℕ → ℕ → Bool → Image → List ℕ → Type 0
AreValuesTold k s refers image text =
    (values : List SlotValue) × AreSlotValues k s image values
    × (text ≡ flat_map (value_line refers) values ++ count_text (length values))

-- the same, or why the objects of the class have no such slot
abbrev pub IsValuesTextOf : Result Bool Refusal → ℕ → ℕ → Image → List ℕ → Type 0
IsValuesTextOf (Ok refers) k s image text = AreValuesTold k s refers image text
IsValuesTextOf (Err e) k s image text = text ≡ refused_text e

-- the answer of `values`
abbrev pub IsValuesText : ℕ → ℕ → Image → List ℕ → Type 0
IsValuesText k s image text = IsValuesTextOf (class_slot image.classes k s) k s image text
