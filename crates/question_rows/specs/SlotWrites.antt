-- The text of `writes`.
use Rattle.std.specs.Prelude.{◌≡◌, ℕ, Bool, List, ◌++◌, codes, flat_map, length, Result, Ok, Err}
use Rattle.heap_class.specs.declared.Refusal.{Refusal}
use Rattle.heap_trail.specs.Trail.{Trail, rewound}
use Rattle.heap_questions.specs.declared.past.writes.SlotWrite.{SlotWrite}
use Rattle.heap_questions.specs.SlotWrites.{AreLastWrites}
use Rattle.session_text.specs.Replies.{and_number, line}
use Rattle.question_words.specs.declared.ranges.Span.{Span}
use Rattle.question_words.specs.ClassSlots.{class_slot}
use Rattle.question_words.specs.Ids.{and_id}
use Rattle.question_words.specs.Moments.{refused_text}
use Rattle.question_rows.specs.PastAnswers.{steps_of}
use Rattle.question_words.specs.Places.{IsTextOrNoMemory}
use Rattle.question_words.specs.Rows.{count_text}
use Rattle.question_rows.specs.SlotChanges.{and_word}

-- the line of a write: its place, the object, and the words before and after it
unfoldable pub write_line : Bool → SlotWrite → List ℕ
write_line refers w =
    line
    ((((codes "row" ++ and_number w.place) ++ and_id w.id) ++ and_word refers w.old)
    ++ and_word refers w.new)

-- the text is the lines of all changes of slot s of the objects of class k by the last n steps of a trail, the oldest first, and
-- their number
abbrev pub AreWritesTold : Trail → ℕ → ℕ → ℕ → Bool → List ℕ → Type 0
AreWritesTold t n k s refers text =
    (writes : List SlotWrite) × AreLastWrites t k s n writes
    × (text ≡ flat_map (write_line refers) writes ++ count_text (length writes))

-- the same of the steps that are named, or why there are none
abbrev pub AreWritesIn : Trail → ℕ → ℕ → Bool → Result (ℕ × ℕ) Refusal → List ℕ → Type 0
AreWritesIn t k s refers (Ok steps) text =
    IsTextOrNoMemory (AreWritesTold (rewound steps.0 t) steps.1 k s refers) text
AreWritesIn t k s refers (Err e) text = text ≡ refused_text e

-- the same, or why the objects of the class have no such slot
abbrev pub IsWritesTextOf : Trail → ℕ → ℕ → Result (ℕ × ℕ) Refusal → Result Bool Refusal → List ℕ → Type 0
IsWritesTextOf t k s steps (Ok refers) text = AreWritesIn t k s refers steps text
IsWritesTextOf t k s steps (Err e) text = text ≡ refused_text e

-- the answer of `writes` about the objects of a current class
abbrev pub IsWritesText : ℕ → ℕ → Span → Trail → List ℕ → Type 0
IsWritesText k s span t text =
    IsWritesTextOf t k s (steps_of span t) (class_slot t.current.classes k s) text
