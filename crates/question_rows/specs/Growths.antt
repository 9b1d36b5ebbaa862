-- The text of `growth`.
use Rattle.std.specs.Prelude.{◌≡◌, ℕ, Bool, ◌+◌, ◌==◌, ◌&&◌, not, nat_lt, List, [], ◌∷◌, ◌++◌, codes, length, take, drop, count_by, if◌then◌else◌}
use Rattle.heap_class.specs.declared.IdSize.{IdSize}
use Rattle.heap_class.specs.Classes.{Class}
use Rattle.hprof_text.specs.Image.{Image}
use Rattle.heap_questions.specs.declared.growth.Change.{Change}
use Rattle.heap_questions.specs.Growth.{changes_of}
use Rattle.heap_questions.specs.Histogram.{class_rows, histogram_of}
use Rattle.session_text.specs.Replies.{line}
use Rattle.question_rows.specs.Histograms.{and_counts}
use Rattle.question_words.specs.Names.{row_name}
use Rattle.question_words.specs.Rows.{count_text}

-- the classes of the image that has more of them
abbrev pub more_classes : List Class → List Class → List Class
more_classes older newer = if nat_lt (length newer) (length older) then older else newer

-- whether a row has other numbers than before
abbrev pub differs : Change → Bool
differs c = not (c.older.objects == c.newer.objects && c.older.bytes == c.newer.bytes)

-- the line of a row that changed
unfoldable pub changed_text : List Class → ℕ → Change → List ℕ
changed_text classes g c =
    line ((codes "row " ++ row_name classes g) ++ and_counts c.older ++ and_counts c.newer)

-- the lines of the rows from number g on that changed
abbrev pub changed_texts : List Class → ℕ → List Change → List ℕ
changed_texts classes g [] = []
changed_texts classes g (c ∷ cs) =
    (if differs c then changed_text classes g c else []) ++ changed_texts classes (g + 1) cs

-- the lines of all rows that changed, those of the classes before those of the arrays of values, and their number
abbrev pub changes_text : List Class → List Change → List ℕ
changes_text classes changes =
    changed_texts classes class_rows (drop class_rows changes)
    ++ changed_texts classes 0 (take class_rows changes)
    ++ count_text (count_by differs changes)

-- the answer of `growth` from an older image to a newer one
abbrev pub IsGrowthText : IdSize → Image → Image → List ℕ → Type 0
IsGrowthText ids older newer text =
    text
    ≡ changes_text (more_classes older.classes newer.classes)
    (changes_of (histogram_of ids older) (histogram_of ids newer))
