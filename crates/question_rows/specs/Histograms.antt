-- The text of a histogram.
use Rattle.std.specs.Prelude.{◌≡◌, ℕ, Bool, filter, List, ◌∷◌, ◌++◌, codes, flat_map, sum_by, length, Option, Some, None}
use Rattle.heap_class.specs.declared.IdSize.{IdSize}
use Rattle.heap_class.specs.Classes.{Class}
use Rattle.hprof_text.specs.Image.{DumpedObject, Image}
use Rattle.heap_questions.specs.declared.rows.Row.{Row}
use Rattle.heap_questions.specs.Dominators.{TellsRetained}
use Rattle.heap_questions.specs.Garbage.{TellsUnreached}
use Rattle.heap_questions.specs.Graph.{object_with}
use Rattle.heap_questions.specs.Histogram.{object_bytes, row_at, rows_of}
use Rattle.heap_questions.specs.Ranking.{IsRanking}
use Rattle.session_text.specs.Replies.{and_number, line}
use Rattle.question_words.specs.Moments.{no_object_text}
use Rattle.question_words.specs.Names.{row_name}

-- two numbers, each after a space
abbrev pub and_counts : Row → List ℕ
and_counts r = and_number r.objects ++ and_number r.bytes

-- the line of row g
unfoldable pub row_text : List Class → List Row → ℕ → List ℕ
row_text classes rows g =
    line ((codes "row" ++ and_counts (row_at rows g)) ++ 32 ∷ row_name classes g)

-- the last line of a count
abbrev pub total_text : Row → List ℕ
total_text r = line (codes "ok" ++ and_counts r)

-- a line for each row that has objects, in order, and their total
abbrev pub IsRowsText : List Class → List Row → Row → List ℕ → Type 0
IsRowsText classes rows total text =
    (ranked : List ℕ) × IsRanking rows ranked
    × (text ≡ flat_map (row_text classes rows) ranked ++ total_text total)

-- the objects of all rows together, and their bytes
abbrev pub sum_of : List Row → Row
sum_of rows =
    record { objects = sum_by (λ r. r.objects) rows; bytes = sum_by (λ r. r.bytes) rows }

-- some objects: how many there are, and the bytes of their values
abbrev pub total_of : IdSize → List Class → List DumpedObject → Row
total_of ids classes objects =
    record { objects = length objects; bytes = sum_by (object_bytes ids classes) objects }

-- the text counts these objects by class
abbrev pub IsCountText : IdSize → List Class → List DumpedObject → List ℕ → Type 0
IsCountText ids classes objects text =
    IsRowsText classes (rows_of ids classes objects) (total_of ids classes objects) text

-- the answer of `histogram`
abbrev pub IsHistogramText : IdSize → Image → List ℕ → Type 0
IsHistogramText ids image text = IsCountText ids image.classes image.objects text

-- the answer of `garbage`: the objects that no register reaches
abbrev pub IsGarbageText : IdSize → Image → List ℕ → Type 0
IsGarbageText ids image text =
    (test : DumpedObject → Bool) × TellsUnreached image test
    × IsCountText ids image.classes (filter test image.objects) text

-- the text counts the objects that are reached, and not without x
abbrev pub IsRetainedCount : ℕ → IdSize → Image → List ℕ → Type 0
IsRetainedCount x ids image text =
    (test : DumpedObject → Bool) × TellsRetained image x test
    × IsCountText ids image.classes (filter test image.objects) text

-- the same about the object with this id, if there is one
abbrev pub IsRetainedTextOf : Option DumpedObject → ℕ → IdSize → Image → List ℕ → Type 0
IsRetainedTextOf None x ids image text = text ≡ no_object_text
IsRetainedTextOf (Some o) x ids image text = IsRetainedCount x ids image text

-- the answer of `retained`
abbrev pub IsRetainedText : ℕ → IdSize → Image → List ℕ → Type 0
IsRetainedText x ids image text = IsRetainedTextOf (object_with image x) x ids image text
