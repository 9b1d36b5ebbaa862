-- The text of `kept`.
use Rattle.std.specs.Prelude.{ℕ, Bool, filter, List}
use Rattle.heap_class.specs.declared.IdSize.{IdSize}
use Rattle.hprof_text.specs.Image.{DumpedObject, Image}
use Rattle.heap_questions.specs.Kept.{TellsKept}
use Rattle.question_rows.specs.Histograms.{IsCountText}

-- the answer of `kept` from an older image to a newer one: the objects that are reached in the newer, and that the older hasn't
abbrev pub IsKeptText : IdSize → Image → Image → List ℕ → Type 0
IsKeptText ids older newer text =
    (test : DumpedObject → Bool) × TellsKept older newer test
    × IsCountText ids newer.classes (filter test newer.objects) text
