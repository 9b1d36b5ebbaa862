use Rattle.std.proofs.Common.{◌≡◌, ◌*◌, length, take}
use Rattle.heap_questions.specs.Cells.{AreMarksOf}
use Rattle.heap_questions.proofs.cells.gray_marks.Given as goal

abbrev pub invariant-loop-i : goal.invariant-loop-i
invariant-loop-i l = record {
  many : length l.marks.items ≡ length l.regions.regions * 256;
  marked : AreMarksOf l.regions.regions (take l.i l.gray) l.marks.items;
}
