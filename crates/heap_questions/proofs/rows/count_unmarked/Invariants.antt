use Rattle.std.proofs.Common.{◌≡◌, ◌≤◌, ◌-◌, length, take}
use Rattle.std.specs.Prelude.{slice_get}
use Rattle.heap_questions.specs.Histogram.{AreRows, without_marked}
use Rattle.heap_questions.proofs.rows.count_unmarked.Given as goal

abbrev pub invariant-loop-here : goal.invariant-loop-here
invariant-loop-here g l = record {
  here : l.here ≡ slice_get (g.V.View.places l.view) l.passed;
  rows : AreRows (g.V.View.ids l.view) (g.V.View.image l.view).classes (without_marked l.marks (take l.passed (g.V.View.image l.view).objects)) l.rows.items;
  passed : l.passed ≤ length (g.V.View.places l.view);
}

abbrev pub decreases-loop-here : goal.decreases-loop-here
decreases-loop-here g l = length (g.V.View.places l.view) - l.passed
