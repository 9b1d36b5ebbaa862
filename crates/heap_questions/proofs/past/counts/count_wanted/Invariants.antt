use Rattle.std.proofs.Common.{◌≡◌, ◌≤◌, ◌-◌, length}
use Rattle.std.specs.Prelude.{slice_get}
use Rattle.heap_questions.proofs.CountedObjects.{counted}
use Rattle.heap_questions.proofs.past.counts.count_wanted.Given as goal

abbrev pub invariant-loop-here : goal.invariant-loop-here
invariant-loop-here g l = record {
  here : l.here ≡ slice_get (g.V.View.places l.view) l.passed;
  passed : l.passed ≤ length (g.V.View.places l.view);
  few : l.count ≤ l.passed;
  count : l.count ≡ counted l.wanted (g.V.View.image l.view) l.passed;
}

abbrev pub decreases-loop-here : goal.decreases-loop-here
decreases-loop-here g l = length (g.V.View.places l.view) - l.passed
