use Rattle.std.proofs.Common.{◌≡◌, ◌≤◌, ◌-◌, ◌++◌, length, take}
use Rattle.std.specs.Prelude.{slice_get, flat_map}
use Rattle.heap_questions.specs.Referrers.{naming_registers, naming_slots}
use Rattle.heap_questions.proofs.references.referrers.Given as goal

abbrev pub invariant-loop-here : goal.invariant-loop-here
invariant-loop-here g l = record {
  here : l.here ≡ slice_get (g.V.View.places l.view) l.passed;
  named : l.all.items ≡ naming_registers l.id (g.V.View.image l.view).registers ++ flat_map (naming_slots (g.V.View.image l.view).classes l.id) (take l.passed (g.V.View.image l.view).objects);
  passed : l.passed ≤ length (g.V.View.places l.view);
}

abbrev pub decreases-loop-here : goal.decreases-loop-here
decreases-loop-here g l = length (g.V.View.places l.view) - l.passed
