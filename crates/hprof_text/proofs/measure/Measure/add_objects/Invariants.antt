use Rattle.std.proofs.Common.{◌≡◌, ◌≤◌, ◌-◌, ◌+◌, ◌*◌, length}
use Rattle.std.specs.Prelude.{slice_get}
use Rattle.hprof_text.specs.Cursors.{from_item}
use Rattle.hprof_text.specs.SizeSums.{IsMeasured}
use Rattle.hprof_text.specs.declared.section.Section.TheVariants.{Objects}
use Rattle.hprof_text.proofs.measure.Measure.add_objects.Given as goal

abbrev pub invariant-loop-here : goal.invariant-loop-here
invariant-loop-here g l = record {
  here : l.here ≡ slice_get (g.V.View.places l.view) l.passed;
  added : IsMeasured (from_item (g.V.View.ids l.view) (g.V.View.image l.view) Objects 0) (from_item (g.V.View.ids l.view) (g.V.View.image l.view) Objects l.passed) l.initial.self l.self;
  limit : l.self.closed + l.self.body ≤ l.initial.self.closed + l.initial.self.body + l.passed * 16777210;
  passed : l.passed ≤ length (g.V.View.places l.view);
}

abbrev pub decreases-loop-here : goal.decreases-loop-here
decreases-loop-here g l = length (g.V.View.places l.view) - l.passed
