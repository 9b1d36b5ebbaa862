use Rattle.std.proofs.Common.{◌≡◌, ◌≤◌, ◌+◌, ◌-◌, ℕ, length}
use Rattle.std.specs.Prelude.{slice_get}
use Rattle.hprof_text.specs.Cursors.{from_item}
use Rattle.hprof_text.specs.SegmentFilling.{body_filled}
use Rattle.hprof_text.specs.declared.section.Section.TheVariants.{Objects}
use Rattle.hprof_text.proofs.segment.Segment.fill_objects.Given as goal

-- from whichever number the objects began
abbrev pub invariant-loop-here : goal.invariant-loop-here
invariant-loop-here g l = record {
  here : (n : ℕ) → l.fn.from ≡ slice_get (g.V.View.places l.view) n → l.here ≡ slice_get (g.V.View.places l.view) (n + l.passed);
  passed : (n : ℕ) → l.fn.from ≡ slice_get (g.V.View.places l.view) n → n ≤ length (g.V.View.places l.view) → n + l.passed ≤ length (g.V.View.places l.view);
  filled : (n : ℕ) → l.fn.from ≡ slice_get (g.V.View.places l.view) n →
      body_filled l.initial.self (from_item (g.V.View.ids l.view) (g.V.View.image l.view) Objects n) ≡ body_filled l.self (from_item (g.V.View.ids l.view) (g.V.View.image l.view) Objects (n + l.passed));
}

abbrev pub decreases-loop-here : goal.decreases-loop-here
decreases-loop-here g l = length (g.V.View.places l.view) - l.passed
