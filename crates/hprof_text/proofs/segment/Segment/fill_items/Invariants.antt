use Rattle.std.proofs.Common.{◌≡◌}
use Rattle.hprof_text.specs.Cursors.{from_item}
use Rattle.hprof_text.specs.SegmentFilling.{body_filled}
use Rattle.hprof_text.specs.declared.section.Section.TheVariants.{Numbered}
use Rattle.hprof_text.proofs.segment.Segment.fill_items.Given as goal

abbrev pub invariant-loop-number : goal.invariant-loop-number
invariant-loop-number g l =
    body_filled l.initial.self (from_item (g.V.View.ids l.view) (g.V.View.image l.view) (Numbered l.section) l.from) ≡ body_filled l.self (from_item (g.V.View.ids l.view) (g.V.View.image l.view) (Numbered l.section) l.number)
