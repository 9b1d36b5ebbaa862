use Rattle.std.proofs.Common.{◌+◌, ◌*◌, ◌≤◌}
use Rattle.hprof_text.specs.Cursors.{from_item}
use Rattle.hprof_text.specs.SizeSums.{IsMeasured}
use Rattle.hprof_text.specs.declared.section.Section.TheVariants.{Numbered}
use Rattle.hprof_text.proofs.measure.Measure.add_items.Given as goal

abbrev pub invariant-loop-number : goal.invariant-loop-number
invariant-loop-number g l =
    IsMeasured (from_item (g.V.View.ids l.view) (g.V.View.image l.view) (Numbered l.section) 0) (from_item (g.V.View.ids l.view) (g.V.View.image l.view) (Numbered l.section) l.number) l.initial.self l.self
    × (l.self.closed + l.self.body ≤ l.initial.self.closed + l.initial.self.body + l.number * 656)
