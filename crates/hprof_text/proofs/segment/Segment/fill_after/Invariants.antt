use Rattle.std.proofs.Common.{◌≡◌, length}
use Rattle.hprof_text.specs.Cursors.{sections_from}
use Rattle.hprof_text.specs.Text.{after, records_in}
use Rattle.hprof_text.specs.SegmentFilling.{body_filled}
use Rattle.hprof_text.proofs.segment.Segment.fill_after.Given as goal

abbrev pub invariant-loop-next : goal.invariant-loop-next
invariant-loop-next g l =
    body_filled l.initial.self (records_in (g.V.View.ids l.view) (g.V.View.image l.view) (after l.fn.section)) ≡ body_filled l.self (records_in (g.V.View.ids l.view) (g.V.View.image l.view) (sections_from l.next))

abbrev pub decreases-loop-next : goal.decreases-loop-next
decreases-loop-next g l = length (sections_from l.next)
