use Rattle.std.proofs.Common.{◌+◌, ◌*◌, ◌≤◌, ◌≡◌, length, map}
use Rattle.hprof_text.specs.Cursors.{sections_from}
use Rattle.hprof_text.specs.Text.{sections, records_in, sub_records}
use Rattle.hprof_text.specs.SizeSums.{section_limit, total_with}
use Rattle.hprof_text.specs.Sizes.{records_size}
use Rattle.hprof_text.proofs.measure.segments_size.Given as goal

abbrev pub invariant-loop-next : goal.invariant-loop-next
invariant-loop-next g l =
    (total_with l.measure (map length (records_in (g.V.View.ids l.view) (g.V.View.image l.view) (sections_from l.next))) ≡ records_size (map length (sub_records (g.V.View.ids l.view) (g.V.View.image l.view))))
    × (l.measure.closed + l.measure.body + length (sections_from l.next) * section_limit ≤ length sections * section_limit)

abbrev pub decreases-loop-next : goal.decreases-loop-next
decreases-loop-next g l = length (sections_from l.next)
