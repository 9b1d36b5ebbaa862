use Rattle.std.proofs.Common.{◌≡◌}
use Rattle.std.specs.List.{enumerate_from}
use Rattle.heap_class.specs.Classes.{name_table}
use Rattle.hprof_text.specs.Text.{utf8}
use Rattle.hprof_text.proofs.Loops.{IsSoFar}
use Rattle.hprof_text.proofs.segment_bytes.SegmentBytes.names.Given as goal

abbrev pub invariant-loop-index : goal.invariant-loop-index
invariant-loop-index l = IsSoFar (utf8 l.ids) (enumerate_from 1 (name_table l.classes)) l.index l.initial.self.written l.self.written × (l.self.limit ≡ l.initial.self.limit)
