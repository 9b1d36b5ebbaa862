use Rattle.std.proofs.Common.{◌≡◌}
use Rattle.std.specs.Prelude.{zip}
use Rattle.hprof_text.specs.Text.{value_bytes}
use Rattle.hprof_text.proofs.Loops.{IsSoFar}
use Rattle.hprof_text.proofs.segment_bytes.SegmentBytes.values.Given as goal

abbrev pub invariant-loop-slot : goal.invariant-loop-slot
invariant-loop-slot l = IsSoFar (value_bytes l.ids) (zip l.kinds l.words) l.slot l.initial.self.written l.self.written × (l.self.limit ≡ l.initial.self.limit)
