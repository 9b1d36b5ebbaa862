use Rattle.std.proofs.Common.{◌≡◌}
use Rattle.byteorder.specs.Endian.{big_bytes}
use Rattle.hprof_text.proofs.Loops.{IsSoFar}
use Rattle.hprof_text.proofs.segment_bytes.SegmentBytes.numbers.Given as goal

abbrev pub invariant-loop-word : goal.invariant-loop-word
invariant-loop-word l = IsSoFar (big_bytes l.width) (l.words) l.word-index l.initial.self.written l.self.written × (l.self.limit ≡ l.initial.self.limit)
