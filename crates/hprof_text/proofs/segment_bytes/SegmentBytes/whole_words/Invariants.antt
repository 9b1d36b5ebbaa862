use Rattle.std.proofs.Common.{◌≡◌, ◌++◌, length}
use Rattle.std.specs.Prelude.{flat_map}
use Rattle.byteorder.specs.Endian.{big_bytes}
use Rattle.hprof_text.proofs.segment_bytes.SegmentBytes.whole_words.Given as goal

abbrev pub invariant-loop-rest : goal.invariant-loop-rest
invariant-loop-rest l = (l.self.written ++ flat_map (big_bytes 8) l.rest ≡ l.initial.self.written ++ flat_map (big_bytes 8) l.words) × (l.self.limit ≡ l.initial.self.limit)

abbrev pub decreases-loop-rest : goal.decreases-loop-rest
decreases-loop-rest l = length l.rest
