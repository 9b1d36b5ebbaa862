use Rattle.std.proofs.Common.{◌≡◌}
use Rattle.std.specs.List.{enumerate_from}
use Rattle.hprof_text.specs.Text.{load_class}
use Rattle.hprof_text.proofs.Loops.{IsSoFar}
use Rattle.hprof_text.proofs.segment_bytes.SegmentBytes.load_classes.Given as goal

abbrev pub invariant-loop-class : goal.invariant-loop-class
invariant-loop-class l = IsSoFar (load_class l.ids l.classes) (enumerate_from 0 l.classes) l.class l.initial.self.written l.self.written × (l.self.limit ≡ l.initial.self.limit)
