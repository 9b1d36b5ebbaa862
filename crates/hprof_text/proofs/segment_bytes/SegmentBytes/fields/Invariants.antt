use Rattle.std.proofs.Common.{◌≡◌}
use Rattle.heap_class.specs.Classes.{fields_of}
use Rattle.hprof_text.specs.Text.{field_entry}
use Rattle.hprof_text.proofs.Loops.{IsSoFar}
use Rattle.hprof_text.proofs.segment_bytes.SegmentBytes.fields.Given as goal

abbrev pub invariant-loop-field : goal.invariant-loop-field
invariant-loop-field l = IsSoFar (field_entry l.ids l.classes) (fields_of l.classes l.class) l.field l.initial.self.written l.self.written × (l.self.limit ≡ l.initial.self.limit)
