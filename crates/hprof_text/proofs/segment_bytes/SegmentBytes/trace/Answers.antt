use Rattle.hprof_text.specs.Records.{record_head}
use Rattle.hprof_text.specs.Text.{u4, trace, record_of}
use Rattle.hprof_text.proofs.Appends.{four_appends_in_turn}
use Rattle.hprof_text.proofs.segment_bytes.SegmentBytes.trace.Goals as goal

pub returns-clause-written : goal.returns-clause-written
unfolding trace record_of
returns-clause-written c = four_appends_in_turn c.args.self.now.written c.record_head.new.self.written c.u4.new.self.written c.u4-2.new.self.written c.u4-3.new.self.written (record_head 5 12) (u4 1) (u4 0) (u4 0) c.record_head.ensures.written c.u4.ensures.written c.u4-2.ensures.written c.u4-3.ensures.written
