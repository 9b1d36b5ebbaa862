use Rattle.std.proofs.Common.{sym, ◌∙◌, arith}
use Rattle.hprof_text.specs.Records.{sub_record_bytes}
use Rattle.hprof_text.proofs.RecordOffers.{taken_record_has_room, written_segment_is_segment, taken_record_is_offered, record_left_is_offered}
use Rattle.hprof_text.proofs.segment.Segment.offer.Goals as goal

pub sub_record-requires-clause-room : goal.sub_record-requires-clause-room
sub_record-requires-clause-room c = taken_record_has_room c.self.inside.buffer c.args.self.now (sub_record_bytes c.args.ids c.args.classes.now c.args.sub_record) c.size.result c.self.view_is c.self.invariant c.size.ensures.value (omega (arith, c.size.ensures.limit.1)) (sym c.takes-taken.ensures ∙ c.if-taken.true)

pub invariant_of-self : goal.invariant_of-self
invariant_of-self c = written_segment_is_segment c.self.inside.buffer c.sub_record.new.self c.args.self.now (sub_record_bytes c.args.ids c.args.classes.now c.args.sub_record) c.size.result c.self.view_is c.self.invariant c.size.ensures.value (omega (arith, c.size.ensures.limit.1)) (sym c.takes-taken.ensures ∙ c.if-taken.true) c.sub_record.ensures.written c.sub_record.ensures.limit

pub returns-then-taken : goal.returns-then-taken
returns-then-taken c = taken_record_is_offered c.self.inside.buffer c.sub_record.new.self c.args.self.now (sub_record_bytes c.args.ids c.args.classes.now c.args.sub_record) c.size.result c.takes-taken.result c.self.view_is c.self.invariant c.size.ensures.value c.takes-taken.ensures c.if-taken.true c.sub_record.ensures.written

pub returns-else-taken : goal.returns-else-taken
returns-else-taken c = record_left_is_offered c.args.self.now (sub_record_bytes c.args.ids c.args.classes.now c.args.sub_record) c.size.result c.takes-taken.result c.size.ensures.value c.takes-taken.ensures c.if-taken.false
