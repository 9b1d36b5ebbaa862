use Rattle.std.proofs.Common.{[], drop, sym, ap, ◌∙◌, arith}
use Rattle.heap_class.specs.declared.ObjKind.TheVariants.{Array}
use Rattle.hprof_text.specs.Text.{dump_of}
use Rattle.hprof_text.proofs.Lengths.{array_dump_length}
use Rattle.hprof_text.proofs.RecordOffers.{written_segment_is_segment, reserved_segment_is_segment, taken_record_is_offered, record_left_is_offered}
use Rattle.hprof_text.proofs.segment.Segment.offer_array.Goals as goal

pub object_array_dump-requires-clause-room : goal.object_array_dump-requires-clause-room
object_array_dump-requires-clause-room c = omega (arith, c.in_ok-reserve.ensures.room, c.array_size-size.ensures.value c.args.class ∙ sym (array_dump_length c.args.ids [] c.args.object c.args.class c.args.words.now))

pub invariant_of-self-then-taken : goal.invariant_of-self-then-taken
invariant_of-self-then-taken c = written_segment_is_segment c.reserve.new.self c.object_array_dump.new.self c.args.self.now (dump_of c.args.ids [] c.args.object (Array c.args.class) c.args.words.now) c.array_size-size.result (ap (drop 9) c.reserve.ensures.written ∙ c.self.view_is) (reserved_segment_is_segment c.self.inside.buffer c.reserve.new.self c.self.invariant c.reserve.ensures.written c.reserve.ensures.limit) (c.array_size-size.ensures.value c.args.class ∙ sym (array_dump_length c.args.ids [] c.args.object c.args.class c.args.words.now)) c.array_size-size.ensures.limit (sym c.takes-taken.ensures ∙ c.if-taken.true) c.object_array_dump.ensures.written c.object_array_dump.ensures.limit

pub returns-in_ok-reserve-clause-taken : goal.returns-in_ok-reserve-clause-taken
returns-in_ok-reserve-clause-taken c = taken_record_is_offered c.reserve.new.self c.object_array_dump.new.self c.args.self.now (dump_of c.args.ids [] c.args.object (Array c.args.class) c.args.words.now) c.array_size-size.result c.takes-taken.result (ap (drop 9) c.reserve.ensures.written ∙ c.self.view_is) (reserved_segment_is_segment c.self.inside.buffer c.reserve.new.self c.self.invariant c.reserve.ensures.written c.reserve.ensures.limit) (c.array_size-size.ensures.value c.args.class ∙ sym (array_dump_length c.args.ids [] c.args.object c.args.class c.args.words.now)) c.takes-taken.ensures c.if-taken.true c.object_array_dump.ensures.written

pub returns-else-taken-clause-taken : goal.returns-else-taken-clause-taken
returns-else-taken-clause-taken c = record_left_is_offered c.args.self.now (dump_of c.args.ids [] c.args.object (Array c.args.class) c.args.words.now) c.array_size-size.result c.takes-taken.result (c.array_size-size.ensures.value c.args.class ∙ sym (array_dump_length c.args.ids [] c.args.object c.args.class c.args.words.now)) c.takes-taken.ensures c.if-taken.false

pub invariant_of-self : goal.invariant_of-self
invariant_of-self c = reserved_segment_is_segment c.self.inside.buffer c.reserve.new.self c.self.invariant c.reserve.ensures.written c.reserve.ensures.limit
