use Rattle.std.proofs.Common.{length, sym, ◌∙◌, arith}
use Rattle.heap_class.specs.declared.ObjKind.TheVariants.{Instance}
use Rattle.hprof_text.specs.Text.{dump_of}
use Rattle.hprof_text.proofs.Lengths.{dump_length}
use Rattle.hprof_text.proofs.RecordOffers.{taken_record_has_room, written_segment_is_segment, taken_record_is_offered, record_left_is_offered}
use Rattle.hprof_text.proofs.segment.Segment.offer_instance.Goals as goal

pub instance_dump-requires-clause-room : goal.instance_dump-requires-clause-room
instance_dump-requires-clause-room c = taken_record_has_room c.self.inside.buffer c.args.self.now (dump_of c.args.ids c.args.classes.now c.args.object (Instance c.args.class) c.args.words.now) c.instance_dump_size.result c.self.view_is c.self.invariant (c.instance_dump_size.ensures.value (length c.args.words.now) ∙ sym (dump_length c.args.ids c.args.classes.now c.args.object (Instance c.args.class) c.args.words.now c.requires.known)) (omega (arith, c.instance_dump_size.ensures.limit)) (sym c.takes-taken.ensures ∙ c.if-taken.true)

pub invariant_of-self : goal.invariant_of-self
invariant_of-self c = written_segment_is_segment c.self.inside.buffer c.instance_dump.new.self c.args.self.now (dump_of c.args.ids c.args.classes.now c.args.object (Instance c.args.class) c.args.words.now) c.instance_dump_size.result c.self.view_is c.self.invariant (c.instance_dump_size.ensures.value (length c.args.words.now) ∙ sym (dump_length c.args.ids c.args.classes.now c.args.object (Instance c.args.class) c.args.words.now c.requires.known)) (omega (arith, c.instance_dump_size.ensures.limit)) (sym c.takes-taken.ensures ∙ c.if-taken.true) c.instance_dump.ensures.written c.instance_dump.ensures.limit

pub returns-then-taken : goal.returns-then-taken
returns-then-taken c = taken_record_is_offered c.self.inside.buffer c.instance_dump.new.self c.args.self.now (dump_of c.args.ids c.args.classes.now c.args.object (Instance c.args.class) c.args.words.now) c.instance_dump_size.result c.takes-taken.result c.self.view_is c.self.invariant (c.instance_dump_size.ensures.value (length c.args.words.now) ∙ sym (dump_length c.args.ids c.args.classes.now c.args.object (Instance c.args.class) c.args.words.now c.requires.known)) c.takes-taken.ensures c.if-taken.true c.instance_dump.ensures.written

pub returns-else-taken : goal.returns-else-taken
returns-else-taken c = record_left_is_offered c.args.self.now (dump_of c.args.ids c.args.classes.now c.args.object (Instance c.args.class) c.args.words.now) c.instance_dump_size.result c.takes-taken.result (c.instance_dump_size.ensures.value (length c.args.words.now) ∙ sym (dump_length c.args.ids c.args.classes.now c.args.object (Instance c.args.class) c.args.words.now c.requires.known)) c.takes-taken.ensures c.if-taken.false
