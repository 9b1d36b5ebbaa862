use Rattle.std.proofs.Common.{◌∙◌, arith}
use Rattle.heap_class.specs.Classes.{fields_of}
use Rattle.hprof_text.proofs.Loops.{loop_text_one_field_further, room_for_field_entry}
use Rattle.hprof_text.proofs.segment_bytes.SegmentBytes.fields.Goals as goal

pub field-requires : goal.field-requires
field-requires c =
    let r = room_for_field_entry c.args.ids c.args.classes.now (fields_of c.args.classes.now c.args.class) c.loop-field.field c.field_name_id.result c.args.self.now.limit c.field_kind.result c.args.self.now.written c.loop-field.self.written (omega arith) c.field_name_id.ensures c.field_kind.ensures c.loop-field.invariant.0 c.requires.room in
    omega (arith, r, c.loop-field.invariant.1)

pub loop-field-preserved : goal.loop-field-preserved
loop-field-preserved c =
    (loop_text_one_field_further c.args.ids c.args.classes.now (fields_of c.args.classes.now c.args.class) c.loop-field.field c.field_name_id.result c.field_kind.result c.args.self.now.written c.loop-field.self.written c.field.new.self.written (omega arith) c.field_name_id.ensures c.field_kind.ensures c.loop-field.invariant.0 c.field.ensures.written, c.field.ensures.limit ∙ c.loop-field.invariant.1)
