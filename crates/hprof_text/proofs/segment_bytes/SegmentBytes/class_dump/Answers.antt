use Rattle.std.proofs.Common.{◌++◌, length, ◌∙◌, ap, sym, refl, append_assoc, arith}
use Rattle.std.specs.Prelude.{flat_map}
use Rattle.heap_class.specs.Classes.{fields_of, instance_size}
use Rattle.hprof_text.specs.Records.{class_ids, class_counts}
use Rattle.hprof_text.specs.Text.{field_entry}
use Rattle.hprof_text.proofs.Appends.{three_appends_in_turn, two_appends_in_turn, room_for_first_append, room_for_append_after_another, room_for_last_append}
use Rattle.hprof_text.proofs.WrittenRecords.{class_dump_parts}
use Rattle.hprof_text.proofs.segment_bytes.SegmentBytes.class_dump.Goals as goal

pub class_ids-requires-clause-room : goal.class_ids-requires-clause-room
class_ids-requires-clause-room c =
    let n = instance_size c.args.ids c.args.classes.now c.args.class in
    let m = length (fields_of c.args.classes.now c.args.class) in
    let a = class_ids c.args.ids c.args.class c.super_id.result in
    let f = flat_map (field_entry c.args.ids c.args.classes.now) (fields_of c.args.classes.now c.args.class) in
    let w = class_dump_parts c.args.ids c.args.classes.now c.args.class c.super_id.result n m c.super_id.ensures refl refl in
    room_for_first_append c.args.self.now.written _ a (class_counts n m ++ f) c.args.self.now.limit (w ∙ append_assoc a (class_counts n m) f) c.requires.room

pub class_counts-requires : goal.class_counts-requires
class_counts-requires c =
    let w = class_dump_parts c.args.ids c.args.classes.now c.args.class c.super_id.result c.instance_size.result c.field_count.result c.super_id.ensures c.instance_size.ensures.value c.field_count.ensures.value in
    omega (arith, room_for_append_after_another c.args.self.now.written c.class_ids.new.self.written _ _ _ _ c.args.self.now.limit w c.class_ids.ensures.written c.requires.room, c.class_ids.ensures.limit)

pub fields-requires-clause-room : goal.fields-requires-clause-room
fields-requires-clause-room c =
    let w = class_dump_parts c.args.ids c.args.classes.now c.args.class c.super_id.result c.instance_size.result c.field_count.result c.super_id.ensures c.instance_size.ensures.value c.field_count.ensures.value in
    let b = two_appends_in_turn c.args.self.now.written c.class_ids.new.self.written c.class_counts.new.self.written _ _ c.class_ids.ensures.written c.class_counts.ensures.written in
    omega (arith, room_for_last_append c.args.self.now.written c.class_counts.new.self.written _ _ _ c.args.self.now.limit w b c.requires.room, c.class_ids.ensures.limit, c.class_counts.ensures.limit)

pub returns-clause-written : goal.returns-clause-written
returns-clause-written c =
    let w = class_dump_parts c.args.ids c.args.classes.now c.args.class c.super_id.result c.instance_size.result c.field_count.result c.super_id.ensures c.instance_size.ensures.value c.field_count.ensures.value in
    three_appends_in_turn c.args.self.now.written c.class_ids.new.self.written c.class_counts.new.self.written c.fields.new.self.written _ _ _ c.class_ids.ensures.written c.class_counts.ensures.written c.fields.ensures.written
    ∙ ap (λ l. c.args.self.now.written ++ l) (sym w)
