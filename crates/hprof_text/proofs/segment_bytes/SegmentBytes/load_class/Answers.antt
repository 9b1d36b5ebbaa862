use Rattle.std.proofs.Common.{◌++◌, ◌+◌, ◌*◌, ◌∙◌, ap, ap₂}
use Rattle.heap_class.specs.Kinds.{id_bytes}
use Rattle.hprof_text.specs.Records.{record_head}
use Rattle.hprof_text.specs.Text.{u4, id}
use Rattle.hprof_text.proofs.Appends.{five_appends_in_turn}
use Rattle.hprof_text.proofs.WrittenRecords.{load_class_parts}
use Rattle.hprof_text.proofs.segment_bytes.SegmentBytes.load_class.Goals as goal

pub returns-clause-written : goal.returns-clause-written
returns-clause-written c =
    let o = c.args.self.now.written in
    let n = u4 (c.args.class + 1) in
    let h = record_head 0x02 (8 + 2 * c.bytes.result) in
    let k = id c.args.ids c.class_id.result in
    let m = id c.args.ids c.class_name_id.result in
    five_appends_in_turn o c.record_head.new.self.written c.u4.new.self.written c.id.new.self.written c.u4-2.new.self.written c.id-2.new.self.written h n k (u4 1) m c.record_head.ensures.written c.u4.ensures.written c.id.ensures.written c.u4-2.ensures.written c.id-2.ensures.written
    ∙ ap (λ b. o ++ (record_head 0x02 (8 + 2 * b) ++ n ++ k ++ u4 1 ++ m)) c.bytes.ensures
    ∙ ap₂ (λ x y. o ++ (record_head 0x02 (8 + 2 * id_bytes c.args.ids) ++ n ++ id c.args.ids x ++ u4 1 ++ id c.args.ids y)) c.class_id.ensures c.class_name_id.ensures
    ∙ ap (λ l. o ++ l) (load_class_parts c.args.ids c.args.classes.now c.args.class)
