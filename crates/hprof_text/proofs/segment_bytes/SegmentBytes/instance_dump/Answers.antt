use Rattle.std.proofs.Common.{◌++◌, ◌∙◌, ap}
use Rattle.std.specs.Prelude.{flat_map, zip}
use Rattle.hprof_text.specs.Text.{value_bytes}
use Rattle.hprof_text.specs.Records.{instance_head}
use Rattle.hprof_text.proofs.Appends.{two_appends_in_turn}
use Rattle.hprof_text.proofs.WrittenRecords.{instance_dump_by_its_parts}
use Rattle.hprof_text.proofs.segment_bytes.SegmentBytes.instance_dump.Goals as goal

pub returns-clause-written : goal.returns-clause-written
returns-clause-written c =
    let o = c.args.self.now.written in
    let h = instance_head c.args.ids c.args.object c.args.class c.instance_size.result in
    let v = flat_map (value_bytes c.args.ids) (zip c.slots-kinds.result.now c.args.words.now) in
    two_appends_in_turn o c.instance_head.new.self.written c.values.new.self.written h v c.instance_head.ensures.written c.values.ensures.written
    ∙ ap (λ l. o ++ l) (instance_dump_by_its_parts c.args.ids c.args.classes.now c.args.object c.args.class c.instance_size.result c.slots-kinds.result.now c.args.words.now c.requires.known.1 c.instance_size.ensures.value c.slots-kinds.ensures.value)
