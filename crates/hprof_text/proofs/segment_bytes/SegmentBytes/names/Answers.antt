use Rattle.std.proofs.Common.{◌+◌, ◌∙◌, arith}
use Rattle.std.specs.List.{enumerate_from}
use Rattle.std.proofs.lemmas.List.FromFn.{length-enumerate_from}
use Rattle.heap_class.specs.Classes.{name_table}
use Rattle.hprof_text.specs.Text.{utf8}
use Rattle.hprof_text.proofs.Loops.{indexed_item_from_slice, loop_text_one_numbered_further, room_for_numbered_item, so_far_all}
use Rattle.hprof_text.proofs.segment_bytes.SegmentBytes.names.Goals as goal

pub utf8-requires-clause-room : goal.utf8-requires-clause-room
utf8-requires-clause-room c =
    let r = room_for_numbered_item (utf8 c.args.ids) 1 (name_table c.args.classes.now) c.loop-index.index (c.loop-index.index + 1) c.args.self.now.limit c.name_at.result.now c.args.self.now.written c.loop-index.self.written (omega arith) (omega arith) (indexed_item_from_slice (name_table c.args.classes.now) c.loop-index.index c.name_at.result.now c.name_at.ensures.value) c.loop-index.invariant.0 c.requires in
    omega (arith, r, c.loop-index.invariant.1)

pub loop-index-preserved : goal.loop-index-preserved
loop-index-preserved c =
    (loop_text_one_numbered_further (utf8 c.args.ids) 1 (name_table c.args.classes.now) c.loop-index.index (c.loop-index.index + 1) c.name_at.result.now c.args.self.now.written c.loop-index.self.written c.utf8-2.new.self.written (omega arith) (omega arith) (indexed_item_from_slice (name_table c.args.classes.now) c.loop-index.index c.name_at.result.now c.name_at.ensures.value) c.loop-index.invariant.0 c.utf8-2.ensures.written, c.utf8-2.ensures.limit ∙ c.loop-index.invariant.1)

pub returns-clause-written : goal.returns-clause-written
returns-clause-written c =
    so_far_all (utf8 c.args.ids) (enumerate_from 1 (name_table c.args.classes.now)) c.args.self.now.written c.loop-index.self.written c.loop-index.index (omega (arith, length-enumerate_from 1 (name_table c.args.classes.now))) c.loop-index.invariant.0
