use Rattle.std.proofs.Common.{[], ◌∙◌, arith}
use Rattle.std.specs.List.{enumerate_from}
use Rattle.std.proofs.lemmas.List.FromFn.{length-enumerate_from}
use Rattle.heap_class.specs.Classes.{array_class}
use Rattle.hprof_text.specs.Records.{class_at}
use Rattle.hprof_text.specs.Text.{load_class}
use Rattle.hprof_text.proofs.Loops.{indexed_item_is_default_free, loop_text_one_numbered_further, room_for_numbered_item, so_far_all}
use Rattle.hprof_text.proofs.segment_bytes.SegmentBytes.load_classes.Goals as goal

pub load_class-requires-clause-room : goal.load_class-requires-clause-room
load_class-requires-clause-room c =
    let cs = c.args.classes.now in
    let k = c.loop-class.class in
    let r = room_for_numbered_item (load_class c.args.ids cs) 0 cs k k c.args.self.now.limit (class_at cs k) c.args.self.now.written c.loop-class.self.written (omega arith) (omega arith) (indexed_item_is_default_free cs k (array_class []) (omega arith)) c.loop-class.invariant.0 c.requires in
    omega (arith, r, c.loop-class.invariant.1)

pub loop-class-preserved : goal.loop-class-preserved
loop-class-preserved c =
    let cs = c.args.classes.now in
    let k = c.loop-class.class in
    (loop_text_one_numbered_further (load_class c.args.ids cs) 0 cs k k (class_at cs k) c.args.self.now.written c.loop-class.self.written c.load_class.new.self.written (omega arith) (omega arith) (indexed_item_is_default_free cs k (array_class []) (omega arith)) c.loop-class.invariant.0 c.load_class.ensures.written, c.load_class.ensures.limit ∙ c.loop-class.invariant.1)

pub returns-clause-written : goal.returns-clause-written
returns-clause-written c =
    so_far_all (load_class c.args.ids c.args.classes.now) (enumerate_from 0 c.args.classes.now) c.args.self.now.written c.loop-class.self.written c.loop-class.class (omega (arith, length-enumerate_from 0 c.args.classes.now)) c.loop-class.invariant.0
