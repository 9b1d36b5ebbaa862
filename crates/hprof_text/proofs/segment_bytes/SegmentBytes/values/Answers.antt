use Rattle.std.proofs.Common.{◌≡◌, length, ◌∙◌, arith}
use Rattle.std.specs.Prelude.{zip}
use Rattle.std.proofs.lemmas.Slice.Zip.{length-zip}
use Rattle.heap_class.specs.declared.Kind.{Kind}
use Rattle.hprof_text.specs.Text.{value_bytes}
use Rattle.hprof_text.proofs.Loops.{loop_text_one_zipped_further, room_for_zipped_item, so_far_all}
use Rattle.hprof_text.proofs.segment_bytes.SegmentBytes.values.Goals as goal

pub value-requires : goal.value-requires
value-requires c =
    let r = room_for_zipped_item (value_bytes c.args.ids) c.args.kinds.now c.args.words.now c.loop-slot.slot c.args.self.now.limit Kind.Object 0 c.args.self.now.written c.loop-slot.self.written c.requires.same (omega arith) c.loop-slot.invariant.0 c.requires.room in
    omega (arith, r, c.loop-slot.invariant.1)

pub loop-slot-preserved : goal.loop-slot-preserved
loop-slot-preserved c =
    (loop_text_one_zipped_further (value_bytes c.args.ids) c.args.kinds.now c.args.words.now c.loop-slot.slot Kind.Object 0 c.args.self.now.written c.loop-slot.self.written c.value.new.self.written c.requires.same (omega arith) c.loop-slot.invariant.0 c.value.ensures.written, c.value.ensures.limit ∙ c.loop-slot.invariant.1)

pub returns-clause-written : goal.returns-clause-written
returns-clause-written c =
    let ks = c.args.kinds.now in
    let ws = c.args.words.now in
    let e : c.loop-slot.slot ≡ length (zip ks ws) = omega (arith, length-zip ks ws) in
    so_far_all (value_bytes c.args.ids) (zip ks ws) c.args.self.now.written c.loop-slot.self.written c.loop-slot.slot e c.loop-slot.invariant.0
