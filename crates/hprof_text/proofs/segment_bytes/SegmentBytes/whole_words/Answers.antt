use Rattle.std.proofs.Common.{length, ap, arith}
use Rattle.byteorder.specs.Endian.{big_bytes}
use Rattle.hprof_text.proofs.Loops.{room_for_front_items}
use Rattle.hprof_text.proofs.segment_bytes.SegmentBytes.whole_words.Goals as goal

pub bytes-requires : goal.bytes-requires
bytes-requires c =
    let r = room_for_front_items (big_bytes 8) c.args.words.now c.loop-rest.rest.now c.split_at.result.0.now c.args.self.now.written c.loop-rest.self.written c.min.result c.args.self.now.limit c.split_at.ensures.front c.loop-rest.invariant.0 c.requires in
    omega (arith, r, ap length c.write_u64_into.ensures, c.loop-rest.invariant.1)
