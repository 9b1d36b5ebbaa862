use Rattle.std.proofs.Common.{get_or, arith}
use Rattle.byteorder.specs.Endian.{big_bytes}
use Rattle.hprof_text.proofs.Loops.{so_far_room, indexed_item_is_default_free}
use Rattle.hprof_text.proofs.segment_bytes.SegmentBytes.numbers.Goals as goal

pub number-requires-clause-room : goal.number-requires-clause-room
number-requires-clause-room c =
    let i = c.loop-word.word-index in
    let ws = c.args.words.now in
    let r = so_far_room (big_bytes c.args.width) ws c.args.self.now.written c.loop-word.self.written i c.args.self.now.limit (get_or ws i 0) c.loop-word-test.true (indexed_item_is_default_free ws i 0 c.loop-word-test.true) c.loop-word.invariant.0 c.requires.room in
    omega (arith, r, c.loop-word.invariant.1)
