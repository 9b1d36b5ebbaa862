use Rattle.std.proofs.Common.{arith, ◌-◌}
use Rattle.session_text.proofs.Lists.{no_line_feed_in_moved_bytes}
use Rattle.session_text.proofs.buffer.Buffer.read.Goals as goal

pub invariant_of-self : goal.invariant_of-self
invariant_of-self g c =
    let i = c.self.inside in
    let v = c.self.invariant in
    let r = c.read_behind-took.ensures in
    let now = c.read_behind-took.new.bytes.items in (
      omega (arith, v.0),
      omega (arith, r.fits, c.count_of.ensures),
      r.room.0,
      r.room.1,
      no_line_feed_in_moved_bytes i.bytes.items now i.start (i.end - i.start) i.scanned (omega (arith, v.0)) v.4 r.kept,
    )
