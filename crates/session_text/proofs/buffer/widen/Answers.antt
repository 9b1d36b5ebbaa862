use Rattle.std.proofs.Common.{◌≡◌, ◌-◌, arith, length}
use Rattle.session_text.proofs.Lists.{filled_window}
use Rattle.session_text.proofs.buffer.widen.Goals as goal

pub returns-clause-kept : goal.returns-clause-kept
returns-clause-kept c =
    let v = c.args.bytes.now in
    let size : v.len ≡ length v.items = v.ok.0 in
    filled_window c.resize.result v.items c.resize.new.self.items 65536 v.len c.args.start (c.args.end - c.args.start) size (omega (arith, size, c.requires.room.0)) c.resize.ensures.items (omega (arith, size, c.requires.range.0, c.requires.range.1))
