use Rattle.std.proofs.Common.{◌≡◌, ◌-◌, arith}
use Rattle.session_text.proofs.Lists.{inlet_read_behind_moved_bytes}
use Rattle.session_text.proofs.buffer.refill.Goals as goal

pub returns-clause-read : goal.returns-clause-read
returns-clause-read g c =
    let e : c.shift-used.result ≡ c.args.end - c.args.start = omega (arith, c.shift-used.ensures.0) in
    inlet_read_behind_moved_bytes _ _ c.args.bytes.now c.shift-used.new.bytes c.take.new.room c.args.start _ _ c.take.result e (omega (arith, c.requires.2, e, c.shift-used.auto.bytes)) c.shift-used.ensures.1 c.take.ensures
