use Rattle.std.proofs.Common.{arith}
use Rattle.heap_server.proofs.AheadReads.{bytes_ahead_given_further, read_past_bytes_ahead}
use Rattle.heap_server.proofs.ahead.take_on.Goals as goal

pub returns-then-start-len-clause-took : goal.returns-then-start-len-clause-took
returns-then-start-len-clause-took g c = (
  c.copy_part-given.ensures.some.0,
  c.copy_part-given.ensures.some.1,
  bytes_ahead_given_further c.args.start c.copy_part-given.result c.args.ahead.now.bytes.items c.copy_part-given.new.room (g.I.Inlet.seen c.args.inlet.now).left c.copy_part-given.ensures.bytes,
)

pub returns-clause-took : goal.returns-clause-took
returns-clause-took g c = read_past_bytes_ahead c.args.start c.args.ahead.now.bytes.items (g.I.Inlet.seen c.args.inlet.now) (g.I.Inlet.seen c.take.new.self) c.take.result c.take.new.room (omega (arith, c.if-start-len.false, c.len.ensures)) c.take.ensures
