use Rattle.session_text.proofs.Lists.{inlet_read_behind_used}
use Rattle.heap_server.proofs.ahead.read_more.Goals as goal

pub returns-clause-read : goal.returns-clause-read
returns-clause-read g c = inlet_read_behind_used c.args.end c.args.room.now c.take.new.room (g.I.Inlet.seen c.args.inlet.now) (g.I.Inlet.seen c.take.new.self) c.take.result c.requires c.take.ensures
