use Rattle.std.proofs.Common.{refl}
use Rattle.machine_dump.proofs.SourceStreams.{streamed_source_puts_pin}
use Rattle.machine_dump.proofs.streams.stream_pin.Goals as goal

pub returns-clause-put : goal.returns-clause-put
returns-clause-put g c =
    let s = c.args.source in
    let p = c.stream_batched in
    let t = p.result.1 in
    streamed_source_puts_pin s.machine.ghost_name s.machine.ghost_name t.machine.ghost_name s.pin s.time s.pin s.time s.count t.pin t.time t.count
    s.machine.now s.machine.now t.machine.now s.ended t.ended (g.O.Outlet.seen c.args.outlet.now) (g.O.Outlet.seen p.new.outlet) p.result.0
    c.requires.fresh.0 refl refl refl c.requires.fresh.1 c.requires.fresh.2 p.ensures.streamed p.ensures.kept t.caused
