use Rattle.std.proofs.Common.{take, arith}
use Rattle.std.proofs.lemmas.List.{length-take-le}
use Rattle.heap_server.proofs.CopySteps.{copy_broken_by_failed_write}
use Rattle.heap_server.proofs.copy.copy_all.Goals as goal

pub returns-then-put_all-n : goal.returns-then-put_all-n
returns-then-put_all-n g c =
    let e = c.in-Got.ensures in
    let n = c.in-Got.n in
    copy_broken_by_failed_write (g.I.Inlet.seen c.args.inlet.now) (g.I.Inlet.seen c.loop.inlet) (g.I.Inlet.seen c.take.new.self) (g.O.Outlet.seen c.args.outlet.now) (g.O.Outlet.seen c.loop.outlet)
    (g.O.Outlet.seen c.put_all.new.outlet) (take n c.take.new.room) c.put_all.result c.loop.invariant e.2 e.4 e.5 c.put_all.ensures (omega (arith, length-take-le n c.take.new.room e.1, c.if-put_all-n.true))
