use Rattle.std.proofs.Common.{take}
use Rattle.std.proofs.lemmas.List.{length-take-le}
use Rattle.dump_client.proofs.ComingBytes.{fetch_begins_with_no_bytes, failed_put_ends_fetch}
use Rattle.dump_client.proofs.intake.fetch.Goals as goal

pub loop-init : goal.loop-init
loop-init g c = fetch_begins_with_no_bytes (g.I.Inlet.seen c.args.inlet.now) (g.O.Outlet.seen c.args.outlet.now) c.new-scan.result c.new-scan.ensures

pub returns-then-put-n : goal.returns-then-put-n
returns-then-put-n g c =
    let e = c.in-Got.ensures in
    let n = c.in-Got.n in
    failed_put_ends_fetch (g.I.Inlet.seen c.args.inlet.now) (g.I.Inlet.seen c.loop.inlet) (g.I.Inlet.seen c.take.new.self) (g.O.Outlet.seen c.args.outlet.now) (g.O.Outlet.seen c.loop.outlet)
    (g.O.Outlet.seen c.put_all-put.new.outlet) c.loop.scan c.loop.bytes c.saturating_add-bytes.result (take n c.take.new.room) n c.put_all-put.result c.loop.invariant e.2 e.4 e.5
    (length-take-le n c.take.new.room e.1) c.put_all-put.ensures c.if-put-n.true c.saturating_add-bytes.ensures
