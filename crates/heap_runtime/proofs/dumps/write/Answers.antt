use Rattle.shared_dump.proofs.SentDumps.{closed_by, opened_put_and_closed_is_dump}
use Rattle.heap_runtime.proofs.dumps.write.Goals as goal

pub returns-clause-written : goal.returns-clause-written
returns-clause-written g c =
    let p = c.in-Ok.pinned in
    let s = c.stream-pumped in
    let w = c.args.sending.outlet in
    let closes = closed_by g.L.Heap.config p.pin s.result.2 c.close_pin.new.self c.close_pin.result c.close_pin.ensures.done c.close_pin.ensures.refused in
    opened_put_and_closed_is_dump g.L.Heap.config p.pin p.at c.args.time s.result.1.feed.known c.args.dumper c.open_pin.new.self s.result.2 c.close_pin.new.self (g.O.Outlet.seen w) (g.O.Outlet.seen s.new.outlet) s.result.0 c.in-Ok.ensures.done (s.ensures.put, s.ensures.legal) closes
