use Rattle.shared_dump.proofs.SentDumps.{ended_dump_sent_if_memory, unsent_dump_is_refused, closed_by}
use Rattle.shared_dump.proofs.dump.dump_current.Goals as goal

pub returns-clause-dumped : goal.returns-clause-dumped
returns-clause-dumped g c =
    let p = c.in-Ok.pinned in
    let r = c.dump_pin-done.result in
    let closed = closed_by g.L.Heap.config p.pin r.2 c.close_pin.new.self c.close_pin.result c.close_pin.ensures.done c.close_pin.ensures.refused in
    ended_dump_sent_if_memory g.L.Heap.config p.pin p.at c.args.time c.args.dumper c.open_pin.new.self r.2 c.close_pin.new.self (g.O.Outlet.seen c.args.to.outlet) (g.O.Outlet.seen r.1.outlet)
    r.0 c.in-Ok.ensures.done c.dump_pin-done.ensures.dumped closed

pub returns-clause-refused : goal.returns-clause-refused
returns-clause-refused g c =
    let p = c.in-Ok.pinned in
    let r = c.dump_pin-done.result in
    let closed = closed_by g.L.Heap.config p.pin r.2 c.close_pin.new.self c.close_pin.result c.close_pin.ensures.done c.close_pin.ensures.refused in
    unsent_dump_is_refused g.L.Heap.config p.pin p.at c.args.dumper c.open_pin.new.self r.2 c.close_pin.new.self r.0 c.in-Ok.ensures.done c.dump_pin-done.ensures.refused closed
