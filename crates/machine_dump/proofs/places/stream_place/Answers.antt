use Rattle.std.proofs.Common.{rules}
use Rattle.machine_dump.proofs.DumpPins.{pinned_reply_opens_pin, refused_pin_dumps_nothing, close_gets_some_reply}
use Rattle.machine_dump.proofs.SourceStreams.{source_streamed_dumps_place, opened_pin_gave_nothing, source_of_opened_pin_fresh}
use Rattle.machine_dump.proofs.places.stream_place.Goals as goal

pub returns-in-Ok : goal.returns-in-Ok
returns-in-Ok g c =
    let f = c.new-source in
    let s = c.stream_shown-pumped in
    let k = s.result.1.machine.now in
    let close = c.close_pin-closed in
    let reply = close_gets_some_reply close.result k close.new.self _ close.ensures.done close.ensures.refused in
    source_streamed_dumps_place c.args.machine.now c.open_pin.new.self f.result.machine.now k close.new.self _ c.in-Ok.opened.pin f.result.pin c.args.time f.result.time (g.O.Outlet.seen c.args.outlet) (g.O.Outlet.seen s.result.2) s.result.0 reply.0 (search rules)
    c.next_pin.ensures.numbered (pinned_reply_opens_pin c.args.machine.now c.open_pin.new.self c.in-Ok.opened.pin c.in-Ok.opened.at c.in-Ok.ensures.done)
    f.ensures.now f.ensures.pin f.ensures.time s.ensures.put s.ensures.same reply.1

pub returns-in-Err : goal.returns-in-Err
returns-in-Err g c = refused_pin_dumps_nothing c.args.machine.now c.open_pin.new.self (g.O.Outlet.seen c.args.outlet) c.args.time c.in-Err.refusal c.cause_of.result c.cause_of.ensures c.in-Err.ensures.unchanged c.in-Err.ensures.refused

pub new-source-requires : goal.new-source-requires
new-source-requires g c =
    opened_pin_gave_nothing c.args.machine.now c.open_pin.new.self c.in-Ok.opened.pin c.next_pin.ensures.numbered (pinned_reply_opens_pin c.args.machine.now c.open_pin.new.self c.in-Ok.opened.pin c.in-Ok.opened.at c.in-Ok.ensures.done)

pub stream_shown-pumped-requires-clause-fresh : goal.stream_shown-pumped-requires-clause-fresh
stream_shown-pumped-requires-clause-fresh g c κs within =
    let f = c.new-source in
    source_of_opened_pin_fresh c.args.machine.now c.open_pin.new.self f.result.machine.now c.in-Ok.opened.pin f.result.pin f.result.count f.result.ended c.next_pin.ensures.numbered
    (pinned_reply_opens_pin c.args.machine.now c.open_pin.new.self c.in-Ok.opened.pin c.in-Ok.opened.at c.in-Ok.ensures.done) f.ensures.now f.ensures.pin f.ensures.count f.ensures.ended
