use Rattle.std.proofs.Common.{sym}
use Rattle.session_text.specs.Dumps.{DumpsNow}
use Rattle.session_text.specs.Replies.{reply_text}
use Rattle.session_text.proofs.DumpLines.{dump_now_refused_to_open, dumped_pin_is_written, writes_text}
use Rattle.session_text.proofs.dump.write_dump_now.Goals as goal

pub returns-in_default : goal.returns-in_default
returns-in_default g c =
    let acts = g.C.Commands.acts in
    let left = c.act-opened.new.self in
    writes_text (DumpsNow acts c.args.time) c.args.commands.now left (reply_text c.act-opened.result) c.args.page.now (g.O.Outlet.seen c.args.outlet.now) c.write_reply.new.page (g.O.Outlet.seen c.write_reply.new.outlet) c.write_reply.result
    (dump_now_refused_to_open acts c.args.time c.args.commands.now c.act-opened.result left c.act-opened.ensures.acts (sym c.in_default.ensures)) c.write_reply.ensures

pub returns : goal.returns
returns g c =
    dumped_pin_is_written g.C.Commands.acts c.args.time c.args.commands.now c.act-opened.result c.act-opened.new.self c.in-Some.pin c.write_dump-written.new.commands c.act.result c.act.new.self
    c.args.page.now (g.O.Outlet.seen c.args.outlet.now) c.write_dump-written.new.page (g.O.Outlet.seen c.write_dump-written.new.outlet) c.write_dump-written.result c.act-opened.ensures.acts (sym c.in-Some.ensures) c.write_dump-written.ensures c.act.ensures.acts
