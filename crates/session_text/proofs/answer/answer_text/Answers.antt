use Rattle.std.proofs.Common.{◌∙◌, sym}
use Rattle.session_grammar.specs.Grammar.{command_of_text}
use Rattle.session_text.proofs.AnsweredLines.{flow_unread, flow_blank, flow_dumped}
use Rattle.session_text.proofs.answer.answer_text.Goals as goal

pub returns-in-Err : goal.returns-in-Err
returns-in-Err g c =
    rw c.next_unless.ensures (flow_unread g.C.Commands.acts (g.C.Commands.unknown c.args.text.now) c.args.context.time (command_of_text c.args.text.now) c.args.commands.now c.args.page.now (g.O.Outlet.seen c.args.writer.now) c.write_reply.new.page (g.O.Outlet.seen c.write_reply.new.outlet) c.write_reply.result c.in-Err.ensures c.write_reply.ensures)

pub returns-in-Ok-Dump : goal.returns-in-Ok-Dump
returns-in-Ok-Dump g c =
    rw c.next_unless-in-Ok-Dump.ensures (flow_dumped g.C.Commands.acts (g.C.Commands.unknown c.args.text.now) c.args.context.time c.in-Ok-Dump.pin (command_of_text c.args.text.now) c.args.commands.now c.args.page.now (g.O.Outlet.seen c.args.writer.now) c.write_dump.new.commands c.write_dump.new.page (g.O.Outlet.seen c.write_dump.new.outlet) c.write_dump.result
    (sym c.in-Ok-Dump.field-0-is ∙ c.in-Ok-Dump.ensures) c.write_dump.ensures)

pub returns-in-Ok-Blank : goal.returns-in-Ok-Blank
returns-in-Ok-Blank g c =
    flow_blank g.C.Commands.acts (g.C.Commands.unknown c.args.text.now) c.args.context.time (command_of_text c.args.text.now) c.args.commands.now c.args.page.now (g.O.Outlet.seen c.args.writer.now) (sym c.in-Ok-Blank.field-0-is ∙ c.in-Ok-Blank.ensures)
