use Rattle.std.proofs.Common.{ap, sym}
use Rattle.session_text.specs.Replies.{reply_text}
use Rattle.session_text.proofs.PageTexts.{equal_text_added_alike}
use Rattle.session_text.proofs.act.add_reply.Goals as goal

pub returns-then-is_done : goal.returns-then-is_done
returns-then-is_done g c =
    equal_text_added_alike _ (reply_text c.args.reply) c.args.page.now (g.O.Outlet.seen c.args.writer.now) c.write_text.new.page (g.O.Outlet.seen c.write_text.new.outlet) c.write_text.result (sym (ap reply_text (c.is_done.ensures c.if-is_done.true))) c.write_text.ensures
