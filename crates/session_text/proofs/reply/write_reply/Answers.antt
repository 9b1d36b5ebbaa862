use Rattle.std.proofs.Common.{subst, true, false}
use Rattle.session_text.specs.Replies.{line, reply_data, reply_words}
use Rattle.session_text.specs.Writes.{IsTextAdded}
use Rattle.session_text.proofs.PageTexts.{added_and_flushed, texts_added_in_turn, cut_text_hides_later_text, added_then_here}
use Rattle.session_text.proofs.reply.write_reply.Goals as goal

pub returns-then-not-write_data : goal.returns-then-not-write_data
returns-then-not-write_data g c =
    let a = g.O.Outlet.seen c.args.outlet.now in
    let b = g.O.Outlet.seen c.write_data.new.outlet in
    let page = c.write_data.new.page in
    let lines = subst (λ t. IsTextAdded t c.args.page.now a page b false) c.data_of.ensures c.if-not-write_data.ensures in
    cut_text_hides_later_text (reply_data c.args.reply.now) (line (reply_words c.args.reply.now)) c.args.page.now a page b page lines

pub returns-then-not-make_room : goal.returns-then-not-make_room
returns-then-not-make_room g c =
    let a = g.O.Outlet.seen c.args.outlet.now in
    let b = g.O.Outlet.seen c.write_data.new.outlet in
    let page = c.make_room.new.page in
    let lines = subst (λ t. IsTextAdded t c.args.page.now a c.write_data.new.page b true) c.data_of.ensures c.if-not-write_data.ensures in
    cut_text_hides_later_text (reply_data c.args.reply.now) (line (reply_words c.args.reply.now)) c.args.page.now a page (g.O.Outlet.seen c.make_room.new.outlet) page (added_and_flushed (reply_data c.args.reply.now) c.args.page.now a c.write_data.new.page b page (g.O.Outlet.seen c.make_room.new.outlet) false lines c.if-not-make_room.ensures.added)

pub returns : goal.returns
returns g c =
    let a = g.O.Outlet.seen c.args.outlet.now in
    let b = g.O.Outlet.seen c.write_data.new.outlet in
    let d = g.O.Outlet.seen c.make_room.new.outlet in
    let last = line (reply_words c.args.reply.now) in
    let lines = subst (λ t. IsTextAdded t c.args.page.now a c.write_data.new.page b true) c.data_of.ensures c.if-not-write_data.ensures in
    texts_added_in_turn (reply_data c.args.reply.now) last c.args.page.now a c.write_data.new.page b c.add_last_line.new.page d true lines (added_then_here last c.write_data.new.page b c.make_room.new.page d c.add_last_line.new.page c.if-not-make_room.ensures.added c.add_last_line.ensures)
