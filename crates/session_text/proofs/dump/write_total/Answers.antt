use Rattle.std.proofs.Common.{codes}
use Rattle.session_text.specs.Replies.{and_number, line}
use Rattle.session_text.proofs.PageTexts.{texts_added_in_turn, cut_text_hides_later_text}
use Rattle.session_text.proofs.dump.write_total.Goals as goal

pub returns-then-not-write_text : goal.returns-then-not-write_text
returns-then-not-write_text g c = cut_text_hides_later_text (codes "ok dump") (line (and_number c.args.total)) c.args.page.now (g.O.Outlet.seen c.args.outlet.now) c.write_text.new.page (g.O.Outlet.seen c.write_text.new.outlet) c.write_text.new.page c.if-not-write_text.ensures

pub returns : goal.returns
returns g c = texts_added_in_turn (codes "ok dump") (line (and_number c.args.total)) c.args.page.now (g.O.Outlet.seen c.args.outlet.now) c.write_text.new.page (g.O.Outlet.seen c.write_text.new.outlet) c.write_number_line.new.page (g.O.Outlet.seen c.write_number_line.new.outlet) c.write_number_line.result c.if-not-write_text.ensures c.write_number_line.ensures
