use Rattle.std.proofs.Common.{[]}
use Rattle.session_text.proofs.PageTexts.{cut_text_hides_later_text, added_then_here}
use Rattle.session_text.proofs.write.write_text.Goals as goal

pub returns-then-not-make_room : goal.returns-then-not-make_room
returns-then-not-make_room g c = cut_text_hides_later_text [] c.args.text.now c.args.page.now (g.O.Outlet.seen c.args.outlet.now) c.make_room.new.page (g.O.Outlet.seen c.make_room.new.outlet) c.make_room.new.page c.if-not-make_room.ensures.added

pub returns : goal.returns
returns g c = added_then_here c.args.text.now _ _ c.make_room.new.page (g.O.Outlet.seen c.make_room.new.outlet) c.add.new.self c.if-not-make_room.ensures.added c.add.ensures
