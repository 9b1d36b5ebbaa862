use Rattle.std.proofs.Common.{◌++◌, length, sym, true, false}
use Rattle.session_text.specs.Replies.{data_line, data_lines}
use Rattle.session_text.proofs.DumpLines.{data_lines_go, data_lines_all}
use Rattle.session_text.proofs.Lists.{zero_that_tests_as_zero, positive_that_tests_nonzero}
use Rattle.session_text.proofs.PageTexts.{added_and_flushed, equal_text_added_alike, texts_added_in_turn, cut_text_hides_later_text, added_then_here}
use Rattle.session_text.proofs.data.write_data.Goals as goal

pub returns-then-not-make_room : goal.returns-then-not-make_room
returns-then-not-make_room g c =
    let i = c.loop-rest.invariant in
    let old = c.args.page.now in
    let a = g.O.Outlet.seen c.args.outlet.now in
    let page = c.make_room.new.page in
    let b = g.O.Outlet.seen c.make_room.new.outlet in
    let rest = data_lines c.loop-rest.rest.now in
    equal_text_added_alike (i.0 ++ rest) (data_lines c.args.bytes.now) old a page b false (sym i.2) (cut_text_hides_later_text i.0 rest old a page b page (added_and_flushed i.0 old a c.loop-rest.page (g.O.Outlet.seen c.loop-rest.outlet) page b false i.1 c.if-not-make_room.ensures.added))

pub loop-rest-preserved : goal.loop-rest-preserved
loop-rest-preserved g c =
    let i = c.loop-rest.invariant in
    let s = c.split_at.ensures in
    let b = g.O.Outlet.seen c.make_room.new.outlet in
    let first = c.split_at.result.0.now in
    let here = added_then_here (data_line first) c.loop-rest.page (g.O.Outlet.seen c.loop-rest.outlet) c.make_room.new.page b c.add_data_line.new.page c.if-not-make_room.ensures.added c.add_data_line.ensures in (
      i.0 ++ data_line first,
      texts_added_in_turn i.0 (data_line first) c.args.page.now (g.O.Outlet.seen c.args.outlet.now) c.loop-rest.page (g.O.Outlet.seen c.loop-rest.outlet) c.add_data_line.new.page b true i.1 here,
      data_lines_go c.args.bytes.now i.0 c.loop-rest.rest.now first c.split_at.result.1.now c.min.result (positive_that_tests_nonzero (length c.loop-rest.rest.now) c.loop-rest-test.ensures) c.min.ensures s.front s.back i.2,
    )

pub returns : goal.returns
returns g c =
    let i = c.loop-rest.invariant in
    equal_text_added_alike i.0 _ c.args.page.now (g.O.Outlet.seen c.args.outlet.now) c.loop-rest.page (g.O.Outlet.seen c.loop-rest.outlet) true (data_lines_all c.args.bytes.now i.0 c.loop-rest.rest.now (zero_that_tests_as_zero (length c.loop-rest.rest.now) c.loop-rest-test.ensures) i.2) i.1
