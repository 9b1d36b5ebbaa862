use Rattle.std.proofs.Common.{true, false, refl}
use Rattle.session_text.proofs.PageTexts.{ends_written}
use Rattle.session_text.proofs.talk.end_with.Goals as goal

pub returns-then-not-write_text : goal.returns-then-not-write_text
returns-then-not-write_text g c = (false, c.if-not-write_text.ensures, refl)

pub returns-then-not-flush : goal.returns-then-not-flush
returns-then-not-flush g c =
    let w = g.O.Outlet.seen c.args.outlet.now in
    let w1 = g.O.Outlet.seen c.write_text.new.outlet in
    let w2 = g.O.Outlet.seen c.flush.new.outlet in
    let f = c.if-not-flush.ensures in
    (false, ends_written c.args.line.now c.args.session.now.page w c.write_text.new.page w1 c.flush.new.page w2 false c.if-not-write_text.ensures f.added f.empty, refl)

pub returns : goal.returns
returns g c =
    let w = g.O.Outlet.seen c.args.outlet.now in
    let w1 = g.O.Outlet.seen c.write_text.new.outlet in
    let w2 = g.O.Outlet.seen c.flush.new.outlet in
    let f = c.if-not-flush.ensures in
    (true, ends_written c.args.line.now c.args.session.now.page w c.write_text.new.page w1 c.flush.new.page w2 true c.if-not-write_text.ensures f.added f.empty, refl)
