use Rattle.std.proofs.Common.{◌+◌, ◌++◌, true, false, ap, subst, length, arith}
use Rattle.session_text.specs.Dumps.{total_line}
use Rattle.session_text.specs.Replies.{reply_text, data_lines}
use Rattle.session_text.specs.Writes.{IsTextAdded}
use Rattle.session_text.proofs.PageTexts.{texts_added_in_turn}
use Rattle.session_text.proofs.DumpLines.{small_reply_has_short_piece, dump_text_after_piece, dump_refused, dump_over_at_piece_limit, writes_whole, writes_cut}
use Rattle.session_text.proofs.dump.write_dump.Goals as goal

pub returns-in_default : goal.returns-in_default
returns-in_default g c =
    let acts = g.C.Commands.acts in
    let i = c.loop-number.invariant in
    let reply = reply_text c.act-reply.result in
    let a = g.O.Outlet.seen c.args.outlet.now in
    let b = g.O.Outlet.seen c.write_reply.new.outlet in
    let left = c.act-reply.new.self in
    let d = dump_refused acts c.args.pin c.args.time c.args.commands.now c.loop-number.number c.loop-number.commands c.loop-number.total i.1 c.act-reply.result left i.3 (omega (arith, c.loop-number-test.true)) c.act-reply.ensures.acts c.in_default.ensures in
    writes_whole acts c.args.pin c.args.time c.args.commands.now left (i.1 ++ reply) c.args.page.now a c.write_reply.new.page b c.write_reply.result d
    (texts_added_in_turn i.1 reply c.args.page.now a c.loop-number.page (g.O.Outlet.seen c.loop-number.outlet) c.write_reply.new.page b c.write_reply.result i.2 c.write_reply.ensures)

pub returns-then-not-write_data : goal.returns-then-not-write_data
returns-then-not-write_data g c =
    let i = c.loop-number.invariant in
    let p = c.in-Some.piece.now in
    let a = g.O.Outlet.seen c.args.outlet.now in
    let b = g.O.Outlet.seen c.write_data.new.outlet in
    let w : IsTextAdded (data_lines p.bytes) c.loop-number.page (g.O.Outlet.seen c.loop-number.outlet) c.write_data.new.page b false = subst (λ l. IsTextAdded (data_lines l) c.loop-number.page (g.O.Outlet.seen c.loop-number.outlet) c.write_data.new.page b false) c.as_slice.ensures c.if-not-write_data.ensures in
    writes_cut g.C.Commands.acts c.args.pin c.args.time c.args.commands.now c.loop-number.number c.loop-number.commands c.loop-number.total i.1 p c.act-reply.result c.act-reply.new.self c.args.page.now a c.write_data.new.page b i.3
    (omega (arith, c.loop-number-test.true)) c.act-reply.ensures.acts c.in-Some.ensures
    (texts_added_in_turn i.1 (data_lines p.bytes) c.args.page.now a c.loop-number.page (g.O.Outlet.seen c.loop-number.outlet) c.write_data.new.page b false i.2 w)

pub returns-then-piece : goal.returns-then-piece
returns-then-piece g c =
    let acts = g.C.Commands.acts in
    let i = c.loop-number.invariant in
    let p = c.in-Some.piece.now in
    let a = g.O.Outlet.seen c.args.outlet.now in
    let b = g.O.Outlet.seen c.write_data.new.outlet in
    let left = c.act-reply.new.self in
    let total = c.loop-number.total + length c.as_slice-in-loop-number.result.now in
    let w : IsTextAdded (data_lines p.bytes) c.loop-number.page (g.O.Outlet.seen c.loop-number.outlet) c.write_data.new.page b true = subst (λ l. IsTextAdded (data_lines l) c.loop-number.page (g.O.Outlet.seen c.loop-number.outlet) c.write_data.new.page b true) c.as_slice.ensures c.if-not-write_data.ensures in
    let d = dump_text_after_piece acts c.args.pin c.args.time c.args.commands.now c.loop-number.number c.loop-number.commands c.loop-number.total i.1 p c.act-reply.result left total true i.3
    (omega (arith, c.loop-number-test.true)) c.act-reply.ensures.acts c.in-Some.ensures c.if-piece.true (ap (λ l. c.loop-number.total + length l) c.as_slice-in-loop-number.ensures) in
    let lines = texts_added_in_turn i.1 (data_lines p.bytes) c.args.page.now a c.loop-number.page (g.O.Outlet.seen c.loop-number.outlet) c.write_data.new.page b true i.2 w in
    writes_whole acts c.args.pin c.args.time c.args.commands.now left ((i.1 ++ data_lines p.bytes) ++ total_line total) c.args.page.now a c.write_total.new.page (g.O.Outlet.seen c.write_total.new.outlet) c.write_total.result d
    (texts_added_in_turn (i.1 ++ data_lines p.bytes) (total_line total) c.args.page.now a c.write_data.new.page b c.write_total.new.page (g.O.Outlet.seen c.write_total.new.outlet) c.write_total.result lines c.write_total.ensures)

pub loop-number-preserved : goal.loop-number-preserved
loop-number-preserved g c =
    let i = c.loop-number.invariant in
    let p = c.in-Some.piece.now in
    let a = g.O.Outlet.seen c.args.outlet.now in
    let b = g.O.Outlet.seen c.write_data.new.outlet in
    let total = c.loop-number.total + length c.as_slice-in-loop-number.result.now in
    let w : IsTextAdded (data_lines p.bytes) c.loop-number.page (g.O.Outlet.seen c.loop-number.outlet) c.write_data.new.page b true = subst (λ l. IsTextAdded (data_lines l) c.loop-number.page (g.O.Outlet.seen c.loop-number.outlet) c.write_data.new.page b true) c.as_slice.ensures c.if-not-write_data.ensures in (
      omega (arith, i.0, small_reply_has_short_piece c.act-reply.result p c.act-reply.ensures.small c.in-Some.ensures, ap (λ l. length l) c.as_slice-in-loop-number.ensures),
      i.1 ++ data_lines p.bytes,
      texts_added_in_turn i.1 (data_lines p.bytes) c.args.page.now a c.loop-number.page (g.O.Outlet.seen c.loop-number.outlet) c.write_data.new.page b true i.2 w,
      dump_text_after_piece g.C.Commands.acts c.args.pin c.args.time c.args.commands.now c.loop-number.number c.loop-number.commands c.loop-number.total i.1 p c.act-reply.result c.act-reply.new.self total false i.3 (omega (arith, c.loop-number-test.true))
          c.act-reply.ensures.acts c.in-Some.ensures c.if-piece.false (ap (λ l. c.loop-number.total + length l) c.as_slice-in-loop-number.ensures),
    )

pub returns : goal.returns
returns g c =
    let i = c.loop-number.invariant in
    writes_whole g.C.Commands.acts c.args.pin c.args.time c.args.commands.now c.loop-number.commands i.1 c.args.page.now (g.O.Outlet.seen c.args.outlet.now) c.loop-number.page (g.O.Outlet.seen c.loop-number.outlet) true
    (dump_over_at_piece_limit g.C.Commands.acts c.args.pin c.args.time c.args.commands.now c.loop-number.number c.loop-number.commands c.loop-number.total i.1 i.3 (omega (arith, c.loop-number-test.false, c.loop-number.auto.number-end))) i.2
