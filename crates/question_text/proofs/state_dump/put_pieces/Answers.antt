use Rattle.std.proofs.Common.{◌+◌, ◌∙◌, ap}
use Rattle.hprof_text.specs.declared.Piece.{Piece}
use Rattle.question_text.proofs.JoinedDump.{one_after, some_piece}
use Rattle.question_text.proofs.PutDumps.{put_beginning, put_cut, put_first, put_last, put_more}
use Rattle.question_text.proofs.state_dump.put_pieces.Goals as goal

pub loop-passed-init : goal.loop-passed-init
loop-passed-init g c =
    let ids = g.V.View.ids c.args.view.now in
    let image = g.V.View.image c.args.view.now in
    record {
      piece = c.requires.0;
      at = c.requires.1;
      put = put_first ids image c.args.time (g.O.Outlet.seen c.args.outlet.now);
      after = some_piece ids image c.args.time;
    }

pub returns-then-not-write_all : goal.returns-then-not-write_all
returns-then-not-write_all g c =
    let ids = g.V.View.ids c.args.view.now in
    let image = g.V.View.image c.args.view.now in
    put_cut ids image c.args.time c.loop-passed._passed c.as_slice.result.now (g.O.Outlet.seen c.args.outlet.now) (g.O.Outlet.seen c.loop-passed.outlet) (g.O.Outlet.seen c.write_all.new.outlet)
    c.loop-passed.invariant.put (c.as_slice.ensures ∙ ap (λ (p : Piece). p.bytes) c.loop-passed.invariant.piece) c.if-not-write_all.ensures

pub returns-then-piece : goal.returns-then-piece
returns-then-piece g c =
    let ids = g.V.View.ids c.args.view.now in
    let image = g.V.View.image c.args.view.now in
    let i = c.loop-passed._passed in
    let put = put_more ids image c.args.time i c.as_slice.result.now (g.O.Outlet.seen c.args.outlet.now) (g.O.Outlet.seen c.loop-passed.outlet) (g.O.Outlet.seen c.write_all.new.outlet) c.loop-passed.invariant.put (c.as_slice.ensures ∙ ap (λ (p : Piece). p.bytes) c.loop-passed.invariant.piece) c.if-not-write_all.ensures in
    put_last ids image c.args.time i c.loop-passed.piece (g.O.Outlet.seen c.args.outlet.now) (g.O.Outlet.seen c.write_all.new.outlet) put c.loop-passed.invariant.piece c.if-piece.true

pub returns-in-Err : goal.returns-in-Err
returns-in-Err g c =
    let ids = g.V.View.ids c.args.view.now in
    let image = g.V.View.image c.args.view.now in
    let i = c.loop-passed._passed in
    let put = put_more ids image c.args.time i c.as_slice.result.now (g.O.Outlet.seen c.args.outlet.now) (g.O.Outlet.seen c.loop-passed.outlet) (g.O.Outlet.seen c.write_all.new.outlet) c.loop-passed.invariant.put (c.as_slice.ensures ∙ ap (λ (p : Piece). p.bytes) c.loop-passed.invariant.piece) c.if-not-write_all.ensures in
    put_beginning ids image c.args.time (i + 1) (g.O.Outlet.seen c.args.outlet.now) (g.O.Outlet.seen c.write_all.new.outlet) put

pub loop-passed-preserved : goal.loop-passed-preserved
loop-passed-preserved g c =
    let ids = g.V.View.ids c.args.view.now in
    let image = g.V.View.image c.args.view.now in
    let i = c.loop-passed._passed in
    record {
      piece = c.in-Ok.ensures.piece (i + 1) c.loop-passed.invariant.at;
      at = c.in-Ok.ensures.next (i + 1) c.loop-passed.invariant.at;
      put = put_more ids image c.args.time i c.as_slice.result.now (g.O.Outlet.seen c.args.outlet.now) (g.O.Outlet.seen c.loop-passed.outlet) (g.O.Outlet.seen c.write_all.new.outlet) c.loop-passed.invariant.put (c.as_slice.ensures ∙ ap (λ (p : Piece). p.bytes) c.loop-passed.invariant.piece) c.if-not-write_all.ensures;
      after = one_after ids image c.args.time i c.loop-passed.piece c.loop-passed.invariant.piece c.if-piece.false;
    }
