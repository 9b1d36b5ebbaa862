use Rattle.std.proofs.Common.{ap, refl, ◌∙◌}
use Rattle.hprof_text.specs.declared.Piece.{Piece}
use Rattle.question_text.proofs.JoinedDump.{front_first, front_last, front_more, one_after, some_piece}
use Rattle.question_text.proofs.state_dump.text_of_view.Goals as goal

pub loop-passed-init : goal.loop-passed-init
loop-passed-init g c =
    let v = c.args.view.now in
    let ids = g.V.View.ids v in
    let image = g.V.View.image v in
    record {
      at = refl;
      front = front_first ids image c.args.time c.in_ok-text.text.items c.in_ok-text.ensures.items;
      after = some_piece ids image c.args.time;
    }

pub returns-then-piece-clause-text : goal.returns-then-piece-clause-text
returns-then-piece-clause-text g c =
    let v = c.args.view.now in
    let ids = g.V.View.ids v in
    let image = g.V.View.image v in
    let i = c.loop-passed._passed in
    let is = c.in_ok-piece.ensures.piece i c.loop-passed.invariant.at in
    let front = front_more ids image c.args.time i c.loop-passed.text.items c.as_slice.result.now c.extend_from_slice.new.self.items c.loop-passed.invariant.front (c.as_slice.ensures ∙ ap (λ (p : Piece). p.bytes) is) c.in_ok-extend_from_slice.ensures.items in
    front_last ids image c.args.time i c.extend_from_slice.new.self.items c.in_ok-piece.piece front is c.if-piece.true

pub loop-passed-preserved : goal.loop-passed-preserved
loop-passed-preserved g c =
    let v = c.args.view.now in
    let ids = g.V.View.ids v in
    let image = g.V.View.image v in
    let i = c.loop-passed._passed in
    let is = c.in_ok-piece.ensures.piece i c.loop-passed.invariant.at in
    record {
      at = c.in_ok-piece.ensures.next i c.loop-passed.invariant.at;
      front = front_more ids image c.args.time i c.loop-passed.text.items c.as_slice.result.now c.extend_from_slice.new.self.items c.loop-passed.invariant.front (c.as_slice.ensures ∙ ap (λ (p : Piece). p.bytes) is) c.in_ok-extend_from_slice.ensures.items;
      after = one_after ids image c.args.time i c.in_ok-piece.piece is c.if-piece.false;
    }
