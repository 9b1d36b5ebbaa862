use Rattle.std.proofs.Common.{◌+◌, [], false, true, ap, ◌∙◌, arith}
use Rattle.hprof_text.specs.SegmentFilling.{body_filled}
use Rattle.hprof_text.proofs.NumberedPieces.{next_body_filled_from_cursor, piece_with, cursor_stands_where_rest_begins}
use Rattle.hprof_text.proofs.pieces.segment_from.Goals as goal

pub returns-then-len-eq0-clause-piece : goal.returns-then-len-eq0-clause-piece
returns-then-len-eq0-clause-piece g c = λ time i rest r b.
    let n = next_body_filled_from_cursor (g.V.View.ids c.args.view.now) (g.V.View.image c.args.view.now) (g.V.View.places c.args.view.now) c.args.cursor c.in_ok-next.next rest i _ c.fill.new.self c.in_ok-segment.ensures.empty r (c.in_ok-next.ensures.filled rest r) b in
    ap (λ l. piece_with l true) c.into_record-bytes.ensures.value ∙ (n.0.end (omega (arith, c.len.ensures.value, c.if-len-eq0.true))).0 time

pub returns-then-len-eq0-clause-next : goal.returns-then-len-eq0-clause-next
returns-then-len-eq0-clause-next g c = λ i rest r b.
    let n = next_body_filled_from_cursor (g.V.View.ids c.args.view.now) (g.V.View.image c.args.view.now) (g.V.View.places c.args.view.now) c.args.cursor c.in_ok-next.next rest i _ c.fill.new.self c.in_ok-segment.ensures.empty r (c.in_ok-next.ensures.filled rest r) b in
    (n.0.end (omega (arith, c.len.ensures.value, c.if-len-eq0.true))).1

pub returns-clause-piece : goal.returns-clause-piece
returns-clause-piece g c = λ time i rest r b.
    let n = next_body_filled_from_cursor (g.V.View.ids c.args.view.now) (g.V.View.image c.args.view.now) (g.V.View.places c.args.view.now) c.args.cursor c.in_ok-next.next rest i _ c.fill.new.self c.in_ok-segment.ensures.empty r (c.in_ok-next.ensures.filled rest r) b in
    ap (λ l. piece_with l false) c.into_record-bytes-2.ensures.value ∙ (n.0.segment (omega (arith, c.len.ensures.value, c.if-len-eq0.false))).0 time

pub returns-clause-next : goal.returns-clause-next
returns-clause-next g c = λ i rest r b.
    let n = next_body_filled_from_cursor (g.V.View.ids c.args.view.now) (g.V.View.image c.args.view.now) (g.V.View.places c.args.view.now) c.args.cursor c.in_ok-next.next rest i _ c.fill.new.self c.in_ok-segment.ensures.empty r (c.in_ok-next.ensures.filled rest r) b in
    cursor_stands_where_rest_begins _ _ (g.V.View.places c.args.view.now) c.in_ok-next.next (body_filled [] rest).1 (i + 1) n.1 (n.0.segment (omega (arith, c.len.ensures.value, c.if-len-eq0.false))).1
