use Rattle.std.proofs.lemmas.Result.{IfOk-weaker}
use Rattle.hprof_text.proofs.NumberedPieces.{rest_begins_where_cursor_stands}
use Rattle.hprof_text.proofs.piece_from.Goals as goal

pub segment_from-requires : goal.segment_from-requires
segment_from-requires g c =
    let v = c.args.view.now in
    let r = rest_begins_where_cursor_stands (g.V.View.ids v) (g.V.View.image v) (g.V.View.places v) c.args.cursor c.requires.0 c.in_default.not-Start c.in_default.not-Past c.requires.1 in
    (r.0, r.1)

pub returns-in_default : goal.returns-in_default
returns-in_default g c =
    let v = c.args.view.now in
    let ids = g.V.View.ids v in
    let image = g.V.View.image v in
    let places = g.V.View.places v in
    record {
      piece = IfOk-weaker c.segment_from.result _ _ (λ p h i a. let r = rest_begins_where_cursor_stands ids image places c.args.cursor i c.in_default.not-Start c.in_default.not-Past a in h c.args.time i r.0 r.1 r.2) c.segment_from.ensures.piece;
      next = IfOk-weaker c.segment_from.result _ _ (λ p h i a. let r = rest_begins_where_cursor_stands ids image places c.args.cursor i c.in_default.not-Start c.in_default.not-Past a in h i r.0 r.1 r.2) c.segment_from.ensures.next;
      small = c.segment_from.ensures.small;
      refused = c.segment_from.ensures.refused;
    }
