use Rattle.std.proofs.Common.{◌∙◌}
use Rattle.hprof_text.proofs.NumberedPieces.{piece_past_last_is_empty}
use Rattle.hprof_text.proofs.pieces.past_from.Goals as goal

pub returns-clause-piece : goal.returns-clause-piece
returns-clause-piece g c = λ time i h.
    let v = c.args.view.now in
    piece_past_last_is_empty (g.V.View.ids v) (g.V.View.image v) time i c.from_vec.result (c.from_vec.ensures ∙ c.new.ensures.items) h
