use Rattle.std.proofs.Common.{◌∙◌, ap₂}
use Rattle.hprof_text.specs.Records.{opening_of}
use Rattle.hprof_text.specs.Text.{opening_records}
use Rattle.hprof_text.proofs.NumberedPieces.{first_piece_is_opening_records, first_item_stands_at_one}
use Rattle.hprof_text.proofs.pieces.start_from.Goals as goal

pub returns-clause-piece : goal.returns-clause-piece
unfolding opening_records
returns-clause-piece g c =
    let v = c.args.view.now in
    first_piece_is_opening_records (g.V.View.ids v) (g.V.View.image v) c.args.time c.in_ok-bytes.bytes (c.in_ok-bytes.ensures.bytes ∙ ap₂ (λ s cs. opening_of s cs c.args.time) c.id_size.ensures c.classes.ensures.value)

pub returns-clause-next : goal.returns-clause-next
returns-clause-next g c = let v = c.args.view.now in first_item_stands_at_one (g.V.View.ids v) (g.V.View.image v) (g.V.View.places v)
