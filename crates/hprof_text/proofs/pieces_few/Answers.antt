use Rattle.hprof_text.proofs.PieceCounts.{pieces_within_piece_limit}
use Rattle.hprof_text.proofs.pieces_few.Goals as goal

pub returns : goal.returns
returns c = pieces_within_piece_limit
