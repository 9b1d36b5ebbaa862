use Rattle.machine_dump.proofs.Texts.{pin_pieces_are_text}
use Rattle.machine_dump.proofs.text.pieces_are_text.Goals as goal

pub returns : goal.returns
returns c = pin_pieces_are_text
