use Rattle.heap_lock.proofs.PinTexts.{given_pieces_tell_dump}
use Rattle.heap_lock.proofs.laws.pins_give_text.Goals as goal

pub returns : goal.returns
returns c = given_pieces_tell_dump
