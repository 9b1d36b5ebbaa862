use Rattle.heap_pins.proofs.States.{tells_before}
use Rattle.heap_pins.proofs.tells_before.Goals as goal

pub returns : goal.returns
returns c left before x e s = tells_before e before x left (c.undo_restores.ensures e before) s
