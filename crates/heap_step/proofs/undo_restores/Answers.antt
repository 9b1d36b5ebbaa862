use Rattle.heap_step.proofs.EventLaws.{undo_restores}
use Rattle.heap_step.proofs.undo_restores.Goals as goal

pub returns : goal.returns
returns c = undo_restores
