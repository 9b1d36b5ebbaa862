use Rattle.heap_trail.specs.declared.Action.TheVariants.{NextPiece}
use Rattle.heap_trail.specs.declared.Reply.TheVariants.{Part}
use Rattle.heap_lock.proofs.DumperCalls.{replied}
use Rattle.heap_lock.proofs.heap.Kept.piece_held.Given as goal

abbrev pub ghosts-note : goal.ghosts-note
ghosts-note g a = record { call = (NextPiece a.asked.now.0 a.asked.now.1, replied (λ p. Part p) a.told.now) }
