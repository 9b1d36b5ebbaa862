use Rattle.heap_trail.specs.declared.Action.TheVariants.{ClosePin}
use Rattle.heap_trail.specs.declared.Reply.TheVariants.{Closed}
use Rattle.heap_lock.proofs.DumperCalls.{replied}
use Rattle.heap_lock.proofs.heap.Kept.close_held.Given as goal

abbrev pub ghosts-note : goal.ghosts-note
ghosts-note g a = record { call = (ClosePin a.asked.now, replied (λ u. Closed) a.told.now) }
