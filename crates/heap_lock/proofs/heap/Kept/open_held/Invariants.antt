use Rattle.heap_trail.specs.declared.Action.TheVariants.{OpenPin}
use Rattle.heap_trail.specs.declared.Reply.TheVariants.{Pinned}
use Rattle.heap_lock.proofs.DumperCalls.{replied}
use Rattle.heap_lock.proofs.heap.Kept.open_held.Given as goal

abbrev pub ghosts-note : goal.ghosts-note
ghosts-note g a = record { call = (OpenPin a.asked.now, replied (λ p. Pinned p.pin p.at) a.told.now) }
