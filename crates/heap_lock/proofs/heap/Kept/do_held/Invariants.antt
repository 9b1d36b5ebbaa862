use Rattle.heap_lock.specs.Calls.{call_of}
use Rattle.heap_lock.proofs.heap.Kept.do_held.Given as goal

abbrev pub ghosts-note : goal.ghosts-note
ghosts-note g a = record { call = call_of a.asked.now.value }
