use Rattle.heap_questions.proofs.ChangedSlots.{AreChanges}
use Rattle.heap_questions.proofs.past.slots.newest_changes.Given as goal

abbrev pub invariant-loop-n : goal.invariant-loop-n
invariant-loop-n l = AreChanges l.past l.at l.slot l.n l.now l.changes.items
