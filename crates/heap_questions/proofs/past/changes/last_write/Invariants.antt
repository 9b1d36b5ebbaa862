use Rattle.heap_questions.specs.Changes.{AllLeave, slot_word}
use Rattle.heap_questions.proofs.past.changes.last_write.Given as goal

abbrev pub invariant-loop-n : goal.invariant-loop-n
invariant-loop-n l = AllLeave (λ w. slot_word w l.at l.slot) l.past l.n
