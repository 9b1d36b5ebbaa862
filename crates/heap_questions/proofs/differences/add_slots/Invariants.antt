use Rattle.std.proofs.Common.{◌≡◌, ◌++◌}
use Rattle.heap_questions.specs.Differences.{differs_at, slot_seen}
use Rattle.heap_questions.specs.declared.differences.Difference.TheVariants.{Changed}
use Rattle.heap_questions.proofs.Passing.{passing}
use Rattle.heap_questions.proofs.differences.add_slots.Given as goal

abbrev pub invariant-loop-slot : goal.invariant-loop-slot
invariant-loop-slot l =
    l.rows.items ≡ l.fn.rows.items ++ passing (differs_at l.old l.new) (λ s. Changed l.id s (slot_seen l.old_classes l.old s) (slot_seen l.new_classes l.new s)) l.slot
