use Rattle.std.proofs.Common.{◌≡◌, ◌++◌}
use Rattle.std.specs.Prelude.{◌==◌, slice_index}
use Rattle.heap_questions.specs.declared.references.Referrer.TheVariants.{Register}
use Rattle.heap_questions.proofs.Passing.{passing}
use Rattle.heap_questions.proofs.references.add_registers.Given as goal

abbrev pub invariant-loop-r : goal.invariant-loop-r
invariant-loop-r l = l.all.items ≡ l.fn.all.items ++ passing (λ r. slice_index l.registers r == l.id) Register l.r
