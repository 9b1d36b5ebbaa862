use Rattle.std.proofs.Common.{◌≡◌, map, take}
use Rattle.heap_questions.specs.Registers.{object_named}
use Rattle.heap_questions.proofs.registers.named_by_registers.Given as goal

abbrev pub invariant-loop-r : goal.invariant-loop-r
invariant-loop-r g l = l.all.items ≡ map (object_named (g.V.View.image l.view)) (take l.r l.registers)
