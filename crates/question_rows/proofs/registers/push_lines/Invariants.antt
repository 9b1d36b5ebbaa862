use Rattle.std.proofs.Common.{◌≡◌, ◌++◌, drop}
use Rattle.question_rows.specs.Registers.{register_texts}
use Rattle.question_rows.proofs.registers.push_lines.Given as goal

abbrev pub invariant-loop-register : goal.invariant-loop-register
invariant-loop-register l =
    l.text.items ++ register_texts l.classes l.register (drop l.register l.all) ≡ l.fn.text.items ++ register_texts l.classes 0 l.all
