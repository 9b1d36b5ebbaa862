use Rattle.std.proofs.Common.{◌≡◌, ◌++◌, drop}
use Rattle.hprof_lines.specs.Values.{statics_from}
use Rattle.hprof_lines.proofs.values.add_statics.Given as goal

abbrev pub invariant-loop-i : goal.invariant-loop-i
invariant-loop-i l = l.slots.items ++ statics_from l.i (drop l.i l.fields) ≡ l.fn.slots.items ++ statics_from 0 l.fields
