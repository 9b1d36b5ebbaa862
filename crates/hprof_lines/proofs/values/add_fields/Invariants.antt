use Rattle.std.proofs.Common.{◌++◌}
use Rattle.hprof_lines.specs.Values.{fields_from, after_fields}
use Rattle.hprof_lines.proofs.MoreValues.{IsOnWay}
use Rattle.hprof_lines.proofs.values.add_fields.Given as goal

abbrev pub invariant-loop-i : goal.invariant-loop-i
invariant-loop-i l =
    IsOnWay l.ids l.kept l.base l.i l.kinds l.rest l.slots.items
    (l.fn.slots.items ++ fields_from l.ids l.kept l.base 0 l.kinds l.bytes) (after_fields l.ids l.kinds l.bytes)
