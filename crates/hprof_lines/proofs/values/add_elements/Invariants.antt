use Rattle.std.proofs.Common.{◌≡◌, ◌-◌, ◌++◌}
use Rattle.hprof_lines.specs.Values.{elements_from}
use Rattle.hprof_lines.proofs.values.add_elements.Given as goal

abbrev pub invariant-loop-slot : goal.invariant-loop-slot
invariant-loop-slot l =
    l.slots.items ++ elements_from l.ids l.kind (l.count - l.slot) l.slot l.rest
    ≡ l.fn.slots.items ++ elements_from l.ids l.kind l.count 0 l.bytes
