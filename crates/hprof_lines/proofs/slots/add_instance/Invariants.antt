use Rattle.std.proofs.Common.{◌++◌, length}
use Rattle.hprof_lines.specs.Slots.{instance_values}
use Rattle.hprof_lines.proofs.UpClasses.{IsUp}
use Rattle.hprof_lines.proofs.slots.add_instance.Given as goal

abbrev pub invariant-loop : goal.invariant-loop
invariant-loop l =
    IsUp l.plan l.ids l.class (length l.plan.classes) l.counter l.at l.rest l.slots.items
    (l.fn.slots.items ++ instance_values l.plan l.ids l.class l.bytes)
