use Rattle.std.proofs.Common.{◌≡◌, ◌-◌, ◌++◌}
use Rattle.hprof_plan.specs.Numbers.{upwards}
use Rattle.hprof_plan.specs.Tables.{classes_told}
use Rattle.hprof_plan.proofs.dump_classes.upwards.Given as goal

abbrev pub invariant-loop : goal.invariant-loop
invariant-loop l =
    l.line.items ++ upwards (classes_told l.found.classes.entries) (l.most - l.counter) l.at
    ≡ upwards (classes_told l.found.classes.entries) l.most l.id
