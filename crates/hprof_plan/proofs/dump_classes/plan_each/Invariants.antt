use Rattle.std.proofs.Common.{◌≡◌, take}
use Rattle.std.specs.Map.{keys_of}
use Rattle.hprof_plan.specs.Numbers.{with_numbers}
use Rattle.hprof_plan.specs.Plans.{IsPlanned}
use Rattle.hprof_plan.specs.Tables.{classes_told}
use Rattle.hprof_plan.proofs.dump_classes.plan_each.Given as goal

abbrev pub invariant-loop-id : goal.invariant-loop-id
invariant-loop-id l = record {
  planned : IsPlanned l.limits l.room l.found l.planned;
  numbers : keys_of l.planned.kinds.entries
      ≡ with_numbers l.room (classes_told l.found.classes.entries) (keys_of l.fn.planned.kinds.entries) (take l.id-index l.ids);
}
