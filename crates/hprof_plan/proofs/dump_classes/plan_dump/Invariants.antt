use Rattle.std.proofs.Common.{◌≡◌, [], take}
use Rattle.std.specs.Prelude.{flat_map}
use Rattle.std.specs.Map.{keys_of}
use Rattle.hprof_plan.specs.Numbers.{with_numbers}
use Rattle.hprof_plan.specs.Plans.{IsPlanned}
use Rattle.hprof_plan.specs.Tables.{classes_told}
use Rattle.hprof_plan.proofs.Numbering.{after_supers}
use Rattle.hprof_plan.proofs.dump_classes.plan_dump.Given as goal

abbrev pub invariant-loop-i : goal.invariant-loop-i
invariant-loop-i l = record {
  planned : IsPlanned l.limits l.room l.found l.planned;
  numbers : keys_of l.planned.kinds.entries
      ≡ with_numbers l.room (classes_told l.found.classes.entries) []
      (flat_map (after_supers l.room (classes_told l.found.classes.entries)) (take l.i (keys_of (classes_told l.found.classes.entries))));
}
