use Rattle.std.proofs.Common.{◌≤◌, length}
use Rattle.std.specs.Map.{keys_of}
use Rattle.hprof_plan.specs.Defined.{AreDefined}
use Rattle.hprof_plan.specs.Plans.{statics_told}
use Rattle.hprof_plan.specs.Tables.{classes_told}
use Rattle.hprof_plan.proofs.PlannedClasses.{AreStatics}
use Rattle.hprof_plan.proofs.static_classes.plan_statics.Given as goal

abbrev pub invariant-loop-i : goal.invariant-loop-i
invariant-loop-i l = record {
  defined : AreDefined l.limits l.defined;
  few : length l.defined.classes ≤ l.room;
  statics : AreStatics l.limits l.found l.room (keys_of (classes_told l.found.classes.entries)) l.fn.defined.classes l.i l.defined.classes
      (statics_told l.statics.items);
}
