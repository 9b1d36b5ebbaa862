use Rattle.std.proofs.Common.{◌≡◌, ◌+◌, length, take}
use Rattle.hprof_plan.specs.Defined.{AreDefined}
use Rattle.hprof_plan.specs.SessionClasses.{and_arrays, root_names}
use Rattle.hprof_plan.proofs.root_classes.plan_roots.Given as goal

abbrev pub invariant-loop-k : goal.invariant-loop-k
invariant-loop-k l = record {
  defined : AreDefined l.limits l.defined;
  counted : length l.defined.classes ≡ length l.fn.defined.classes + l.k;
  classes : l.defined.classes ≡ and_arrays l.limits l.fn.defined.classes (take l.k root_names);
}
