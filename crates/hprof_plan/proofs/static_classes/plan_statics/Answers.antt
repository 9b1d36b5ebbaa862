use Rattle.std.proofs.Common.{arith, ◌∙◌}
use Rattle.std.specs.Map.{keys_of}
use Rattle.hprof_plan.specs.Plans.{statics_told}
use Rattle.hprof_plan.specs.Tables.{classes_told}
use Rattle.hprof_plan.proofs.Numbering.{as_many_ids}
use Rattle.hprof_plan.proofs.PlannedClasses.{statics_all, statics_and, statics_as_many, statics_counted, statics_none}
use Rattle.hprof_plan.proofs.static_classes.plan_statics.Goals as goal

pub loop-i-init : goal.loop-i-init
loop-i-init c = record {
  defined = c.requires.state;
  few = c.requires.few;
  statics = rw c.new-statics.ensures.items (statics_none c.args.limits c.args.found.now c.args.room (keys_of (classes_told c.args.found.now.classes.entries)) c.args.defined.now.classes);
}

pub loop-i-preserved : goal.loop-i-preserved
loop-i-preserved c = record {
  defined = c.in_ok-plan_class_statics.ensures.defined;
  few = c.in_ok-plan_class_statics.ensures.few;
  statics =
      statics_and c.args.limits c.args.found.now c.args.room (keys_of (classes_told c.args.found.now.classes.entries)) c.args.defined.now.classes c.loop-i.i c.loop-i.defined.classes _ (statics_told c.loop-i.statics.items) _ c.class_id-id.result
      c.requires.few c.loop-i.invariant.statics c.class_id-id.ensures c.in_ok-plan_class_statics.ensures.statics c.in_ok-plan_class_statics.ensures.classes;
}

pub returns-clause-statics : goal.returns-clause-statics
returns-clause-statics c =
    statics_all c.args.limits c.args.found.now c.args.room (keys_of (classes_told c.args.found.now.classes.entries)) c.args.defined.now.classes c.loop-i.i c.loop-i.defined.classes (statics_told c.loop-i.statics.items)
    (omega (arith, c.loop-i-test.false, c.len-i-end.ensures.len, as_many_ids c.args.found.now.classes.entries)) c.loop-i.invariant.statics

pub returns-clause-classes : goal.returns-clause-classes
returns-clause-classes c = c.loop-i.invariant.statics.classes_are

pub returns-clause-counted : goal.returns-clause-counted
returns-clause-counted c =
    statics_counted c.args.limits c.args.found.now c.args.room (keys_of (classes_told c.args.found.now.classes.entries)) c.args.defined.now.classes c.loop-i.i c.loop-i.defined.classes (statics_told c.loop-i.statics.items) c.loop-i.invariant.statics
    ∙ omega (arith, statics_as_many c.loop-i.statics.items)
