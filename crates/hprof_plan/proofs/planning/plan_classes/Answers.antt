use Rattle.std.proofs.Common.{arith, refl}
use Rattle.hprof_plan.specs.Plans.{statics_told}
use Rattle.hprof_plan.proofs.PlannedClasses.{classes_as_planned, kinds_as_planned, statics_as_planned}
use Rattle.hprof_plan.proofs.planning.plan_classes.Goals as goal

pub plan_dump-requires : goal.plan_dump-requires
plan_dump-requires c = record { limits_are = c.requires.limits; long = c.requires.long; enough = omega arith }

pub returns : goal.returns
returns c =
    let planned = c.in_ok-planned.ensures.planned in
    let ids = c.in_ok-planned.ensures.numbers in
    let statics = statics_as_planned c.args.limits c.args.found.now c.in_ok-planned.planned planned ids (statics_told c.in_ok-statics.statics.items) c.in_ok-statics.ensures.statics in
    record {
      classes = classes_as_planned c.args.limits c.args.found.now c.in_ok-planned.planned planned ids _ _ _ statics c.in_ok-statics.ensures.classes c.in_ok-plan_roots.ensures.classes;
      kinds = kinds_as_planned c.args.limits c.args.found.now c.in_ok-planned.planned planned ids;
      statics = statics;
      lines = c.in_ok-plan_roots.ensures.defined.lines;
      accepted = c.in_ok-plan_roots.ensures.defined.accepted;
      placed = omega (arith, planned.counted, c.in_ok-statics.ensures.counted, c.len-roots.ensures.value);
      counted = omega (arith, c.in_ok-plan_roots.ensures.counted, c.len-roots.ensures.value);
      elements = refl;
    }
