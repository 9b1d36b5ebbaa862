use Rattle.std.proofs.Common.{sym}
use Rattle.std.specs.Map.{keys_of}
use Rattle.hprof_plan.specs.Tables.{classes_told}
use Rattle.hprof_plan.proofs.Numbering.{next_numbered, no_numbers_more}
use Rattle.hprof_plan.proofs.dump_classes.plan_each.Goals as goal

pub loop-id-init : goal.loop-id-init
loop-id-init c = record {
  planned = c.requires.state;
  numbers = sym (no_numbers_more c.args.room (classes_told c.args.found.now.classes.entries) (keys_of c.args.planned.now.kinds.entries));
}

pub loop-id-preserved : goal.loop-id-preserved
loop-id-preserved c = record {
  planned = c.in_ok-plan_class.ensures.planned;
  numbers =
      next_numbered c.args.room (classes_told c.args.found.now.classes.entries) (keys_of c.args.planned.now.kinds.entries) c.args.ids.now (keys_of c.loop-id.planned.kinds.entries) _ c.loop-id.id-index
      c.loop-id-test.true c.loop-id.invariant.numbers c.in_ok-plan_class.ensures.numbers;
}
