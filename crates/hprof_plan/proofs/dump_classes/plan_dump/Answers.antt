use Rattle.std.proofs.Common.{sym, ap, ◌∙◌, refl, arith}
use Rattle.std.specs.Map.{keys_of}
use Rattle.hprof_plan.specs.Tables.{classes_told}
use Rattle.hprof_plan.proofs.Numbering.{all_lines, as_many_ids, next_line, no_numbers_more}
use Rattle.hprof_plan.proofs.dump_classes.plan_dump.Goals as goal

pub loop-i-init : goal.loop-i-init
loop-i-init c = record {
  planned = c.none_planned-planned.ensures.planned;
  numbers = ap keys_of c.none_planned-planned.ensures.none ∙ sym (no_numbers_more c.args.room (classes_told c.args.found.now.classes.entries) _);
}

pub loop-i-preserved : goal.loop-i-preserved
loop-i-preserved c = record {
  planned = c.in_ok-plan_after_supers.ensures.planned;
  numbers =
      next_line c.args.room (classes_told c.args.found.now.classes.entries) (keys_of (classes_told c.args.found.now.classes.entries)) (keys_of c.loop-i.planned.kinds.entries) _ c.loop-i.i c.class_id-id.result
      c.class_id-id.ensures c.loop-i.invariant.numbers c.in_ok-plan_after_supers.ensures.numbers;
}

pub returns-clause-numbers : goal.returns-clause-numbers
returns-clause-numbers c =
    all_lines c.args.room (classes_told c.args.found.now.classes.entries) (keys_of (classes_told c.args.found.now.classes.entries)) (keys_of c.loop-i.planned.kinds.entries) c.loop-i.i
    (omega (arith, c.loop-i-test.false, c.len-i-end.ensures.len, as_many_ids c.args.found.now.classes.entries)) refl c.loop-i.invariant.numbers
