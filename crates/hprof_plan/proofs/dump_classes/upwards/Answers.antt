use Rattle.hprof_reader.specs.SubRecords.{class_told}
use Rattle.hprof_plan.specs.Tables.{classes_told}
use Rattle.hprof_plan.proofs.Numbering.{class_found, class_lacking, one_up, top_reached, most_reached}
use Rattle.hprof_plan.proofs.dump_classes.upwards.Goals as goal

pub loop-preserved : goal.loop-preserved
loop-preserved c =
    rw c.in_ok-push-in-Some.ensures.items
    (one_up (classes_told c.args.found.now.classes.entries) c.args.most c.loop.counter c.loop.at (class_told c.in-Some.dump.now) c.loop.line.items _ c.loop-test.true
    (class_found c.args.found.now.classes.entries c.loop.at c.in-Some.dump.now c.in-Some.ensures.value) c.loop.invariant)

pub returns-in-None : goal.returns-in-None
returns-in-None c =
    top_reached (classes_told c.args.found.now.classes.entries) c.args.most c.loop.counter c.loop.at c.loop.line.items _ c.loop-test.true
    (class_lacking c.args.found.now.classes.entries c.loop.at c.in-None.ensures.value) c.loop.invariant

pub returns : goal.returns
returns c = most_reached (classes_told c.args.found.now.classes.entries) c.args.most c.loop.counter c.loop.at c.loop.line.items _ c.loop-test.false c.loop.invariant
