use Rattle.std.proofs.lemmas.List.{nil_from_length}
use Rattle.hprof_plan.proofs.PlannedClasses.{none_planned}
use Rattle.hprof_plan.proofs.dump_classes.none_planned.Goals as goal

pub returns-clause-planned : goal.returns-clause-planned
returns-clause-planned c =
    none_planned c.args.limits c.args.found.now c.args.room _ c.none_defined.ensures.defined c.none_defined.ensures.none (nil_from_length _ c.new.ensures.len)

pub returns-clause-none : goal.returns-clause-none
returns-clause-none c = nil_from_length _ c.new.ensures.len
