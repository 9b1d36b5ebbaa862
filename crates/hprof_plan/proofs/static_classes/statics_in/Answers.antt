use Rattle.std.proofs.Common.{ap, map, ◌∙◌}
use Rattle.hprof_reader.specs.Fields.{static_told}
use Rattle.hprof_reader.specs.SubRecords.{class_told}
use Rattle.hprof_plan.proofs.Numbering.{class_found, class_lacking}
use Rattle.hprof_plan.proofs.PlannedClasses.{class_statics, no_class_no_statics}
use Rattle.hprof_plan.proofs.static_classes.statics_in.Goals as goal

pub returns-in-Some-clause-value : goal.returns-in-Some-clause-value
returns-in-Some-clause-value c =
    rw (class_statics c.args.found.now c.args.id (class_told c.in-Some.dump.now) (class_found c.args.found.now.classes.entries c.args.id c.in-Some.dump.now c.in-Some.ensures.value))
    at c.static_fields.ensures.value

pub returns-in-None-clause-value : goal.returns-in-None-clause-value
returns-in-None-clause-value c =
    ap (map static_told) c.new.ensures.items
    ∙ no_class_no_statics c.args.found.now c.args.id (class_lacking c.args.found.now.classes.entries c.args.id c.in-None.ensures.value)
