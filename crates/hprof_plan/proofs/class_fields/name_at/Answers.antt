use Rattle.hprof_plan.proofs.FieldNames.{name_there, name_lacking}
use Rattle.hprof_plan.proofs.class_fields.name_at.Goals as goal

pub returns-in-Some : goal.returns-in-Some
returns-in-Some c = name_there c.args.found.now.names.entries c.args.id c.in-Some.name.now c.in-Some.ensures.value

pub returns-in-None : goal.returns-in-None
returns-in-None c = name_lacking c.args.found.now.names.entries c.args.id c.in-None.ensures.value
