use Rattle.hprof_plan.proofs.FieldLoops.{few_statics}
use Rattle.hprof_plan.proofs.fields.static_fields.Goals as goal

pub returns-clause-few : goal.returns-clause-few
returns-clause-few c = few_statics c.in_ok-fields.fields.items c.args.ids c.args.table.count c.args.table.bytes.now c.in_ok-fields.ensures
