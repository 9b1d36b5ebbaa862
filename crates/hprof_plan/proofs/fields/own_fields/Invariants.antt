use Rattle.std.proofs.Common.{◌≡◌, ◌-◌, ◌++◌}
use Rattle.hprof_plan.specs.Fields.{own_fields}
use Rattle.hprof_plan.proofs.fields.own_fields.Given as goal

abbrev pub invariant-loop : goal.invariant-loop
invariant-loop l = l.fields.items ++ own_fields l.ids (l.table.count - l.counter) l.rest ≡ own_fields l.ids l.table.count l.fn.table.bytes.now
