use Rattle.std.proofs.Common.{◌≡◌, ◌-◌, ◌++◌, map, min}
use Rattle.hprof_reader.specs.Fields.{static_told}
use Rattle.hprof_plan.specs.Fields.{static_fields}
use Rattle.hprof_plan.proofs.fields.read_statics.Given as goal

abbrev pub invariant-loop : goal.invariant-loop
invariant-loop l = map static_told l.fields.items ++ static_fields l.ids (min l.table.count 64 - l.counter) l.rest ≡ static_fields l.ids (min l.table.count 64) l.fn.table.bytes.now
