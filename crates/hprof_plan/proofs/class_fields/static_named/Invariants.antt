use Rattle.std.proofs.Common.{◌≡◌, take, map}
use Rattle.hprof_reader.specs.Fields.{static_told}
use Rattle.hprof_plan.specs.ClassFields.{static_named}
use Rattle.hprof_plan.specs.Tables.{names_told}
use Rattle.hprof_plan.proofs.class_fields.static_named.Given as goal

abbrev pub invariant-loop-f : goal.invariant-loop-f
invariant-loop-f l = l.fields.items ≡ static_named l.limits (names_told l.found.names.entries) (map static_told (take l.f-index l.statics))
