use Rattle.std.proofs.Common.{◌≡◌, take}
use Rattle.hprof_plan.specs.ClassFields.{own_named}
use Rattle.hprof_plan.specs.Tables.{names_told}
use Rattle.hprof_plan.proofs.class_fields.own_named.Given as goal

abbrev pub invariant-loop-f : goal.invariant-loop-f
invariant-loop-f l = l.fields.items ≡ own_named l.limits (names_told l.found.names.entries) (take l.f-index l.own)
