use Rattle.std.proofs.Common.{◌≡◌, map, take}
use Rattle.hprof_reader.specs.declared.fields.OwnField.{OwnField}
use Rattle.hprof_plan.proofs.dump_classes.kinds_of.Given as goal

abbrev pub invariant-loop-f : goal.invariant-loop-f
invariant-loop-f l = l.kinds.items ≡ map (λ (f : OwnField). f.kind) (take l.f-index l.fields)
