use Rattle.std.proofs.Common.{◌≡◌, drop}
use Rattle.std.specs.List.{list_any}
use Rattle.hprof_lines.specs.Objects.{names_object}
use Rattle.hprof_lines.proofs.objects.any_names_object.Given as goal

abbrev pub invariant-loop-value : goal.invariant-loop-value
invariant-loop-value l = list_any names_object (drop l.value-index l.values) ≡ list_any names_object l.values
