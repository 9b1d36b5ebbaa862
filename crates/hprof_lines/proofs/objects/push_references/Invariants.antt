use Rattle.std.proofs.Common.{◌≡◌, ◌++◌, take}
use Rattle.std.specs.Prelude.{flat_map}
use Rattle.hprof_session.specs.Places.{lines_of}
use Rattle.hprof_lines.specs.Objects.{objects_told, reference_events}
use Rattle.hprof_lines.proofs.objects.push_references.Given as goal

abbrev pub invariant-loop-value : goal.invariant-loop-value
invariant-loop-value l =
    l.lines ≡ l.fn.lines ++ lines_of (flat_map (reference_events (objects_told l.all)) (take l.value-index l.values))
