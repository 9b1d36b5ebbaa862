use Rattle.std.proofs.Common.{◌≡◌, map, take}
use Rattle.hprof_pair.specs.JoinedClasses.{class_line}
use Rattle.hprof_pair.proofs.joined_classes.lines_of.Given as goal

abbrev pub invariant-loop-k : goal.invariant-loop-k
invariant-loop-k l = l.lines.items ≡ map class_line (take l.k l.classes)
