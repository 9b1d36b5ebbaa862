use Rattle.std.proofs.Common.{◌≡◌, take}
use Rattle.hprof_lines.specs.Objects.{objects_told}
use Rattle.hprof_lines.specs.Roots.{roots_named}
use Rattle.hprof_lines.proofs.roots.roots_named.Given as goal

abbrev pub invariant-loop-root : goal.invariant-loop-root
invariant-loop-root l = l.numbers.items ≡ roots_named (objects_told l.all) l.tag (take l.root-index l.roots)
