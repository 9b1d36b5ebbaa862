use Rattle.std.proofs.Common.{◌≡◌, take}
use Rattle.hprof_pair.specs.Events.{roots_named}
use Rattle.hprof_pair.specs.Pairs.{pair_told}
use Rattle.hprof_pair.proofs.roots.roots_named.Given as goal

abbrev pub invariant-loop-root : goal.invariant-loop-root
invariant-loop-root l = l.numbers.items ≡ roots_named (pair_told l.pair) l.tag (take l.root-index l.roots)
