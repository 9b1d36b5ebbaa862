use Rattle.std.proofs.Common.{◌≡◌, ◌++◌, drop}
use Rattle.hprof_pair.specs.Ways.{kind_ways}
use Rattle.hprof_pair.proofs.ways.add_root_ways.Given as goal

abbrev pub invariant-loop-i : goal.invariant-loop-i
invariant-loop-i l = l.ways.items ++ kind_ways l.first l.i (drop l.i l.numbers) ≡ l.fn.ways.items ++ kind_ways l.first 0 l.numbers
