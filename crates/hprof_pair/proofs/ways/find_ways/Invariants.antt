use Rattle.std.proofs.Common.{◌≡◌}
use Rattle.hprof_lines.specs.Objects.{objects_told}
use Rattle.hprof_pair.specs.Dumps.{dump_told}
use Rattle.hprof_pair.specs.Ways.{numbers_of, root_ways}
use Rattle.hprof_pair.proofs.FoundWays.{IsSearching}
use Rattle.hprof_pair.proofs.ways.find_ways.Given as goal

abbrev pub invariant-loop-k : goal.invariant-loop-k
invariant-loop-k l = record {
  found : l.ways.found.keys ≡ numbers_of l.ways.ways.items;
  search : IsSearching (dump_told l.dump) (root_ways (objects_told l.dump.all) l.roots 0 l.tags) l.ways.ways.items l.k;
}
