use Rattle.std.proofs.Common.{◌≡◌, take}
use Rattle.hprof_pair.specs.Ways.{numbers_of, with_ways}
use Rattle.hprof_pair.proofs.ways.add_ways.Given as goal

abbrev pub invariant-loop-way : goal.invariant-loop-way
invariant-loop-way l = record {
  ways : l.ways.ways.items ≡ with_ways l.fn.ways.ways.items (take l.way-index l.more);
  found : l.ways.found.keys ≡ numbers_of l.ways.ways.items;
}
