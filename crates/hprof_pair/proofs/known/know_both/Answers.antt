use Rattle.hprof_pair.proofs.KnownDumps.{ways_of_told}
use Rattle.hprof_pair.proofs.known.know_both.Goals as goal

pub find_ways-requires : goal.find_ways-requires
find_ways-requires c = rw c.dump-dump.ensures.plan c.requires.kinds

pub returns-clause-ways : goal.returns-clause-ways
returns-clause-ways c = ways_of_told _ _ _ _ _ c.dump-dump.ensures.told c.as_slice.ensures.value c.in_ok-ways.ensures.ways
