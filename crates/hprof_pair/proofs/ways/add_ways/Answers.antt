use Rattle.hprof_pair.specs.declared.ways.Hold.TheVariants.{Root}
use Rattle.hprof_pair.proofs.FoundWays.{no_more_ways, one_more_way}
use Rattle.hprof_pair.proofs.ways.add_ways.Goals as goal

pub loop-way-init : goal.loop-way-init
loop-way-init c = record { ways = no_more_ways _; found = c.requires }

pub loop-way-preserved : goal.loop-way-preserved
loop-way-preserved c = record {
  ways = one_more_way _ c.args.more.now c.loop-way.way-index (record { number = 0; hold = Root 0 0 }) _ _ c.loop-way-test.true c.loop-way.invariant.ways c.in_ok-add_way.ensures.ways;
  found = c.in_ok-add_way.ensures.found;
}
