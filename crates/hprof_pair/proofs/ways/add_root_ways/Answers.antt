use Rattle.hprof_pair.proofs.Opened.{one_root, no_roots}
use Rattle.hprof_pair.proofs.ways.add_root_ways.Goals as goal

pub loop-i-preserved : goal.loop-i-preserved
loop-i-preserved c = one_root c.args.first c.loop-i.i c.args.numbers.now _ _ _ c.loop-i-test.true c.loop-i.invariant c.in_ok-push.ensures.items

pub returns : goal.returns
returns c = no_roots c.args.first c.loop-i.i c.args.numbers.now _ _ c.loop-i-test.false c.loop-i.invariant
