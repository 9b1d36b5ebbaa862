use Rattle.std.proofs.Common.{refl, arith}
use Rattle.hprof_pair.proofs.JoinedLines.{joined_begins, joined_next}
use Rattle.hprof_pair.proofs.joined_classes.join_classes.Goals as goal

pub loop-k-init : goal.loop-k-init
loop-k-init c = joined_begins c.args.limits c.args.first _ refl c.in_ok-known.ensures c.new.ensures.items c.new-2.ensures.items

pub loop-k-preserved : goal.loop-k-preserved
loop-k-preserved c =
    joined_next c.args.limits c.args.first c.args.second.now c.loop-k.k c.loop-k.joined _ (omega (arith, c.loop-k-test.true, c.requires.count)) c.loop-k.invariant c.in_ok-join_class.ensures
