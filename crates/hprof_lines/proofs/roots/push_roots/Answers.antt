use Rattle.std.proofs.Common.{length}
use Rattle.hprof_lines.proofs.Puttings.{left_more, left_none}
use Rattle.hprof_lines.proofs.OpenedEvents.{opened_roots, closed_roots}
use Rattle.hprof_lines.proofs.roots.push_roots.Goals as goal

pub loop-i-preserved : goal.loop-i-preserved
loop-i-preserved c =
    left_more c.loop-i.lines _ _ _ _ _ (opened_roots c.args.class c.args.first (length c.args.numbers.now) c.loop-i.i c.args.numbers.now c.loop-i-test.true) c.loop-i.invariant c.in_ok-push_root.ensures

pub returns : goal.returns
returns c = left_none c.loop-i.lines _ _ (closed_roots c.args.class c.args.first (length c.args.numbers.now) c.loop-i.i c.args.numbers.now c.loop-i-test.false) c.loop-i.invariant
