use Rattle.hprof_pair.proofs.JoinedLines.{all_lines, line_more}
use Rattle.hprof_pair.proofs.joined_classes.lines_of.Goals as goal

pub loop-k-preserved : goal.loop-k-preserved
loop-k-preserved c =
    line_more c.args.classes.now c.loop-k.k _ c.in_ok-line.line _ _ (rw c.len-k-end.ensures.value at c.loop-k-test.true) c.in_ok-line.ensures c.sup.ensures.value c.loop-k.invariant c.in_ok-push.ensures.items

pub returns : goal.returns
returns c = all_lines c.args.classes.now c.loop-k.k _ (rw c.len-k-end.ensures.value at c.loop-k-test.false) c.loop-k.invariant
