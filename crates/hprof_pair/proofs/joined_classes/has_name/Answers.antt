use Rattle.std.proofs.Common.{sym, ◌∙◌}
use Rattle.hprof_pair.proofs.JoinedLines.{name_found, no_name_found, no_name_more}
use Rattle.hprof_pair.proofs.joined_classes.has_name.Goals as goal

pub loop-k-preserved : goal.loop-k-preserved
loop-k-preserved c = no_name_more c.args.name.now c.args.classes.now c.loop-k.k _ (rw c.len-k-end.ensures.value at c.loop-k-test.true) c.name.ensures.value c.loop-k.invariant (sym c.eq.ensures ∙ c.if-eq.false)

pub returns-then-eq : goal.returns-then-eq
returns-then-eq c = name_found c.args.name.now c.args.classes.now c.loop-k.k _ (rw c.len-k-end.ensures.value at c.loop-k-test.true) c.name.ensures.value (sym c.eq.ensures ∙ c.if-eq.true)

pub returns : goal.returns
returns c = no_name_found c.args.name.now c.args.classes.now c.loop-k.k (rw c.len-k-end.ensures.value at c.loop-k-test.false) c.loop-k.invariant
