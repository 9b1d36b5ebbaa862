use Rattle.std.proofs.Common.{[], true, false, sym, ◌∙◌}
use Rattle.std.specs.Str.{bytes_eq}
use Rattle.hprof_pair.proofs.JoinedLines.{number_of_the_first, found_nowhere, other_before, same_line}
use Rattle.hprof_pair.proofs.joined_classes.number_of_line.Goals as goal

pub loop-k-preserved : goal.loop-k-preserved
loop-k-preserved c = other_before (bytes_eq c.args.line.now) c.args.lines.now c.loop-k.k [] c.loop-k.invariant (same_line c.args.line.now c.index-lines-k.result c.args.lines.now c.loop-k.k false c.loop-k-test.true c.index-lines-k.is (sym c.eq.ensures ∙ c.if-eq.false))

pub returns-then-eq : goal.returns-then-eq
returns-then-eq c = number_of_the_first (bytes_eq c.args.line.now) c.args.lines.now c.loop-k.k [] c.loop-k-test.true c.loop-k.invariant (same_line c.args.line.now c.index-lines-k.result c.args.lines.now c.loop-k.k true c.loop-k-test.true c.index-lines-k.is (sym c.eq.ensures ∙ c.if-eq.true))

pub returns : goal.returns
returns c = found_nowhere (bytes_eq c.args.line.now) c.args.lines.now c.loop-k.k [] c.loop-k-test.false c.loop-k.auto.k-end c.loop-k.invariant
