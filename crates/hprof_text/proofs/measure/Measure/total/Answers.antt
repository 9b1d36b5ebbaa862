use Rattle.std.proofs.Common.{◌<◌, arith}
use Rattle.hprof_text.proofs.AddedSizes.{total_without_open_body, total_with_open_body}
use Rattle.hprof_text.proofs.measure.Measure.total.Goals as goal

pub returns-then-self-eq0 : goal.returns-then-self-eq0
returns-then-self-eq0 c = total_without_open_body c.args.self c.if-self-eq0.true

pub returns-else-self-eq0 : goal.returns-else-self-eq0
returns-else-self-eq0 c = let h : 0 < c.args.self.body = omega (arith, c.if-self-eq0.false) in total_with_open_body c.args.self h
