use Rattle.hprof_lines.proofs.Puttings.{puts_part, puts_whole}
use Rattle.hprof_lines.proofs.output.put_text.Goals as goal

pub returns-then-put-size : goal.returns-then-put-size
returns-then-put-size g c = puts_part _ _ _ _ c.put_all-put.ensures c.if-put-size.true

pub returns : goal.returns
returns g c = puts_whole _ _ _ _ c.put_all-put.ensures c.if-put-size.false
