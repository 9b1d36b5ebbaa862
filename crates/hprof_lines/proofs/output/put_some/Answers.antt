use Rattle.hprof_lines.proofs.Puttings.{some_none, some_all}
use Rattle.hprof_lines.proofs.output.put_some.Goals as goal

pub returns-then-size-lt-ENOUGH : goal.returns-then-size-lt-ENOUGH
returns-then-size-lt-ENOUGH g c = some_none _ _

pub returns : goal.returns
returns g c = some_all _ _ _ _ _ c.put_lines.ensures.put c.put_lines.ensures.dropped
