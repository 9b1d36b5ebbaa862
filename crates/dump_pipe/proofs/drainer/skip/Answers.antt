use Rattle.dump_pipe.proofs.DrainSteps.{skipping_goes_past_part}
use Rattle.dump_pipe.proofs.drainer.skip.Goals as goal

pub loop-preserved-in_default : goal.loop-preserved-in_default
loop-preserved-in_default g c = (tt, tt, c.in_default.ensures.end, skipping_goes_past_part _ _ _ c.in_default.field-0 c.loop.invariant.3 c.in_default.ensures.got)
