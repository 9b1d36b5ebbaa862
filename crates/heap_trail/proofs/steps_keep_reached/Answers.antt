use Rattle.heap_trail.proofs.ReachedSteps.{keeps_reached}
use Rattle.heap_trail.proofs.steps_keep_reached.Goals as goal

pub returns : goal.returns
returns c = keeps_reached
