use Rattle.heap_world.proofs.CycleFindings.{reached_found}
use Rattle.heap_step.proofs.finds_reached.Goals as goal

pub returns : goal.returns
returns c = λ w legal marking. reached_found w (legal.tricolour marking)
