use Rattle.heap_step.proofs.Ids.{ids_fit}
use Rattle.heap_step.proofs.ids_fit.Goals as goal

pub returns : goal.returns
returns c = ids_fit
