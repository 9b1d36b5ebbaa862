use Rattle.heap_step.proofs.EventLaws.{stays_found}
use Rattle.heap_step.proofs.stays_found.Goals as goal

pub returns : goal.returns
returns c = stays_found
