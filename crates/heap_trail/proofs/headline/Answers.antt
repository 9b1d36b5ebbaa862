use Rattle.heap_trail.proofs.Together.{headline_of_machines}
use Rattle.heap_trail.proofs.headline.Goals as goal

pub returns : goal.returns
returns c = headline_of_machines
