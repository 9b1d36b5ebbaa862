use Rattle.heap_trail.proofs.KeptTrails.{trails_stay}
use Rattle.heap_trail.proofs.trails_stay_legal.Goals as goal

pub returns : goal.returns
returns c = trails_stay
