use Rattle.heap_mark.specs.MarkSteps.{each_region}
use Rattle.heap_mark.proofs.finish.turn_all_back.Goals as goal

pub returns : goal.returns
unfolding each_region
returns c = c.turn_back.ensures
