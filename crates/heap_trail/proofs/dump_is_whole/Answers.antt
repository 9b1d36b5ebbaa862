use Rattle.heap_trail.proofs.Whole.{dump_is_whole}
use Rattle.heap_trail.proofs.dump_is_whole.Goals as goal

pub returns : goal.returns
returns c = dump_is_whole
