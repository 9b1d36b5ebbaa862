use Rattle.heap_questions.proofs.ImagePaths.{path_is_reach}
use Rattle.heap_questions.proofs.past.losses.path_is_reach.Goals as goal

pub returns : goal.returns
returns c = path_is_reach
