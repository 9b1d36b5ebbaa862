use Rattle.heap_questions.proofs.UnreachedObjects.{stays_unreached}
use Rattle.heap_questions.proofs.past.losses.unreached_stays.Goals as goal

pub returns : goal.returns
returns c = stays_unreached
