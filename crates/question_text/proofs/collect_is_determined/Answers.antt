use Rattle.heap_orders.proofs.CycleSteps.{one_cycle}
use Rattle.question_text.proofs.collect_is_determined.Goals as goal

pub returns : goal.returns
returns c = one_cycle
