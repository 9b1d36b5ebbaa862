use Rattle.std.proofs.Common.{ap}
use Rattle.heap_step.specs.declared.Answer.{Answer}
use Rattle.heap_step.specs.declared.Undo.{Undo}
use Rattle.heap_step.specs.Apply.{refusal_of, state_after, answer_of}
use Rattle.heap_step.specs.Records.{undo_record}
use Rattle.heap_step.proofs.AppliedResults.{answered_event_is_applied}
use Rattle.heap_step.proofs.events.finish.Goals as goal

pub returns : goal.returns
unfolding refusal_of state_after answer_of undo_record
returns c = let h = c.in_ok-finished.ensures in answered_event_is_applied _ _ _ _ _ h.answered h.finished (ap Answer.Condemned h.condemned) (ap Undo.Finish h.log)
