use Rattle.std.proofs.Common.{refl, ap}
use Rattle.heap_step.specs.declared.Answer.{Answer}
use Rattle.heap_step.specs.Apply.{refusal_of, state_after, answer_of}
use Rattle.heap_step.specs.Records.{undo_record}
use Rattle.heap_step.proofs.AppliedResults.{answered_event_is_applied}
use Rattle.heap_step.proofs.events.snap.Goals as goal

pub returns : goal.returns
unfolding refusal_of state_after answer_of undo_record
returns c = let h = c.in_ok-pushed.ensures in answered_event_is_applied _ _ _ _ _ h.answered h.snapped (ap Answer.Pushed h.pushed) refl
