use Rattle.std.proofs.Common.{refl}
use Rattle.heap_step.specs.Apply.{refusal_of, state_after, answer_of}
use Rattle.heap_step.specs.Records.{undo_record}
use Rattle.heap_step.proofs.AppliedResults.{answered_event_is_applied}
use Rattle.heap_step.proofs.events.store.Goals as goal

pub returns : goal.returns
unfolding refusal_of state_after answer_of undo_record
returns c = let h = c.in_ok-replaced.ensures in answered_event_is_applied _ _ _ _ _ h.answered h.stored refl (cc (h.slot.placed, h.slot.held, h.logged))
