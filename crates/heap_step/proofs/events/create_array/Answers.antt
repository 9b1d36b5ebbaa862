use Rattle.std.proofs.Common.{ap, ◌∙◌}
use Rattle.heap_step.specs.declared.Answer.{Answer}
use Rattle.heap_step.specs.Apply.{refusal_of, state_after, answer_of}
use Rattle.heap_step.specs.Records.{undo_record}
use Rattle.heap_step.proofs.AppliedResults.{answered_event_is_applied, new_record_is}
use Rattle.heap_step.proofs.events.create_array.Goals as goal

pub returns : goal.returns
unfolding refusal_of state_after answer_of undo_record
returns c = let h = c.in_ok-created.ensures in answered_event_is_applied _ _ _ _ _ h.answered h.made (c.record_new.ensures.answer ∙ ap Answer.Object h.held.0) (c.record_new.ensures.record ∙ new_record_is c.args.world.now c.args.m c.args.r _ c.in_ok-created.created.at c.in_ok-created.created.fresh c.in_ok-created.created.old h.placed h.held.1)
