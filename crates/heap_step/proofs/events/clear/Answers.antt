use Rattle.std.proofs.Common.{refl, ◌∙◌}
use Rattle.heap_step.specs.Apply.{refusal_of, state_after, answer_of}
use Rattle.heap_step.specs.Records.{undo_record}
use Rattle.heap_step.proofs.AppliedResults.{answered_event_is_applied, reg_record_is}
use Rattle.heap_step.proofs.events.clear.Goals as goal

pub returns : goal.returns
unfolding refusal_of state_after answer_of undo_record
returns c = let h = c.in_ok-held.ensures in answered_event_is_applied _ _ _ _ _ h.answered h.cleared refl (c.reg_record.ensures ∙ reg_record_is c.args.world.now c.args.m c.args.r c.in_ok-held.held h.old)
