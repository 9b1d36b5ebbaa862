use Rattle.std.proofs.Common.{◌∙◌}
use Rattle.heap_step.specs.Apply.{refusal_of, state_after, answer_of}
use Rattle.heap_step.specs.Records.{undo_record}
use Rattle.heap_step.proofs.AppliedResults.{answered_event_is_applied, slot_answer_is, reg_record_is}
use Rattle.heap_step.proofs.events.load.Goals as goal

pub returns : goal.returns
unfolding refusal_of state_after answer_of undo_record
returns c = let h = c.in_ok-loaded.ensures in answered_event_is_applied _ _ _ _ _ h.answered h.loaded (c.slot_answer.ensures ∙ slot_answer_is c.args.world.now _ c.args.slot c.in_ok-loaded.loaded.word c.in_ok-loaded.loaded.reference h.word h.reference) (c.reg_record.ensures ∙ reg_record_is c.args.world.now c.args.m c.args.to c.in_ok-loaded.loaded.old h.old)
