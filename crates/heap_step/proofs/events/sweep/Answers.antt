use Rattle.heap_step.specs.Apply.{refusal_of, state_after, answer_of}
use Rattle.heap_step.specs.Records.{undo_record}
use Rattle.heap_step.proofs.AppliedResults.{answered_event_is_applied, sweep_record_is, sweep_answer_is}
use Rattle.heap_step.proofs.events.sweep.Goals as goal

pub returns : goal.returns
unfolding refusal_of state_after answer_of undo_record
returns c =
    let h = c.in_ok-reclaimed.ensures in
    let w = c.args.world.now in
    answered_event_is_applied _ _ _ _ _ h.answered h.swept
    (sweep_answer_is w c.args.region c.in_ok-reclaimed.reclaimed _ _ h.reclaimed c.dead.ensures c.is_emptied.ensures)
    (sweep_record_is w c.args.region c.in_ok-reclaimed.reclaimed _ h.reclaimed c.sweep_record.ensures.swept c.sweep_record.ensures.emptied)
