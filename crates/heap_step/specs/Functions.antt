-- For proofs: all functions of this crate, opened at once, for facts by computation.
use Rattle.heap_step.specs.Apply.{object_or_null, reg_record, new_record, refusal_of, state_after, answer_of, applied_unless, applied, event_may_grow}
use Rattle.heap_step.specs.Records.{undo_record, weight, undone}

-- nothing of its own: to unfold it is to unfold the functions above
unfoldable pub step_functions : Unit {0}
unfolding refusal_of state_after object_or_null answer_of applied_unless applied event_may_grow reg_record new_record undo_record weight undone
step_functions = tt
