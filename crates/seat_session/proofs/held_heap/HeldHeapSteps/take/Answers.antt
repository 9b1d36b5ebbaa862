use Rattle.std.proofs.Common.{◌∙◌, ap, inr}
use Rattle.heap_lock.specs.LockStates.{SeatModel, LockState}
use Rattle.seat_session.proofs.HeldSteps.{outcome_answered_is_reply, step_reply_is_never_place, allowed_act_never_refused, refused_act_has_no_entry, none_gained, step_gained}
use Rattle.seat_session.proofs.held_heap.HeldHeapSteps.take.Goals as goal

pub unreachable-requires : goal.unreachable-requires
unreachable-requires g c =
    let moves = c.in-Ok.ensures.moves in
    allowed_act_never_refused _ _ c.args.event _ _ c.requires.allowed moves.0 moves.2.enters c.in-Refused.is

pub unreachable-requires-in-Place : goal.unreachable-requires-in-Place
unreachable-requires-in-Place g c = step_reply_is_never_place _ _ c.args.event _ _ c.in-Ok.ensures.moves.0 c.in-Place.is

pub returns-in-Answered-clause-done : goal.returns-in-Answered-clause-done
returns-in-Answered-clause-done g c = outcome_answered_is_reply _ _ c.args.event _ _ c.in-Ok.ensures.moves.0 c.in-Answered.is

pub returns-in-Answered-clause-still : goal.returns-in-Answered-clause-still
returns-in-Answered-clause-still g c = ap (λ (s : SeatModel). s.role) c.in-Ok.ensures.act.5 ∙ c.requires.may

pub returns-in-Answered-clause-taken : goal.returns-in-Answered-clause-taken
returns-in-Answered-clause-taken g c = λ h b before p.
    step_gained h.kept.now b before c.args.self.now.kept.now c.args.by.now c.args.event c.in-Answered.answer c.in-Ok.receipt _ _ c.in-Ok.ensures.act c.in-Answered.is p

pub returns-in-Err-clause-still : goal.returns-in-Err-clause-still
returns-in-Err-clause-still g c = ap (λ (s : SeatModel). s.role) c.in-Err.ensures.unchanged.1 ∙ c.requires.may

pub returns-in-Err-clause-refused : goal.returns-in-Err-clause-refused
returns-in-Err-clause-refused g c = inr (refused_act_has_no_entry c.args.self.now.kept.now _ c.in-Err.ensures.refused)

pub returns-in-Err-clause-unchanged : goal.returns-in-Err-clause-unchanged
returns-in-Err-clause-unchanged g c = (
  ap (λ (k : LockState). k.machine) c.in-Err.ensures.unchanged.0,
  λ h b before p. none_gained h.kept.now b before c.args.self.now.kept.now c.args.by.now _ _ c.in-Err.ensures.unchanged.0 c.in-Err.ensures.unchanged.1 p,
)
