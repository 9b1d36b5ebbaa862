use Rattle.std.proofs.Common.{◌∙◌, ap}
use Rattle.std.specs.Prelude.{Some}
use Rattle.heap_lock.specs.LockStates.{LockState, SeatModel}
use Rattle.session_text.specs.Replies.{line_answer_text}
use Rattle.question_words.specs.Moments.{steps_ago}
use Rattle.seat_session.specs.JoinedAnswers.{RewindsHeld}
use Rattle.seat_session.proofs.HeldSteps.{leaves_seen}
use Rattle.seat_session.proofs.held_heap.rewind_held_to.Goals as goal

pub returns-clause-rewinds : goal.returns-clause-rewinds
returns-clause-rewinds g c =
    let a = c.answer_to_rewind-answer in
    leaves_seen g.L.Heap.config (λ (last : LockState) (x : SeatModel). RewindsHeld g.L.Heap.config (steps_ago (Some c.args.place) c.args.kept.now.machine.trail) c.args.kept.now c.args.seat.now (line_answer_text a.result) last x)
    a.new.kept a.new.seat c.see_all.new.seat c.see_all.new.witness a.ensures.rewinds c.see_all.ensures.heap c.see_all.ensures.seat c.see_all.ensures.sees

pub returns-clause-role : goal.returns-clause-role
returns-clause-role g c = ap (λ (s : SeatModel). s.role) c.see_all.ensures.seat ∙ c.answer_to_rewind-answer.ensures.role
