use Rattle.std.proofs.Common.{◌∙◌, ap, refl, sym, subst}
use Rattle.std.specs.Prelude.{Some}
use Rattle.heap_lock.specs.Machine.{Machine}
use Rattle.session_text.specs.Replies.{reply_text}
use Rattle.question_words.specs.Moments.{steps_ago}
use Rattle.seat_session.specs.JoinedAnswers.{RewindsHeld}
use Rattle.seat_session.proofs.HeldSteps.{held_act_keeps_role}
use Rattle.seat_session.proofs.held_heap.answer_to_rewind.Goals as goal

pub returns-in-Ok-clause-rewinds : goal.returns-in-Ok-clause-rewinds
returns-in-Ok-clause-rewinds g c =
    subst (λ x. RewindsHeld g.L.Heap.config x c.args.kept.now c.args.seat.now (reply_text c.reply_to_act.result) c.rewind_held.new.self c.rewind_held.new.seat)
    (sym c.in-Ok.is ∙ c.steps_ago.ensures.steps ∙ ap (λ (m : Machine). steps_ago (Some c.args.place) m.trail) c.machine.ensures)
    (c.rewind_held.result, c.reply_to_act.result, c.rewind_held.ensures, c.reply_to_act.ensures.reply, refl)

pub returns-in-Ok-clause-role : goal.returns-in-Ok-clause-role
returns-in-Ok-clause-role g c = held_act_keeps_role _ _ _ _ c.rewind_held.result _ _ c.rewind_held.ensures ∙ c.requires
