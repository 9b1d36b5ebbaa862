use Rattle.std.proofs.Common.{◌∙◌, ap, refl}
use Rattle.heap_lock.specs.Action.TheVariants.{Step}
use Rattle.heap_lock.specs.LockStates.{LockState, SeatModel}
use Rattle.session_text.specs.Replies.{reply_text}
use Rattle.seat_session.specs.JoinedAnswers.{ActsHeld}
use Rattle.seat_session.proofs.HeldSteps.{held_act_keeps_role, leaves_seen}
use Rattle.seat_session.proofs.held_heap.take_held.Goals as goal

pub returns-clause-acts : goal.returns-clause-acts
returns-clause-acts g c =
    leaves_seen g.L.Heap.config (λ (last : LockState) (x : SeatModel). ActsHeld g.L.Heap.config (Step c.args.event) c.args.kept.now c.args.seat.now (reply_text c.reply_to_act-reply.result) last x)
    c.act_held.new.self c.act_held.new.seat c.see_all.new.seat c.see_all.new.witness
    (c.act_held.result, c.reply_to_act-reply.result, c.act_held.ensures, c.reply_to_act-reply.ensures.reply, refl)
    c.see_all.ensures.heap c.see_all.ensures.seat c.see_all.ensures.sees

pub returns-clause-role : goal.returns-clause-role
returns-clause-role g c = ap (λ (s : SeatModel). s.role) c.see_all.ensures.seat ∙ held_act_keeps_role _ _ _ _ c.act_held.result _ _ c.act_held.ensures ∙ c.requires
