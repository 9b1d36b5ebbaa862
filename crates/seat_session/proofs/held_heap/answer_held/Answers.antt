use Rattle.std.proofs.Common.{◌∙◌, ap, refl}
use Rattle.heap_lock.specs.LockStates.{SeatModel}
use Rattle.session_text.specs.Replies.{line_answer_text}
use Rattle.seat_session.specs.JoinedAnswers.{order_obeyed}
use Rattle.seat_session.proofs.HeldSteps.{answer_under_lock, unread_under_lock}
use Rattle.seat_session.proofs.held_heap.answer_held.Goals as goal

pub answer_order-requires : goal.answer_order-requires
answer_order-requires g c = ap (λ (s : SeatModel). s.role) c.see_all.ensures.seat ∙ c.requires

pub returns-in-Ok-clause-answers : goal.returns-in-Ok-clause-answers
returns-in-Ok-clause-answers g c =
    answer_under_lock g.L.Heap.config c.args.obeys c.args.line.now c.args.witness.now c.answer_order.new.witness c.in-Ok.order (line_answer_text c.answer_order.result)
    c.args.kept.now c.see_all.new.kept c.args.seat.now c.see_all.new.seat c.answer_order.new.seat c.args.bookmarks.now c.answer_order.new.bookmarks
    c.see_all.ensures.heap c.see_all.ensures.begins c.see_all.ensures.same c.see_all.ensures.seat c.in-Ok.ensures c.answer_order.ensures.answers

pub returns-in-Err-clause-answers : goal.returns-in-Err-clause-answers
returns-in-Err-clause-answers g c =
    let order = order_obeyed c.args.obeys c.args.bookmarks.now c.see_all.new.kept.machine.trail.current c.args.line.now in
    let text = line_answer_text c.refuse_held.result in
    answer_under_lock g.L.Heap.config c.args.obeys c.args.line.now c.args.witness.now c.refuse_held.new.witness order text
    c.args.kept.now c.see_all.new.kept c.args.seat.now c.see_all.new.seat c.refuse_held.new.seat c.args.bookmarks.now c.args.bookmarks.now
    c.see_all.ensures.heap c.see_all.ensures.begins c.see_all.ensures.same c.see_all.ensures.seat refl
    (unread_under_lock g.L.Heap.config order c.args.line.now c.see_all.new.kept c.see_all.new.seat c.refuse_held.new.seat c.args.bookmarks.now text c.refuse_held.new.witness c.in-Err.ensures c.refuse_held.ensures.refused)

pub returns-in-Err-clause-role : goal.returns-in-Err-clause-role
returns-in-Err-clause-role g c = ap (λ (s : SeatModel). s.role) (c.refuse_held.ensures.seat ∙ c.see_all.ensures.seat) ∙ c.requires
