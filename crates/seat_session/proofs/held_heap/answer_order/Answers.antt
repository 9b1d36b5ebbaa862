use Rattle.std.proofs.Common.{refl}
use Rattle.session_text.specs.Replies.{line_answer_text}
use Rattle.seat_session.proofs.HeldSteps.{done_under_lock}
use Rattle.seat_session.proofs.held_heap.answer_order.Goals as goal

pub returns-in-Some-clause-answers : goal.returns-in-Some-clause-answers
returns-in-Some-clause-answers g c =
    done_under_lock g.L.Heap.config c.in-Some.order c.args.line.now c.args.kept.now c.args.seat.now c.do_held.new.seat c.args.bookmarks.now c.args.bookmarks.now (line_answer_text c.do_held.result) c.args.order c.do_held.new.witness c.in-Some.is refl c.do_held.ensures.answers
