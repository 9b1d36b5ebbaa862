use Rattle.heap_lock.proofs.SharedActs.{shared_done, shared_refused}
use Rattle.heap_lock.proofs.heap.Kept.do_shared.Goals as goal

pub returns-in-Ok-clause-act : goal.returns-in-Ok-clause-act
returns-in-Ok-clause-act g c =
    let e = c.in-Ok.ensures in
    shared_done g.L.Heap.config g.L.Heap.rolls c.args.action c.args.seat.now c.do_held.new.seat c.in-Ok.receipt c.args.self.now c.do_held.new.self c.is_heap.ensures e.share e.moves e.act e.stands

pub returns-in-Err-clause-act : goal.returns-in-Err-clause-act
returns-in-Err-clause-act g c =
    let e = c.in-Err.ensures in
    shared_refused g.L.Heap.config g.L.Heap.rolls c.args.action c.args.seat.now c.do_held.new.seat c.agree.new.seat c.in-Err.refusal c.args.self.now c.do_held.new.self c.is_heap.ensures e.refused e.unchanged.0 e.unchanged.1 c.agree.ensures.share c.agree.ensures.seat
