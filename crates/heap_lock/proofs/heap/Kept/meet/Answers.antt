use Rattle.heap_lock.proofs.WitnessedCalls.{seat_share_knows_all_calls}
use Rattle.heap_lock.proofs.heap.Kept.meet.Goals as goal

pub returns-clause-known : goal.returns-clause-known
returns-clause-known g c = seat_share_knows_all_calls g.L.Heap.config c.args.seat.now c.args.self.now c.agree.new.self c.agree.ensures.share c.agree.ensures.same c.show.ensures.heap
