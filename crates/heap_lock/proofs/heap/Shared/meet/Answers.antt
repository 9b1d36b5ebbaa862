use Rattle.heap_lock.proofs.WitnessedCalls.{shown_calls_are_met}
use Rattle.heap_lock.proofs.heap.Shared.meet.Goals as goal

pub returns-clause-met : goal.returns-clause-met
returns-clause-met g c = shown_calls_are_met g.L.Heap.config c.args.seat.now c.meet.new.witness c.deref_mut.result.now c.meet.ensures.known c.meet.ensures.witness
