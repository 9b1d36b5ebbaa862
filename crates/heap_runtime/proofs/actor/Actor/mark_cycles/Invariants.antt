use Rattle.heap_runtime.specs.Cycles.{StepsInTurn, MarksCycle}
use Rattle.heap_runtime.proofs.actor.Actor.mark_cycles.Given as goal

abbrev pub invariant-loop-cycle : goal.invariant-loop-cycle
invariant-loop-cycle g l = StepsInTurn (MarksCycle g.L.Heap.config) l.cycle l.initial.self l.self
