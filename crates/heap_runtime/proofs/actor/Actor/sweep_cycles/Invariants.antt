use Rattle.heap_runtime.specs.Cycles.{StepsInTurn, SweepsCycle}
use Rattle.heap_runtime.proofs.actor.Actor.sweep_cycles.Given as goal

abbrev pub invariant-loop-cycle : goal.invariant-loop-cycle
invariant-loop-cycle g l = StepsInTurn (SweepsCycle g.L.Heap.config) l.cycle l.initial.self l.self
