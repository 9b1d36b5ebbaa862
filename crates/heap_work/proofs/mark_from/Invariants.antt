use Rattle.heap_work.specs.Gates.{LetsBegin}
use Rattle.heap_work.proofs.WorkerTurns.{IsMarking}
use Rattle.heap_work.proofs.mark_from.Given as goal

abbrev pub invariant-loop-turn : goal.invariant-loop-turn
invariant-loop-turn g l =
    IsMarking l.fn.first l.initial.seat l.seat l.stage l.turn
    × LetsBegin g.G.Gate.says l.initial.gate l.turn l.gate
