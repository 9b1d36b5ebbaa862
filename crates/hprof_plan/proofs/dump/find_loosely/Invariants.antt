use Rattle.hprof_session.specs.Walks.{left}
use Rattle.hprof_plan.proofs.FoundTables.{IsSoFar}
use Rattle.hprof_plan.proofs.dump.find_loosely.Given as goal

abbrev pub invariant-loop : goal.invariant-loop
invariant-loop l = IsSoFar (left l.walk) l.counter (left l.at) l.found
