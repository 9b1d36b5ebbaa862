use Rattle.hprof_session.specs.Walks.{left}
use Rattle.hprof_session.proofs.Walked.{IsWalked}
use Rattle.hprof_session.proofs.whole_walk.walk_over.Given as goal

abbrev pub invariant-loop : goal.invariant-loop
invariant-loop l = IsWalked (left l.walk) l.items l.counter (left l.at)
