use Rattle.std.proofs.Common.{take}
use Rattle.hprof_pair.specs.JoinedClasses.{classes_joined}
use Rattle.hprof_pair.specs.JoinedSoFar.{AreJoined}
use Rattle.hprof_pair.proofs.joined_classes.join_classes.Given as goal

abbrev pub invariant-loop-k : goal.invariant-loop-k
invariant-loop-k l = AreJoined l.fn.first l.joined (classes_joined l.limits l.fn.first (take l.k l.second))
