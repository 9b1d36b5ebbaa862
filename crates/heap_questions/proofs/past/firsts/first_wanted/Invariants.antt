use Rattle.std.proofs.Common.{◌+◌}
use Rattle.heap_trail.specs.Trail.{rewound}
use Rattle.heap_questions.specs.FirstPlaces.{HasWanted}
use Rattle.heap_questions.specs.PastTrails.{IsPinAgo}
use Rattle.heap_questions.proofs.FirstPlaces.{IsFirstUnless}
use Rattle.heap_questions.proofs.past.firsts.first_wanted.Given as goal

abbrev pub invariant-loop-n : goal.invariant-loop-n
invariant-loop-n l = record {
  pin : IsPinAgo l.pin l.machine.trail (l.ago + l.n);
  first : IsFirstUnless (HasWanted l.wanted) (rewound l.ago l.machine.trail) l.n l.first;
}
