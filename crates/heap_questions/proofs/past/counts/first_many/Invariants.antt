use Rattle.std.proofs.Common.{◌≡◌, ◌+◌}
use Rattle.heap_questions.specs.declared.wanted.Wanted.TheVariants.{OfClass}
use Rattle.heap_trail.specs.Trail.{rewound}
use Rattle.heap_questions.specs.FirstPlaces.{HasMany, IsFirstPlace}
use Rattle.heap_questions.specs.PastTrails.{IsPinAgo}
use Rattle.heap_questions.proofs.CountedObjects.{many_ago}
use Rattle.heap_questions.proofs.past.counts.first_many.Given as goal

abbrev pub invariant-loop-n : goal.invariant-loop-n
invariant-loop-n l = record {
  pin : IsPinAgo l.pin l.machine.trail (l.ago + l.n);
  many : l.many ≡ many_ago (rewound l.ago l.machine.trail) l.class l.n;
  first : IsFirstPlace (HasMany l.least (OfClass l.class)) (rewound l.ago l.machine.trail) l.n l.first;
}
