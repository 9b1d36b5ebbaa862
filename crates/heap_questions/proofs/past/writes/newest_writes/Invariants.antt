use Rattle.std.proofs.Common.{◌+◌}
use Rattle.std.specs.Prelude.{reverse}
use Rattle.heap_trail.specs.Trail.{rewound}
use Rattle.heap_questions.specs.PastTrails.{IsPinAgo}
use Rattle.heap_questions.specs.SlotWrites.{AreLastWrites}
use Rattle.heap_questions.proofs.past.writes.newest_writes.Given as goal

abbrev pub invariant-loop-n : goal.invariant-loop-n
invariant-loop-n l = record {
  pin : IsPinAgo l.pin l.machine.trail (l.ago + l.n);
  told : AreLastWrites (rewound l.ago l.machine.trail) l.class l.slot l.n (reverse l.writes.items);
}
