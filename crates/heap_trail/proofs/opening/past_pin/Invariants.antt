use Rattle.heap_trail.proofs.PastWalks.{IsWalkedTo}
use Rattle.heap_trail.proofs.opening.past_pin.Given as goal

abbrev pub invariant-loop-i : goal.invariant-loop-i
invariant-loop-i l = IsWalkedTo l.pin l.world l.records.items l.i
