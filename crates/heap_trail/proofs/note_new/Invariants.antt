use Rattle.heap_trail.proofs.EachPin.{KeptUpTo}
use Rattle.heap_trail.proofs.note_new.Given as goal

abbrev pub invariant-loop-i : goal.invariant-loop-i
invariant-loop-i l = KeptUpTo l.left l.world l.i l.fn.pins l.pins
