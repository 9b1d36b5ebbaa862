use Rattle.std.proofs.Common.{◌≡◌}
use Rattle.heap_tests.proofs.locked.live.read_along.Given as goal

abbrev pub invariant-loop : goal.invariant-loop
invariant-loop l = l.seat.meter ≡ l.progress
