use Rattle.std.proofs.Common.{◌≡◌, None, replicate}
use Rattle.heap_region.proofs.headers.add_vacant.Given as goal

abbrev pub invariant-loop : goal.invariant-loop
invariant-loop l = l.kept.items ≡ replicate l.counter None
