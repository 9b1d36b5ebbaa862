use Rattle.heap_region.proofs.Runs.{IsScanned}
use Rattle.heap_region.proofs.turned_slots.Slots.first_run.Given as goal

abbrev pub invariant-loop-region : goal.invariant-loop-region
invariant-loop-region l = IsScanned l.self l.start l.count l.first l.region
