use Rattle.std.proofs.Common.{◌≡◌, take}
use Rattle.heap_runtime.specs.Totals.{capped_sum, claim_count, finished_count, made_count}
use Rattle.heap_runtime.proofs.totals.total_all.Given as goal

abbrev pub invariant-loop-actor : goal.invariant-loop-actor
invariant-loop-actor g l = record {
  claims : l.claims ≡ capped_sum claim_count (take l.actor-index l.actors);
  made : l.made ≡ capped_sum made_count (take l.actor-index l.actors);
  finished : l.finished ≡ capped_sum finished_count (take l.actor-index l.actors);
}
