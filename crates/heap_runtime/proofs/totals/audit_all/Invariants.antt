use Rattle.std.proofs.Common.{◌≡◌, take}
use Rattle.heap_runtime.specs.Actors.{AllHold}
use Rattle.heap_runtime.proofs.totals.audit_all.Given as goal

abbrev pub invariant-loop-i : goal.invariant-loop-i
invariant-loop-i g l = record {
  same : l.actors ≡ l.initial.actors;
  hold : AllHold g.L.Heap.config g.L.Heap.rolls l.initial.witness (take l.i l.initial.actors) l.witness;
}
