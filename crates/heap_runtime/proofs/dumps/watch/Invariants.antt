use Rattle.std.proofs.Common.{◌≡◌, ℕ, true}
use Rattle.heap_runtime.specs.Dumps.{Sees, SaidNo}
use Rattle.heap_runtime.proofs.dumps.watch.Given as goal

abbrev pub invariant-loop : goal.invariant-loop
invariant-loop g l = record {
  reads : l.reader.meter ≡ l.progress;
  asks : l.asker.meter ≡ l.cancel;
  sees : (n : ℕ) × Sees g.W.DumpWatcher.says l.initial.watcher n l.watcher;
  said : l.asker.known ≡ true → SaidNo g.W.DumpWatcher.says l.initial.watcher l.watcher;
}
