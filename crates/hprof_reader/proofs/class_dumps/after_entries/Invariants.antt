use Rattle.std.proofs.Common.{◌≡◌, ◌-◌}
use Rattle.hprof_reader.specs.Entries.{after_entries}
use Rattle.hprof_reader.proofs.class_dumps.after_entries.Given as goal

abbrev pub invariant-loop : goal.invariant-loop
invariant-loop l = after_entries l.ids l.key (l.count - l.counter) l.rest ≡ after_entries l.ids l.key l.count l.bytes
