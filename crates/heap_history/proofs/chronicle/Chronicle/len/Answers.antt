use Rattle.std.proofs.Common.{length, ap, arith}
use Rattle.heap_history.specs.Chronicles.{ChronicleState, entries_of}
use Rattle.heap_history.proofs.Rolls.{kept_entries_and_dropped_counted}
use Rattle.heap_history.proofs.chronicle.Chronicle.len.Goals as goal

pub returns : goal.returns
returns c =
    let count = kept_entries_and_dropped_counted c.self.inside.older.entries c.self.inside.newer.entries c.self.inside.dropped (entries_of c.self.inside.noted.items) c.self.invariant.0 in
    omega (arith, c.len.ensures, c.len-2.ensures, count, ap (λ (s : ChronicleState). length s.entries) c.self.view_is)
