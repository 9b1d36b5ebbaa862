use Rattle.std.proofs.Common.{drop, length}
use Rattle.heap_history.specs.Audits.{AllAreKept}
use Rattle.heap_history.specs.Chronicles.{dropped_of}
use Rattle.heap_history.proofs.audits.are_kept.Given as goal

abbrev pub invariant-loop-claim : goal.invariant-loop-claim
invariant-loop-claim l =
    (AllAreKept (dropped_of l.chronicle.rolls (length l.chronicle.entries)) l.chronicle.entries l.claims → AllAreKept (dropped_of l.chronicle.rolls (length l.chronicle.entries)) l.chronicle.entries (drop l.claim-index l.claims))
    × (AllAreKept (dropped_of l.chronicle.rolls (length l.chronicle.entries)) l.chronicle.entries (drop l.claim-index l.claims) → AllAreKept (dropped_of l.chronicle.rolls (length l.chronicle.entries)) l.chronicle.entries l.claims)
