use Rattle.std.proofs.Common.{drop, length}
use Rattle.heap_history.specs.Chronicles.{dropped_of}
use Rattle.heap_history.specs.Audits.{AuditsKept}
use Rattle.heap_history.proofs.audits.all_agree.Given as goal

abbrev pub invariant-loop-claim : goal.invariant-loop-claim
invariant-loop-claim l =
    (AuditsKept (dropped_of l.chronicle.rolls (length l.chronicle.entries)) l.chronicle.entries 0 l.claims → AuditsKept (dropped_of l.chronicle.rolls (length l.chronicle.entries)) l.chronicle.entries l.last (drop l.claim-index l.claims))
    × (AuditsKept (dropped_of l.chronicle.rolls (length l.chronicle.entries)) l.chronicle.entries l.last (drop l.claim-index l.claims) → AuditsKept (dropped_of l.chronicle.rolls (length l.chronicle.entries)) l.chronicle.entries 0 l.claims)
