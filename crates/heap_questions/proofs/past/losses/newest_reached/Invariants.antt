use Rattle.std.proofs.Common.{◌-◌, ◌≤◌}
use Rattle.heap_questions.specs.Losses.{LeavesOut, UnreachedFor}
use Rattle.heap_questions.proofs.past.losses.newest_reached.Given as goal

abbrev pub invariant-loop-newest : goal.invariant-loop-newest
invariant-loop-newest l = record {
  ordered : l.low ≤ l.last;
  within : l.last ≤ l.fn.oldest;
  below : UnreachedFor l.past l.fn.at l.low;
  above : LeavesOut l.past l.fn.at l.fn.oldest l.last l.newest;
}

abbrev pub decreases-loop-newest : goal.decreases-loop-newest
decreases-loop-newest l = l.last - l.low
