use Rattle.std.proofs.Common.{◌^◌, ◌-◌, ◌≤◌, ◌<◌}
use Rattle.session_grammar.specs.Reads.{IsReadIn}
use Rattle.session_grammar.proofs.number.digits_on.Given as goal

abbrev pub invariant-loop-size : goal.invariant-loop-size
invariant-loop-size l = IsReadIn l.text l.at l.value l.size × (l.size ≤ l.sure) × (l.value < 10 ^ l.size)

abbrev pub decreases-loop-size : goal.decreases-loop-size
decreases-loop-size l = l.sure - l.size
