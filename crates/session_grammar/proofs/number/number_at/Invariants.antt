use Rattle.std.proofs.Common.{◌^◌, ◌-◌, ◌≤◌, ◌<◌, drop}
use Rattle.session_grammar.specs.Reads.{IsReadTo}
use Rattle.session_grammar.proofs.number.number_at.Given as goal

abbrev pub invariant-loop-size : goal.invariant-loop-size
invariant-loop-size l = IsReadTo l.text (drop l.size l.text) l.size l.value × (l.size ≤ l.sure) × (l.value < 10 ^ l.size)

abbrev pub decreases-loop-size : goal.decreases-loop-size
decreases-loop-size l = l.sure - l.size
