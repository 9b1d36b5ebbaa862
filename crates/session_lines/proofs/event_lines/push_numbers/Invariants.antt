use Rattle.std.proofs.Common.{◌≡◌, ◌++◌, map, take}
use Rattle.std.specs.Prelude.{decimal}
use Rattle.session_lines.specs.EventLines.{and_words}
use Rattle.session_lines.proofs.event_lines.push_numbers.Given as goal

abbrev pub invariant-loop-n : goal.invariant-loop-n
invariant-loop-n l = l.text.items ≡ l.fn.text.items ++ and_words (map decimal (take l.n-index l.numbers))
