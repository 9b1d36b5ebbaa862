use Rattle.std.proofs.Common.{◌≡◌, drop}
use Rattle.question_words.specs.Ids.{hex_from}
use Rattle.question_words.proofs.id.hex_value.Given as goal

abbrev pub invariant-loop-b : goal.invariant-loop-b
invariant-loop-b l = hex_from l.value (drop l.b-index l.digits) ≡ hex_from 0 l.digits
