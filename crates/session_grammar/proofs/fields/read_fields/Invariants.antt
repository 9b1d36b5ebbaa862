use Rattle.std.proofs.Common.{◌≡◌, ◌+◌, ◌*◌, ◌≤◌, ◌++◌, length, map}
use Rattle.std.specs.Prelude.{option_map}
use Rattle.session_grammar.specs.Grammar.{words_of_line}
use Rattle.session_grammar.specs.Reads.{plain_fields, field_of_span, AreSpansWithin, IsRestOf}
use Rattle.session_grammar.proofs.fields.read_fields.Given as goal

abbrev pub invariant-loop-rest : goal.invariant-loop-rest
invariant-loop-rest l =
    IsRestOf l.fn.words l.words
    × (4 * length l.spans + length l.words ≤ 32768)
    × AreSpansWithin l.fn.words l.spans
    × (plain_fields (words_of_line l.fn.words) ≡ option_map (λ fs. map (field_of_span l.fn.words) l.spans ++ fs) (plain_fields (words_of_line l.words)))

abbrev pub decreases-loop-rest : goal.decreases-loop-rest
decreases-loop-rest l = length l.words
