use Rattle.std.proofs.Common.{◌≡◌, length}
use Rattle.std.specs.Prelude.{is_some}
use Rattle.session_grammar.specs.Grammar.{words_of_line}
use Rattle.session_grammar.specs.Reads.{plain_fields}
use Rattle.question_grammar.proofs.class_event.are_fields.Given as goal

abbrev pub invariant-loop-word : goal.invariant-loop-word
invariant-loop-word l = is_some (plain_fields (words_of_line l.fn.words)) ≡ is_some (plain_fields (words_of_line l.words))

abbrev pub decreases-loop-word : goal.decreases-loop-word
decreases-loop-word l = length (words_of_line l.words)
