use Rattle.std.proofs.Common.{◌≡◌, ◌++◌, length}
use Rattle.std.specs.Prelude.{option_map}
use Rattle.session_grammar.specs.Grammar.{words_of_line}
use Rattle.session_grammar.specs.Reads.{plain_fields}
use Rattle.question_grammar.proofs.class_event.fields_in.Given as goal

abbrev pub invariant-loop-word : goal.invariant-loop-word
invariant-loop-word l = plain_fields (words_of_line l.fn.words) ≡ option_map (λ fs. l.copies.items ++ fs) (plain_fields (words_of_line l.words))

abbrev pub decreases-loop-word : goal.decreases-loop-word
decreases-loop-word l = length (words_of_line l.words)
