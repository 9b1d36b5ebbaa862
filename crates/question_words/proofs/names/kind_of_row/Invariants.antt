use Rattle.std.proofs.Common.{◌≡◌, drop}
use Rattle.std.specs.Prelude.{find, ◌==◌}
use Rattle.heap_questions.specs.Histogram.{kind_row}
use Rattle.session_grammar.specs.Grammar.{all_kinds}
use Rattle.question_words.proofs.names.kind_of_row.Given as goal

abbrev pub invariant-loop-kind : goal.invariant-loop-kind
invariant-loop-kind l = find (λ k. kind_row k == l.index) all_kinds ≡ find (λ k. kind_row k == l.index) (drop l.kind-index all_kinds)
