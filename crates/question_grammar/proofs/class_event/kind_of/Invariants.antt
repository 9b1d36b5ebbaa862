use Rattle.std.proofs.Common.{◌≡◌, drop}
use Rattle.std.specs.Prelude.{find}
use Rattle.std.specs.Str.{bytes_eq}
use Rattle.heap_class.specs.Kinds.{kind_word}
use Rattle.session_grammar.specs.Grammar.{kind_of_word, all_kinds}
use Rattle.question_grammar.proofs.class_event.kind_of.Given as goal

abbrev pub invariant-loop-kind : goal.invariant-loop-kind
invariant-loop-kind l = kind_of_word l.word ≡ find (λ k. bytes_eq (kind_word k) l.word) (drop l.kind-index all_kinds)
