use Rattle.std.proofs.Common.{◌≡◌, drop}
use Rattle.std.specs.Prelude.{find}
use Rattle.std.specs.Str.{bytes_eq}
use Rattle.question_grammar.specs.declared.bookmarks.PlaceName.{PlaceName}
use Rattle.question_grammar.proofs.bookmarks.place_in.Given as goal

abbrev pub invariant-loop-name : goal.invariant-loop-name
invariant-loop-name l = find (λ (n : PlaceName). bytes_eq n.word l.word) l.names ≡ find (λ (n : PlaceName). bytes_eq n.word l.word) (drop l.name-index l.names)
