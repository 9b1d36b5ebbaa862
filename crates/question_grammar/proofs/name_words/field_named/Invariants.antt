use Rattle.std.proofs.Common.{◌≡◌, ◌+◌, drop}
use Rattle.std.specs.List.{position_from}
use Rattle.std.specs.Str.{bytes_eq}
use Rattle.heap_class.specs.declared.Field.{Field}
use Rattle.heap_class.specs.Classes.{fields_of}
use Rattle.question_grammar.proofs.name_words.field_named.Given as goal

abbrev pub invariant-loop-field : goal.invariant-loop-field
invariant-loop-field l =
    position_from (λ (f : Field). bytes_eq f.name l.name) l.first (fields_of l.classes l.class) ≡ position_from (λ (f : Field). bytes_eq f.name l.name) (l.first + l.field) (drop l.field (fields_of l.classes l.class))
