use Rattle.std.proofs.Common.{◌≡◌, drop}
use Rattle.std.specs.List.{position_from}
use Rattle.std.specs.Str.{bytes_eq}
use Rattle.heap_class.specs.Classes.{Class}
use Rattle.question_grammar.proofs.name_words.class_named.Given as goal

abbrev pub invariant-loop-class : goal.invariant-loop-class
invariant-loop-class l = position_from (λ (c : Class). bytes_eq c.name l.name) 0 l.classes ≡ position_from (λ (c : Class). bytes_eq c.name l.name) l.class (drop l.class l.classes)
