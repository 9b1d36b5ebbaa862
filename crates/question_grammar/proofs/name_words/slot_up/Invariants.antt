use Rattle.std.proofs.Common.{◌≡◌, ◌-◌, ◌*◌, ◌<◌, ◌≤◌, Some, length}
use Rattle.std.specs.Prelude.{IfSome}
use Rattle.std.specs.List.{position_from}
use Rattle.std.specs.Str.{bytes_eq}
use Rattle.heap_class.specs.declared.Field.{Field}
use Rattle.heap_class.specs.Limits.{slot_limit}
use Rattle.question_words.specs.Names.{fields_up}
use Rattle.question_grammar.proofs.name_words.slot_up.Given as goal

abbrev pub invariant-loop-depth : goal.invariant-loop-depth
invariant-loop-depth l = record {
  there : IfSome l.here (λ k. k < length l.classes);
  few : l.first ≤ slot_limit * l.depth;
  found : position_from (λ (f : Field). bytes_eq f.name l.name) l.first (fields_up l.classes (length l.classes - l.depth) l.here) ≡ position_from (λ (f : Field). bytes_eq f.name l.name) 0 (fields_up l.classes (length l.classes) (Some l.class));
}
