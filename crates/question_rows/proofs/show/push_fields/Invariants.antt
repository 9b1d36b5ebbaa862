use Rattle.std.proofs.Common.{◌≡◌, ◌++◌, ◌-◌, ◌<◌, ◌≤◌, Some, drop, length}
use Rattle.std.specs.Prelude.{IfSome}
use Rattle.question_rows.specs.Objects.{field_rows, rows_joined}
use Rattle.question_words.specs.Names.{fields_up}
use Rattle.question_rows.proofs.show.push_fields.Given as goal

abbrev pub invariant-loop-depth : goal.invariant-loop-depth
invariant-loop-depth l = record {
  there : IfSome l.here (λ k. k < length l.classes);
  within : l.first ≤ length l.words;
  lines : l.text.items ++ rows_joined (drop (l.from - l.first) (field_rows l.first (fields_up l.classes (length l.classes - l.depth) l.here) (drop l.first l.words))) ≡ l.fn.text.items ++ rows_joined (drop l.from (field_rows 0 (fields_up l.classes (length l.classes) (Some l.class)) l.words));
}
