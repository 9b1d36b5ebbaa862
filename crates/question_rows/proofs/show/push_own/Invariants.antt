use Rattle.std.proofs.Common.{◌≡◌, ◌++◌, drop}
use Rattle.heap_class.specs.Classes.{fields_of}
use Rattle.question_rows.specs.Objects.{field_rows, rows_joined}
use Rattle.question_rows.proofs.show.push_own.Given as goal

abbrev pub invariant-loop-field : goal.invariant-loop-field
invariant-loop-field l =
    let rows = field_rows l.first (fields_of l.classes l.class) (drop l.first l.words) in
    l.text.items ++ rows_joined (drop l.field rows) ≡ l.fn.text.items ++ rows_joined (drop l.skipped rows)
