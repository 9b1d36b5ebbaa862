use Rattle.std.proofs.Common.{◌≡◌, ◌++◌, drop}
use Rattle.heap_class.specs.Classes.{fields_of}
use Rattle.question_rows.specs.ClassLists.{and_fields}
use Rattle.question_rows.proofs.class_list.push_own_fields.Given as goal

abbrev pub invariant-loop-field : goal.invariant-loop-field
invariant-loop-field l =
    let fields = fields_of l.classes l.class in
    l.text.items ++ and_fields (drop l.field fields) ≡ l.fn.text.items ++ and_fields fields
