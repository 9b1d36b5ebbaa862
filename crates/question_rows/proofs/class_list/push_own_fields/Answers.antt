use Rattle.std.proofs.Common.{◌≡◌, ◌∙◌, ◌+◌, ◌++◌, List, ℕ, ap, append_assoc, arith, drop, sym}
use Rattle.heap_class.specs.Classes.{fields_of}
use Rattle.question_rows.specs.ClassLists.{and_fields, field_words}
use Rattle.question_rows.proofs.FieldRows.{fields_further}
use Rattle.question_rows.proofs.class_list.push_own_fields.Goals as goal

pub loop-field-preserved : goal.loop-field-preserved
loop-field-preserved c =
    let fields = fields_of c.args.classes.now c.args.class in
    let i = c.loop-field.field in
    let name = c.field_name-name.result.now in
    let kind = c.field_kind-kind.result in
    let one = field_words name kind in
    let rest = and_fields (drop (i + 1) fields) in
    let more : and_fields (drop i fields) ≡ one ++ rest = fields_further i fields name kind (omega arith) c.field_name-name.ensures c.field_kind-kind.ensures in
    ap (λ (t : List ℕ). t ++ rest) c.in_ok-push_field.ensures
    ∙ append_assoc c.loop-field.text.items one rest
    ∙ ap (λ (t : List ℕ). c.loop-field.text.items ++ t) (sym more)
    ∙ c.loop-field.invariant
