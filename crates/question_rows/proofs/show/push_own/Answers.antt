use Rattle.std.proofs.Common.{◌∙◌, ◌+◌, ◌++◌, List, ℕ, ap, append_assoc, arith, drop, get_or, length, sym}
use Rattle.std.proofs.lemmas.List.{append-nil}
use Rattle.heap_class.specs.Classes.{fields_of}
use Rattle.question_rows.specs.Objects.{field_row, field_rows, rows_joined}
use Rattle.question_rows.proofs.FieldRows.{row_further, rows_end, used_up}
use Rattle.question_rows.proofs.show.push_own.Goals as goal

pub loop-field-preserved : goal.loop-field-preserved
loop-field-preserved c =
    let fields = fields_of c.args.classes.now c.args.class in
    let words = c.args.words.now in
    let i = c.loop-field.field in
    let f = c.args.first in
    let name = c.field_name-name.result.now in
    let kind = c.field_kind-kind.result in
    let row = field_row (f + i) name kind (get_or words (f + i) 0) in
    let rest = rows_joined (drop (i + 1) (field_rows f fields (drop f words))) in
    let more = row_further i f fields words name kind (omega arith) c.field_name-name.ensures c.field_kind-kind.ensures (omega arith) in
    ap (λ (t : List ℕ). t ++ rest) c.in_ok-push_field.ensures
    ∙ append_assoc c.loop-field.text.items row rest
    ∙ ap (λ (rows : List (List ℕ)). c.loop-field.text.items ++ rows_joined rows) (sym more)
    ∙ c.loop-field.invariant

pub returns : goal.returns
returns c =
    let e = rows_end c.loop-field.field c.args.first (fields_of c.args.classes.now c.args.class) c.args.words.now
    (used_up (length (fields_of c.args.classes.now c.args.class)) (length c.args.words.now) c.args.first c.own_count-count.result c.loop-field.field c.own_count-count.ensures c.loop-field-test.false c.requires.within) in
    sym (ap (λ (rows : List (List ℕ)). c.loop-field.text.items ++ rows_joined rows) e ∙ append-nil c.loop-field.text.items) ∙ c.loop-field.invariant
