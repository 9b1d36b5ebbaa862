use Rattle.std.proofs.Common.{◌+◌, ◌*◌, length, ◌∙◌, ap, ap₂}
use Rattle.heap_class.specs.Kinds.{id_bytes}
use Rattle.hprof_text.proofs.WrittenRecords.{fields_at}
use Rattle.hprof_text.proofs.sizes.class_size.Goals as goal

pub returns-clause-value : goal.returns-clause-value
returns-clause-value c =
    let n = c.field_count.ensures.value ∙ ap length (fields_at c.args.classes.now c.args.class) in
    ap₂ (λ a b. 15 + 7 * a + (1 + b) * c.field_count.result) c.bytes.ensures c.bytes-2.ensures
    ∙ ap (λ k. 15 + 7 * id_bytes c.args.ids + (1 + id_bytes c.args.ids) * k) n
