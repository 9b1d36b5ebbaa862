use Rattle.std.proofs.Common.{length, length-append, take, ap, arith}
use Rattle.std.specs.List.{flat_map}
use Rattle.std.proofs.lemmas.Grind.{common_steps}
use Rattle.heap_history.proofs.Letters.{name_in, field_name_within_all_names}
use Rattle.heap_history.proofs.definition.add_names.Goals as goal

pub returns-then-is_err : goal.returns-then-is_err
returns-then-is_err c =
    let fields = c.args.fields.now in
    let before = c.args.letters.now.items in
    let part = field_name_within_all_names fields c.loop-field.field-index c.field-item.result c.loop-field-test.true c.field-item.is in
    let so_far = length-append before (flat_map name_in (take c.loop-field.field-index fields)) in
    let all = length-append before (flat_map name_in fields) in
    let here = ap length c.loop-field.invariant in
    grind (arith, common_steps, part, so_far, all, here)
