use Rattle.std.proofs.Common.{arith}
use Rattle.hprof_reader.specs.Fields.{FitsStaticField, static_field_text, static_field_parts}
use Rattle.hprof_reader.proofs.ReadFields.{static_field_reader}
use Rattle.hprof_plan.proofs.FieldLoops.{is_read, none_read}
use Rattle.hprof_plan.proofs.fields.next_static.Goals as goal

pub returns-in-Ok : goal.returns-in-Ok
returns-in-Ok c =
    is_read (static_field_text c.args.ids) (FitsStaticField c.args.ids) (static_field_parts c.args.ids) (static_field_reader c.args.ids) c.args.bytes.now _ _ c.in-Ok.ensures.found.0 c.in-Ok.ensures.found.1

pub returns-in-Err : goal.returns-in-Err
returns-in-Err c =
    none_read (static_field_text c.args.ids) (FitsStaticField c.args.ids) (static_field_parts c.args.ids) (static_field_reader c.args.ids) c.args.bytes.now (λ i. omega (arith, c.type_inv.bytes i))
    (λ f rest fits e. let h = c.in-Err.ensures.only f rest fits e in cc h)
