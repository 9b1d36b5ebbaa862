use Rattle.std.proofs.Common.{arith}
use Rattle.hprof_reader.specs.Fields.{FitsOwnField, own_field_text, own_field_parts}
use Rattle.hprof_reader.proofs.ReadFields.{own_field_reader}
use Rattle.hprof_plan.proofs.FieldLoops.{is_read, none_read}
use Rattle.hprof_plan.proofs.fields.next_own.Goals as goal

pub returns-in-Ok : goal.returns-in-Ok
returns-in-Ok c =
    is_read (own_field_text c.args.ids) (FitsOwnField c.args.ids) (own_field_parts c.args.ids) (own_field_reader c.args.ids) c.args.bytes.now _ _ c.in-Ok.ensures.found.0 c.in-Ok.ensures.found.1

pub returns-in-Err : goal.returns-in-Err
returns-in-Err c =
    none_read (own_field_text c.args.ids) (FitsOwnField c.args.ids) (own_field_parts c.args.ids) (own_field_reader c.args.ids) c.args.bytes.now (λ i. omega (arith, c.type_inv.bytes i))
    (λ f rest fits e. let h = c.in-Err.ensures.only f rest fits e in cc h)
