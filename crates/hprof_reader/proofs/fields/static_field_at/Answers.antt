use Rattle.std.proofs.Common.{arith}
use Rattle.hprof_reader.specs.Fields.{FitsStaticField, static_field_text, static_field_parts, static_told}
use Rattle.hprof_reader.proofs.Readers.{read_value_is_spelled_so, spelled_value_is_read}
use Rattle.hprof_reader.proofs.ReadFields.{static_field_reader}
use Rattle.hprof_reader.proofs.fields.static_field_at.Goals as goal

pub returns-clause-found : goal.returns-clause-found
returns-clause-found c =
    read_value_is_spelled_so (λ x. (static_told x.0, x.1.now)) (static_field_text c.args.ids) (FitsStaticField c.args.ids) (static_field_parts c.args.ids) (static_field_reader c.args.ids) c.args.bytes.now (λ i. omega (arith, c.type_inv.bytes i)) c.read_static_field.result c.read_static_field.ensures

pub returns-clause-only : goal.returns-clause-only
returns-clause-only c = spelled_value_is_read (λ x. (static_told x.0, x.1.now)) (static_field_text c.args.ids) (FitsStaticField c.args.ids) (static_field_parts c.args.ids) (static_field_reader c.args.ids) c.args.bytes.now c.read_static_field.result c.read_static_field.ensures
