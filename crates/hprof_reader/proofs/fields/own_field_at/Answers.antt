use Rattle.std.proofs.Common.{arith}
use Rattle.hprof_reader.specs.Fields.{FitsOwnField, own_field_text, own_field_parts}
use Rattle.hprof_reader.proofs.Readers.{read_value_is_spelled_so, spelled_value_is_read}
use Rattle.hprof_reader.proofs.ReadFields.{own_field_reader}
use Rattle.hprof_reader.proofs.fields.own_field_at.Goals as goal

pub returns-clause-found : goal.returns-clause-found
returns-clause-found c =
    read_value_is_spelled_so (λ x. (x.0, x.1.now)) (own_field_text c.args.ids) (FitsOwnField c.args.ids) (own_field_parts c.args.ids) (own_field_reader c.args.ids) c.args.bytes.now (λ i. omega (arith, c.type_inv.bytes i)) c.read_own_field.result c.read_own_field.ensures

pub returns-clause-only : goal.returns-clause-only
returns-clause-only c = spelled_value_is_read (λ x. (x.0, x.1.now)) (own_field_text c.args.ids) (FitsOwnField c.args.ids) (own_field_parts c.args.ids) (own_field_reader c.args.ids) c.args.bytes.now c.read_own_field.result c.read_own_field.ensures
