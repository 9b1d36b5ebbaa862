use Rattle.std.proofs.Common.{arith}
use Rattle.hprof_reader.specs.SubRecords.{sub_record, sub_text, FitsSub}
use Rattle.hprof_reader.specs.SubParts.{sub_parts}
use Rattle.hprof_reader.proofs.Readers.{read_value_is_spelled_so, spelled_value_is_read}
use Rattle.hprof_reader.proofs.ReadSubs.{sub_reader}
use Rattle.hprof_reader.proofs.sub_records.sub_record_at.Goals as goal

pub returns-clause-found : goal.returns-clause-found
returns-clause-found c =
    read_value_is_spelled_so (λ x. (sub_record x.0, x.1.now)) (sub_text c.args.ids) (FitsSub c.args.ids) (sub_parts c.args.ids) (sub_reader c.args.ids) c.args.bytes.now (λ i. omega (arith, c.type_inv.bytes i)) c.read_sub_record.result c.read_sub_record.ensures

pub returns-clause-only : goal.returns-clause-only
returns-clause-only c = spelled_value_is_read (λ x. (sub_record x.0, x.1.now)) (sub_text c.args.ids) (FitsSub c.args.ids) (sub_parts c.args.ids) (sub_reader c.args.ids) c.args.bytes.now c.read_sub_record.result c.read_sub_record.ensures
