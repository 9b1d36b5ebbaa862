use Rattle.std.proofs.Common.{arith}
use Rattle.hprof_reader.specs.Records.{told, record_text, FitsRecord}
use Rattle.hprof_reader.specs.Reading.{record_parts}
use Rattle.hprof_reader.proofs.Readers.{read_value_is_spelled_so, spelled_value_is_read}
use Rattle.hprof_reader.proofs.WholeRecords.{record_reader}
use Rattle.hprof_reader.proofs.records.record_at.Goals as goal

pub returns-clause-found : goal.returns-clause-found
returns-clause-found c = read_value_is_spelled_so (λ x. (told x.0, x.1.now)) record_text FitsRecord record_parts record_reader c.args.bytes.now (λ i. omega (arith, c.type_inv.bytes i)) c.read_record.result c.read_record.ensures

pub returns-clause-only : goal.returns-clause-only
returns-clause-only c = spelled_value_is_read (λ x. (told x.0, x.1.now)) record_text FitsRecord record_parts record_reader c.args.bytes.now c.read_record.result c.read_record.ensures
