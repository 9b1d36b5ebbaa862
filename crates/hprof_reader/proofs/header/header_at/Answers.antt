use Rattle.std.proofs.Common.{◌^◌, ◌<◌, arith}
use Rattle.hprof_reader.specs.Headers.{header_text, header_parts}
use Rattle.hprof_reader.proofs.Readers.{read_value_is_spelled_so, spelled_value_is_read}
use Rattle.hprof_reader.proofs.ReadHeaders.{header_reader}
use Rattle.hprof_reader.proofs.header.header_at.Goals as goal

pub returns-clause-found : goal.returns-clause-found
returns-clause-found c = read_value_is_spelled_so (λ x. (x.0, x.1.now)) header_text (λ h. h.time < 2 ^ 64) header_parts header_reader c.args.bytes.now (λ i. omega (arith, c.type_inv.bytes i)) c.read_header.result c.read_header.ensures

pub returns-clause-only : goal.returns-clause-only
returns-clause-only c = spelled_value_is_read (λ x. (x.0, x.1.now)) header_text (λ h. h.time < 2 ^ 64) header_parts header_reader c.args.bytes.now c.read_header.result c.read_header.ensures
