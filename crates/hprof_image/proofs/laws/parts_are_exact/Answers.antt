use Rattle.std.proofs.Common.{ℕ, ◌^◌, ◌<◌, List, Result}
use Rattle.hprof_reader.specs.declared.fault.Fault.{Fault}
use Rattle.hprof_reader.specs.Fields.{own_field_text, FitsOwnField, own_field_parts}
use Rattle.hprof_reader.specs.Headers.{header_text, header_parts}
use Rattle.hprof_reader.specs.Reading.{record_parts}
use Rattle.hprof_reader.specs.Records.{record_text, FitsRecord}
use Rattle.hprof_reader.specs.SubParts.{sub_parts}
use Rattle.hprof_reader.specs.SubRecords.{sub_text, FitsSub}
use Rattle.hprof_reader.proofs.Readers.{IsReader}
use Rattle.hprof_reader.proofs.ReadFields.{own_field_reader}
use Rattle.hprof_reader.proofs.ReadHeaders.{header_reader}
use Rattle.hprof_reader.proofs.ReadSubs.{sub_reader}
use Rattle.hprof_reader.proofs.WholeRecords.{record_reader}
use Rattle.hprof_image.specs.Laws.{ReadsTexts}
use Rattle.hprof_image.proofs.laws.parts_are_exact.Goals as goal

reader_reads_texts : {A : Type 0} (text : A → List ℕ) (fits : A → Type 0) (read : List ℕ → Result (A × List ℕ) Fault) → IsReader text fits read → ReadsTexts text fits read
reader_reads_texts text fits read reader = record { found = λ bytes x rest small e. let t = reader.takes bytes (x, rest) small e in (t.2, t.0); only = reader.again }

pub returns-clause-headers : goal.returns-clause-headers
returns-clause-headers c = reader_reads_texts header_text (λ h. h.time < 2 ^ 64) header_parts header_reader

pub returns-clause-records : goal.returns-clause-records
returns-clause-records c = reader_reads_texts record_text FitsRecord record_parts record_reader

pub returns-clause-sub_records : goal.returns-clause-sub_records
returns-clause-sub_records c = λ ids. reader_reads_texts (sub_text ids) (FitsSub ids) (sub_parts ids) (sub_reader ids)

pub returns-clause-fields : goal.returns-clause-fields
returns-clause-fields c = λ ids. reader_reads_texts (own_field_text ids) (FitsOwnField ids) (own_field_parts ids) (own_field_reader ids)
