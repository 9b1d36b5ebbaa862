-- The header of a dump, read from the front of bytes.
use Rattle.std.specs.Prelude.{ℕ, ◌+◌, ◌*◌, ◌^◌, ◌==◌, List, ◌++◌, Result, Ok, Err, Option, Some, None, codes, if◌then◌else◌}
use Rattle.std.specs.Int.{w32}
use Rattle.std.specs.Str.{bytes_eq}
use Rattle.heap_class.specs.declared.IdSize.{IdSize}
use Rattle.heap_class.specs.declared.IdSize.TheVariants.{Four, Eight}
use Rattle.hprof_text.specs.Text.{u1, header}
use Rattle.hprof_reader.specs.declared.fault.Fault.{Fault}
use Rattle.hprof_reader.specs.declared.fault.Fault.TheVariants as faults
use Rattle.hprof_reader.specs.declared.header.Header.{Header}
use Rattle.hprof_reader.specs.Reading.{◌>>=◌, number_at, taken_at}

-- the bytes of a header
abbrev pub header_text : Header → List ℕ
header_text h = header h.ids h.time

-- the name of the format, and a zero
abbrev pub format_name : List ℕ
format_name = codes "JAVA PROFILE 1.0.2" ++ u1 0

-- identifiers of n bytes
abbrev pub ids_of : ℕ → Option IdSize
ids_of n = if n == 4 then Some Four else (if n == 8 then Some Eight else None)

-- what follows the size of identifiers: the two halves of the time
abbrev pub times_at : Option IdSize → List ℕ → Result (Header × List ℕ) Fault
times_at None bytes = Err faults.Header
times_at (Some ids) bytes = do
  high ← number_at w32 bytes
  low ← number_at w32 high.1
  Ok (record { ids = ids; time = high.0 * 2 ^ 32 + low.0 }, low.1)

-- what follows the name of the format
abbrev pub after_name : List ℕ → Result (Header × List ℕ) Fault
after_name bytes = do
  size ← number_at w32 bytes
  times_at (ids_of size.0) size.1

-- a header
unfoldable pub header_parts : List ℕ → Result (Header × List ℕ) Fault
header_parts bytes = do
  name ← taken_at 19 bytes
  if bytes_eq name.0 format_name then after_name name.1 else Err faults.Header
