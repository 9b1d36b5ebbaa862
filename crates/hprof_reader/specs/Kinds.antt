-- The kinds of values, by their codes.
use Rattle.std.specs.Prelude.{ℕ, ◌==◌, List, Result, Ok, Err, Option, Some, None, if◌then◌else◌}
use Rattle.std.specs.Int.{w8}
use Rattle.heap_class.specs.declared.Kind.{Kind}
use Rattle.heap_class.specs.declared.Kind.TheVariants.{Boolean, Char, Float, Double, Byte, Short, Int, Long}
use Rattle.hprof_reader.specs.declared.fault.Fault.{Fault}
use Rattle.hprof_reader.specs.declared.fault.Fault.TheVariants as faults
use Rattle.hprof_reader.specs.Reading.{◌>>=◌, number_at}

-- the kind that a code names
abbrev pub kind_coded : ℕ → Option Kind
kind_coded n =
    if n == 2 then Some Kind.Object
    else (if n == 4 then Some Boolean
    else (if n == 5 then Some Char
    else (if n == 6 then Some Float
    else (if n == 7 then Some Double
    else (if n == 8 then Some Byte
    else (if n == 9 then Some Short
    else (if n == 10 then Some Int
    else (if n == 11 then Some Long else None))))))))

-- a kind that is there, and the bytes after its code
abbrev pub known_kind : Option Kind → List ℕ → Result (Kind × List ℕ) Fault
known_kind (Some kind) rest = Ok (kind, rest)
known_kind None rest = Err faults.Type

-- a kind, by its code
unfoldable pub kind_parts : List ℕ → Result (Kind × List ℕ) Fault
kind_parts bytes = do
  code ← number_at w8 bytes
  known_kind (kind_coded code.0) code.1
