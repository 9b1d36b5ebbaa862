-- Constants, static fields and fields, read from the front of bytes.
use Rattle.std.specs.Prelude.{ℕ, zero, suc, ◌+◌, ◌-◌, ◌*◌, List, length, take, Result, Ok}
use Rattle.std.specs.Int.{w16}
use Rattle.heap_class.specs.declared.IdSize.{IdSize}
use Rattle.heap_class.specs.declared.Kind.{Kind}
use Rattle.heap_class.specs.Kinds.{id_bytes, width_of}
use Rattle.hprof_reader.specs.declared.class_dumps.Entry.{Entry}
use Rattle.hprof_reader.specs.declared.fault.Fault.{Fault}
use Rattle.hprof_reader.specs.Kinds.{kind_parts}
use Rattle.hprof_reader.specs.Reading.{◌>>=◌, read_in_turn, made, number_at, taken_at}
use Rattle.hprof_reader.specs.SubRecords.{EntryTold, Entries}

-- an entry that was read
abbrev pub entry : Entry → EntryTold
entry e = record { key = e.key.now; kind = e.kind; value = e.value.now }

-- the parts of a constant or static field: its key, its kind, and as many bytes as values of the kind have
abbrev pub entry_fields : IdSize → ℕ → List ℕ → Result ((List ℕ × (Kind × List ℕ)) × List ℕ) Fault
entry_fields ids key bytes =
    read_in_turn (taken_at key) (λ k. read_in_turn kind_parts (λ kind. taken_at (width_of ids kind))) bytes

-- an entry of these parts
abbrev pub made_entry : List ℕ × (Kind × List ℕ) → EntryTold
made_entry x = record { key = x.0; kind = x.1.0; value = x.1.1 }

-- a constant or static field
unfoldable pub entry_parts : IdSize → ℕ → List ℕ → Result (EntryTold × List ℕ) Fault
entry_parts ids key bytes = made made_entry (entry_fields ids key bytes)

-- the bytes after n entries
unfoldable pub after_entries : IdSize → ℕ → ℕ → List ℕ → Result (List ℕ) Fault
after_entries ids key zero bytes = Ok bytes
after_entries ids key (suc n) bytes = do
  e ← entry_parts ids key bytes
  after_entries ids key n e.1

-- the number of entries, and these
unfoldable pub table_parts : IdSize → ℕ → List ℕ → Result (Entries × List ℕ) Fault
table_parts ids key bytes = do
  n ← number_at w16 bytes
  rest ← after_entries ids key n.0 n.1
  Ok (record { count = n.0; bytes = take (length n.1 - length rest) n.1 }, rest)

-- the number of fields and their bytes
abbrev pub fields_pair : IdSize → List ℕ → Result ((ℕ × List ℕ) × List ℕ) Fault
fields_pair ids bytes =
    read_in_turn (number_at w16) (λ n. taken_at ((id_bytes ids + 1) * n)) bytes

abbrev pub made_entries : ℕ × List ℕ → Entries
made_entries x = record { count = x.0; bytes = x.1 }

-- the number of fields, and these
unfoldable pub fields_table_parts : IdSize → List ℕ → Result (Entries × List ℕ) Fault
fields_table_parts ids bytes = made made_entries (fields_pair ids bytes)
