-- Parts of records, read from the front of bytes: a value and the bytes after it, or a fault.
use Rattle.std.specs.Prelude.{◌≡◌, ℕ, List, length, take, drop, Result, Ok, Err, nat_lt, if◌then◌else◌}
use Rattle.std.specs.Int.{Width, w8, w32, w64, byte_len, from_be_bytes}
use Rattle.heap_class.specs.declared.IdSize.{IdSize}
use Rattle.heap_class.specs.declared.IdSize.TheVariants.{Four, Eight}
use Rattle.hprof_reader.specs.declared.fault.Fault.{Fault}
use Rattle.hprof_reader.specs.declared.fault.Fault.TheVariants.{Short}
use Rattle.hprof_reader.specs.Records.{Told}

-- what a function returned, seen by `view`, is this
abbrev pub Gives : {X Y : Type 0} → (X → Y) → Result X Fault → Result Y Fault → Type 0
Gives view (Ok x) read = read ≡ Ok (view x)
Gives view (Err e) read = read ≡ Err e

-- what a function returned, seen by `view`, is this value with these bytes after it
abbrev pub IsRead : {X A : Type 0} → (X → A × List ℕ) → Result X Fault → A → List ℕ → Type 0
IsRead view result value rest = Gives view result (Ok (value, rest))

-- if there is a value, go on with it
infixl 10 ◌>>=◌
abbrev pub ◌>>=◌ : {A B : Type 0} → Result A Fault → (A → Result B Fault) → Result B Fault
(Ok x) >>= f = f x
(Err e) >>= f = Err e

-- a number, the highest byte first
abbrev pub number_at : Width → List ℕ → Result (ℕ × List ℕ) Fault
number_at w bytes =
    if nat_lt (length bytes) (byte_len w) then Err Short
    else Ok (from_be_bytes w (take (byte_len w) bytes), drop (byte_len w) bytes)

-- this many bytes
abbrev pub taken_at : ℕ → List ℕ → Result (List ℕ × List ℕ) Fault
taken_at n bytes = if nat_lt (length bytes) n then Err Short else Ok (take n bytes, drop n bytes)

-- the width of identifiers
abbrev pub id_width : IdSize → Width
id_width Four = w32
id_width Eight = w64

-- what `first` reads, and then what `second` reads by it
abbrev pub read_in_turn : {A B : Type 0} → (List ℕ → Result (A × List ℕ) Fault)
    → (A → List ℕ → Result (B × List ℕ) Fault)
    → List ℕ → Result ((A × B) × List ℕ) Fault
read_in_turn first second bytes = do
  a ← first bytes
  b ← second a.0 a.1
  Ok ((a.0, b.0), b.1)

-- the parts of a record: its tag, its time, the size of its body, and that many bytes
abbrev pub record_fields : List ℕ → Result ((ℕ × (ℕ × (ℕ × List ℕ))) × List ℕ) Fault
record_fields bytes =
    read_in_turn (number_at w8)
    (λ tag. read_in_turn (number_at w32) (λ time. read_in_turn (number_at w32) (λ size. taken_at size)))
    bytes

-- a value made of what was read
abbrev pub made : {A B : Type 0} → (A → B) → Result (A × List ℕ) Fault → Result (B × List ℕ) Fault
made make (Ok x) = Ok (make x.0, x.1)
made make (Err e) = Err e

-- a record of these parts
abbrev pub made_record : ℕ × (ℕ × (ℕ × List ℕ)) → Told
made_record x = record { tag = x.0; time = x.1.0; body = x.1.1.1 }

-- a record
unfoldable pub record_parts : List ℕ → Result (Told × List ℕ) Fault
record_parts bytes = made made_record (record_fields bytes)
