-- The values of slots, in the bytes of objects.
use Rattle.std.specs.Prelude.{ℕ, zero, suc, ◌+◌, ◌*◌, ◌%◌, ◌^◌, Bool, true, false, nat_lt, List, [], ◌∷◌, ◌++◌, fold, take, drop}
use Rattle.heap_class.specs.declared.IdSize.{IdSize}
use Rattle.heap_class.specs.declared.Kind.{Kind}
use Rattle.heap_class.specs.Kinds.{width_of}
use Rattle.hprof_reader.specs.declared.fields.StaticField.{StaticField}
use Rattle.hprof_lines.specs.declared.values.SlotValue.{SlotValue}

-- a number, and one more byte
abbrev pub with_byte : ℕ → ℕ → ℕ
with_byte n b = (n * 256 % 2 ^ 64 + b) % 2 ^ 64

-- the number that bytes are, the highest first: its last 64 bits
unfoldable pub number_in : List ℕ → ℕ
number_in bytes = fold with_byte 0 bytes

-- a value of this kind at the front of bytes, for this slot
abbrev pub value_at : IdSize → Kind → ℕ → List ℕ → SlotValue
value_at ids kind slot bytes = record { slot = slot; kind = kind; value = number_in (take (width_of ids kind) bytes) }

-- the values of this number of elements of this kind, from slot `at` on
unfoldable pub elements_from : IdSize → Kind → ℕ → ℕ → List ℕ → List SlotValue
elements_from ids kind zero at bytes = []
elements_from ids kind (suc n) at bytes =
    value_at ids kind at bytes ∷ elements_from ids kind n (at + 1) (drop (width_of ids kind) bytes)

-- a value, if it is kept
abbrev pub value_if : Bool → SlotValue → List SlotValue
value_if true v = v ∷ []
value_if false v = []

-- the values of fields of these kinds, from field i of their class on. The class keeps its first `kept` fields, in slots from
-- `base` on
unfoldable pub fields_from : IdSize → ℕ → ℕ → ℕ → List Kind → List ℕ → List SlotValue
fields_from ids kept base i [] bytes = []
fields_from ids kept base i (kind ∷ kinds) bytes =
    value_if (nat_lt i kept) (value_at ids kind (base + i) bytes)
    ++ fields_from ids kept base (i + 1) kinds (drop (width_of ids kind) bytes)

-- the bytes after values of these kinds
unfoldable pub after_fields : IdSize → List Kind → List ℕ → List ℕ
after_fields ids [] bytes = bytes
after_fields ids (kind ∷ kinds) bytes = after_fields ids kinds (drop (width_of ids kind) bytes)

-- the values of static fields, from slot `at` on
unfoldable pub statics_from : ℕ → List StaticField → List SlotValue
statics_from at [] = []
statics_from at (f ∷ fields) =
    record { slot = at; kind = f.kind; value = number_in f.value.now } ∷ statics_from (at + 1) fields
