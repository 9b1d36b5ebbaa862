-- Own fields and static fields of a class, read from the front of bytes.
use Rattle.std.specs.Prelude.{◌≡◌, ℕ, List, ◌++◌, length, Result}
use Rattle.heap_class.specs.declared.IdSize.{IdSize}
use Rattle.heap_class.specs.declared.Kind.{Kind}
use Rattle.heap_class.specs.Kinds.{width_of, type_code}
use Rattle.hprof_text.specs.Text.{u1, id}
use Rattle.hprof_text.specs.Fits.{FitsId}
use Rattle.hprof_reader.specs.declared.fault.Fault.{Fault}
use Rattle.hprof_reader.specs.declared.fields.OwnField.{OwnField}
use Rattle.hprof_reader.specs.declared.fields.StaticField.{StaticField}
use Rattle.hprof_reader.specs.Kinds.{kind_parts}
use Rattle.hprof_reader.specs.Reading.{read_in_turn, made, number_at, taken_at, id_width}

-- ---- own fields

-- the bytes of an own field: the id of its name, and its kind
abbrev pub own_field_text : IdSize → OwnField → List ℕ
own_field_text ids f = id ids f.name ++ u1 (type_code f.kind)

-- the id of its name fits
abbrev pub FitsOwnField : IdSize → OwnField → Type 0
FitsOwnField ids f = FitsId ids f.name

abbrev pub own_field_pair : IdSize → List ℕ → Result ((ℕ × Kind) × List ℕ) Fault
own_field_pair ids bytes = read_in_turn (number_at (id_width ids)) (λ name. kind_parts) bytes

abbrev pub made_own_field : ℕ × Kind → OwnField
made_own_field x = record { name = x.0; kind = x.1 }

-- an own field
unfoldable pub own_field_parts : IdSize → List ℕ → Result (OwnField × List ℕ) Fault
own_field_parts ids bytes = made made_own_field (own_field_pair ids bytes)

-- ---- static fields

-- a static field, wherever its value lies in memory
pub record StaticTold : Type 0 where
  pub name : ℕ
  pub kind : Kind
  pub value : List ℕ

-- a static field that was read
abbrev pub static_told : StaticField → StaticTold
static_told f = record { name = f.name; kind = f.kind; value = f.value.now }

-- the bytes of a static field: the id of its name, its kind, and its value
abbrev pub static_field_text : IdSize → StaticTold → List ℕ
static_field_text ids f = id ids f.name ++ u1 (type_code f.kind) ++ f.value

-- the id of its name fits, and its value is as wide as its kind
abbrev pub FitsStaticField : IdSize → StaticTold → Type 0
FitsStaticField ids f = FitsId ids f.name × (length f.value ≡ width_of ids f.kind)

abbrev pub static_field_pair : IdSize → List ℕ → Result ((ℕ × (Kind × List ℕ)) × List ℕ) Fault
static_field_pair ids bytes =
    read_in_turn (number_at (id_width ids)) (λ name. read_in_turn kind_parts (λ kind. taken_at (width_of ids kind))) bytes

abbrev pub made_static_field : ℕ × (Kind × List ℕ) → StaticTold
made_static_field x = record { name = x.0; kind = x.1.0; value = x.1.1 }

-- a static field
unfoldable pub static_field_parts : IdSize → List ℕ → Result (StaticTold × List ℕ) Fault
static_field_parts ids bytes = made made_static_field (static_field_pair ids bytes)
