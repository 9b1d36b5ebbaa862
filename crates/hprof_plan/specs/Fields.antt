-- Own fields and static fields in the records of classes.
use Rattle.std.specs.Prelude.{ℕ, zero, suc, List, [], ◌∷◌, Option, Some, None}
use Rattle.std.specs.Result.{result_ok}
use Rattle.heap_class.specs.declared.IdSize.{IdSize}
use Rattle.hprof_reader.specs.declared.fields.OwnField.{OwnField}
use Rattle.hprof_reader.specs.Fields.{StaticTold, own_field_parts, static_field_parts}

-- an item and those that `more` finds after it, or none
abbrev pub first_and : {A : Type 0} → (List ℕ → List A) → Option (A × List ℕ) → List A
first_and more (Some x) = x.0 ∷ more x.1
first_and more None = []

-- the first n items that are read one after another, up to the first that isn't there
unfoldable pub each_read : {A : Type 0} → (List ℕ → Option (A × List ℕ)) → ℕ → List ℕ → List A
each_read parts zero bytes = []
each_read parts (suc n) bytes = first_and (each_read parts n) (parts bytes)

-- the own field in front of bytes, and the bytes after it, if there is one
abbrev pub own_parts : IdSize → List ℕ → Option (OwnField × List ℕ)
own_parts ids bytes = result_ok (own_field_parts ids bytes)

-- the static field in front of bytes, and the bytes after it, if there is one
abbrev pub static_parts : IdSize → List ℕ → Option (StaticTold × List ℕ)
static_parts ids bytes = result_ok (static_field_parts ids bytes)

-- the first n own fields in these bytes, up to the first that isn't one
abbrev pub own_fields : IdSize → ℕ → List ℕ → List OwnField
own_fields ids n bytes = each_read (own_parts ids) n bytes

-- the first n static fields in these bytes, up to the first that isn't one
abbrev pub static_fields : IdSize → ℕ → List ℕ → List StaticTold
static_fields ids n bytes = each_read (static_parts ids) n bytes
