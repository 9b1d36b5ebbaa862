-- What the records of a dump say: names, classes, objects and registers.
use Rattle.std.specs.Prelude.{ℕ, ◌==◌, List, [], ◌∷◌, Option, Some, None, map, option_map, if◌then◌else◌}
use Rattle.std.specs.Int.{Width, w8, w16, w32, w64}
use Rattle.std.specs.List.{position_from}
use Rattle.std.specs.Map.{lookup}
use Rattle.std.specs.Result.{result_ok}
use Rattle.heap_class.specs.declared.IdSize.{IdSize}
use Rattle.heap_class.specs.declared.Kind.{Kind}
use Rattle.heap_class.specs.declared.Kind.TheVariants.{Boolean, Char, Float, Double, Byte, Short, Int, Long}
use Rattle.heap_class.specs.declared.Field.{Field}
use Rattle.heap_class.specs.declared.ObjKind.TheVariants.{Instance, Array, Prim}
use Rattle.heap_class.specs.Classes.{Class, slots_of, instance_class}
use Rattle.hprof_text.specs.Image.{DumpedObject}
use Rattle.hprof_reader.specs.declared.fields.OwnField.{OwnField}
use Rattle.hprof_reader.specs.Fields.{own_field_parts}
use Rattle.hprof_reader.specs.Reading.{number_at, id_width}
use Rattle.hprof_reader.specs.SubParts.{id_at, four_at}
use Rattle.hprof_reader.specs.SubRecords.{Sub, ClassTold, root, class, instance, array, prim}
use Rattle.hprof_image.specs.Items.{◌>>=◌, items_in, all_there}

-- ---- values

-- the width of a value of the kind
abbrev pub value_width : IdSize → Kind → Width
value_width ids Kind.Object = id_width ids
value_width ids Boolean = w8
value_width ids Char = w16
value_width ids Float = w32
value_width ids Double = w64
value_width ids Byte = w8
value_width ids Short = w16
value_width ids Int = w32
value_width ids Long = w64

-- a value of each of these kinds, one after another up to the end of the bytes
unfoldable pub values_in : IdSize → List Kind → List ℕ → Option (List ℕ)
values_in ids [] [] = Some []
values_in ids [] (b ∷ bytes) = None
values_in ids (kind ∷ kinds) bytes = do
  x ← result_ok (number_at (value_width ids kind) bytes)
  xs ← values_in ids kinds x.1
  Some (x.0 ∷ xs)

-- ---- names

-- a name with its id: the body of a UTF8 record
abbrev pub name_in : IdSize → List ℕ → Option (ℕ × List ℕ)
name_in ids body = result_ok (id_at ids body)

-- the id of a class, and that of its name: the body of a LOAD CLASS record, which begins with a serial and has a trace's before
-- the name
abbrev pub load_in : IdSize → List ℕ → Option (ℕ × ℕ)
load_in ids body = do
  serial ← result_ok (four_at body)
  x ← result_ok (id_at ids serial.1)
  trace ← result_ok (four_at x.1)
  name ← result_ok (id_at ids trace.1)
  Some (x.0, name.0)

-- names by their ids, and the ids of the names of classes by the ids of these
pub record Names : Type 0 where
  pub names : List (ℕ × List ℕ)
  pub loads : List (ℕ × ℕ)

-- what stands first under this id
abbrev pub found : {A : Type 0} → List (ℕ × A) → ℕ → Option A
found entries x = lookup (λ y. x == y) entries

-- ---- classes

-- the class that a sub-record tells
abbrev pub class_in : Sub → Option ClassTold
class_in (root tag x more) = None
class_in (class c) = Some c
class_in (instance x trace k values) = None
class_in (array x trace count k elements) = None
class_in (prim x trace count kind elements) = None

-- the number of the class with this id: classes have 0, 1, 2, .. in order
abbrev pub number_of : List ClassTold → ℕ → Option ℕ
number_of classes x = position_from (λ c. x == c.head.id) 0 classes

-- the number of the super with this id, of which 0 is none
abbrev pub super_of : List ClassTold → ℕ → Option (Option ℕ)
super_of classes x = if x == 0 then Some None else option_map (λ k. Some k) (number_of classes x)

-- an own field, by the name that its id has
abbrev pub field_of : Names → OwnField → Option Field
field_of names f = option_map (λ name. record { name = name; kind = f.kind }) (found names.names f.name)

-- a class of a dump
abbrev pub class_of : IdSize → Names → List ClassTold → ClassTold → Option Class
class_of ids names classes c = do
  x ← found names.loads c.head.id
  name ← found names.names x
  sup ← super_of classes c.head.super_id
  own ← items_in (own_field_parts ids) c.fields.bytes
  fields ← all_there (map (field_of names) own)
  Some (instance_class name sup fields)

-- ---- objects and registers

-- an instance, whose values are those of its class's slots
abbrev pub instance_of : IdSize → List ClassTold → List Class → ℕ → ℕ → List ℕ → Option DumpedObject
instance_of ids told classes x k values = do
  n ← number_of told k
  words ← values_in ids (slots_of classes n) values
  Some (record { id = x; kind = Instance n; words = words })

-- an array of references
abbrev pub array_of : IdSize → List ClassTold → ℕ → ℕ → List ℕ → Option DumpedObject
array_of ids told x k elements = do
  n ← number_of told k
  words ← items_in (id_at ids) elements
  Some (record { id = x; kind = Array n; words = words })

-- an array of values of one kind
abbrev pub prim_of : IdSize → ℕ → Kind → List ℕ → Option DumpedObject
prim_of ids x kind elements = do
  words ← items_in (number_at (value_width ids kind)) elements
  Some (record { id = x; kind = Prim kind; words = words })

-- the object that a sub-record tells, if it tells one
abbrev pub object_in : IdSize → List ClassTold → List Class → Sub → Option (Option DumpedObject)
object_in ids told classes (root tag x more) = None
object_in ids told classes (class c) = None
object_in ids told classes (instance x trace k values) = Some (instance_of ids told classes x k values)
object_in ids told classes (array x trace count k elements) = Some (array_of ids told x k elements)
object_in ids told classes (prim x trace count kind elements) = Some (prim_of ids x kind elements)

-- the object of a root of an unknown kind, as which a register stands in a dump
abbrev pub register_in : Sub → Option ℕ
register_in (root tag x more) = if tag == 0xff then Some x else None
register_in (class c) = None
register_in (instance x trace k values) = None
register_in (array x trace count k elements) = None
register_in (prim x trace count kind elements) = None
