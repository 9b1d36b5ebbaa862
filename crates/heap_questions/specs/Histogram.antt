-- How many objects there are of each class, and of arrays of each kind, and the bytes of their values.
use Rattle.std.specs.Prelude.{ℕ, Bool, [], ◌∷◌, if◌then◌else◌, ◌+◌, ◌*◌, ◌==◌, List, length, map, filter, sum_by, slice_index_or, slice_set, All, ◌≡◌, ◌<◌, ◌≤◌}
use Rattle.std.specs.List.{range_with_len}
use Rattle.heap_class.specs.declared.IdSize.{IdSize}
use Rattle.heap_class.specs.declared.Kind.{Kind}
use Rattle.heap_class.specs.declared.Kind.TheVariants.{Boolean, Byte, Char, Short, Int, Float, Long, Double}
use Rattle.heap_class.specs.declared.ObjKind.{ObjKind}
use Rattle.heap_class.specs.declared.ObjKind.TheVariants.{Instance, Array, Prim}
use Rattle.heap_class.specs.Kinds.{id_bytes, width_of}
use Rattle.heap_class.specs.Classes.{Class, instance_size}
use Rattle.hprof_text.specs.Image.{Image, DumpedObject}
use Rattle.heap_questions.specs.declared.rows.Row.{Row}

-- the number of rows before those of the classes, one for the arrays of each kind
abbrev pub class_rows : ℕ
class_rows = 9

-- the row of the arrays of a kind
abbrev pub kind_row : Kind → ℕ
kind_row Kind.Object = 0
kind_row Boolean = 1
kind_row Byte = 2
kind_row Char = 3
kind_row Short = 4
kind_row Int = 5
kind_row Float = 6
kind_row Long = 7
kind_row Double = 8

-- the row of an object of this kind
unfoldable pub row_number : ObjKind → ℕ
row_number (Instance k) = class_rows + k
row_number (Array k) = class_rows + k
row_number (Prim kind) = kind_row kind

-- the bytes that the values of an object of this kind with n words have in a dump
unfoldable pub value_size : IdSize → List Class → ObjKind → ℕ → ℕ
value_size ids classes (Instance k) n = instance_size ids classes k
value_size ids classes (Array k) n = id_bytes ids * n
value_size ids classes (Prim kind) n = width_of ids kind * n

-- the most bytes that the values of one object have: an array has up to 2,097,147 of 8 bytes, and an instance fewer
abbrev pub values_limit : ℕ
values_limit = 16777176

-- the size of an object's values in bytes
abbrev pub object_bytes : IdSize → List Class → DumpedObject → ℕ
object_bytes ids classes o = value_size ids classes o.kind (length o.words)

-- those of some objects that are counted in row g
abbrev pub members : List DumpedObject → ℕ → List DumpedObject
members objects g = filter (λ o. row_number o.kind == g) objects

-- row g: how many objects are counted there, and the bytes of their values
unfoldable pub row_of : IdSize → List Class → List DumpedObject → ℕ → Row
row_of ids classes objects g =
    record {
      objects = length (members objects g);
      bytes = sum_by (object_bytes ids classes) (members objects g);
    }

-- all rows of some objects
abbrev pub rows_of : IdSize → List Class → List DumpedObject → List Row
rows_of ids classes objects =
    map (row_of ids classes objects) (range_with_len 0 (class_rows + length classes))

-- all rows of an image
abbrev pub histogram_of : IdSize → Image → List Row
histogram_of ids image = rows_of ids image.classes image.objects

-- ---- counting

-- a row that counts no object
abbrev pub no_objects : Row
no_objects = record { objects = 0; bytes = 0 }

-- row g, or one without objects
abbrev pub row_at : List Row → ℕ → Row
row_at rows g = slice_index_or rows g no_objects

-- one object more, of n bytes
abbrev pub one_more : Row → ℕ → Row
one_more r n = record { objects = r.objects + 1; bytes = r.bytes + n }

-- it is counted in row g
abbrev pub with_counted : List Row → ℕ → ℕ → List Row
with_counted rows g n = slice_set rows g (one_more (row_at rows g) n)

-- it is, unless it is marked
abbrev pub counted_unless : Bool → ℕ → ℕ → List Row → List Row
counted_unless marked g n rows = if marked then rows else with_counted rows g n

-- the objects without those that are marked; past the last mark none is
abbrev pub without_marked : List Bool → List DumpedObject → List DumpedObject
without_marked [] objects = objects
without_marked (b ∷ bs) [] = []
without_marked (b ∷ bs) (o ∷ os) = if b then without_marked bs os else o ∷ without_marked bs os

-- these objects were counted
pub record AreRows (ids : IdSize) (classes : List Class) (counted : List DumpedObject)
    (rows : List Row) : Type 0 where
  pub count : length rows ≡ class_rows + length classes
  pub each : (g : ℕ) → g < length rows → row_at rows g ≡ row_of ids classes counted g
  pub small : All (λ r. (r.objects ≤ length counted) × (r.bytes ≤ length counted * values_limit)) rows
