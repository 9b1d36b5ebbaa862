-- The image of a heap in a dump.
use Rattle.std.specs.Prelude.{◌≡◌, ℕ, ◌<◌, ◌≤◌, List, [], length, All}
use Rattle.heap_class.specs.declared.ObjKind.{ObjKind}
use Rattle.heap_class.specs.declared.ObjKind.TheVariants.{Instance, Array, Prim}
use Rattle.heap_class.specs.Classes.{Class, IsClassTable, slots_of}
use Rattle.heap_class.specs.Limits.{class_limit, large_array_limit}

-- an object of a dump: its id, its kind and the words of its slots
pub record DumpedObject : Type 0 where
  pub id : ℕ
  pub kind : ObjKind
  pub words : List ℕ

-- an image: the classes, the registers, and the live objects by region and cell
pub record Image : Type 0 where
  pub classes : List Class
  pub registers : List ℕ
  pub objects : List DumpedObject

-- the kind exists, and objects of it may have n slots
abbrev pub IsKnown : List Class → ObjKind → ℕ → Type 0
IsKnown classes (Instance k) n = (k < length classes) × (n ≡ length (slots_of classes k))
IsKnown classes (Array k) n = k < length classes
IsKnown classes (Prim kind) n = Unit {0}

-- the largest number of objects of a dump
abbrev pub object_limit : ℕ
object_limit = 16777216

-- the largest number of registers of a dump
abbrev pub register_limit : ℕ
register_limit = 128

-- the image is within the limits of a dump, so that no length is cut off
pub record IsDumpable (image : Image) : Type 0 where
  pub classes : IsClassTable [] image.classes
  pub few_classes : length image.classes ≤ class_limit
  pub few_registers : length image.registers ≤ register_limit
  pub few_objects : length image.objects ≤ object_limit
  pub known : All (λ o. IsKnown image.classes o.kind (length o.words)) image.objects
  pub small : All (λ o. length o.words ≤ large_array_limit) image.objects
