-- A heap given as lists.
use Rattle.std.specs.Prelude.{ℕ, zero, suc, ◌+◌, ◌≤◌, List, [], ◌∷◌, length, map}
use Rattle.heap_class.specs.declared.IdSize.{IdSize}
use Rattle.heap_class.specs.declared.ObjRef.{ObjRef}
use Rattle.heap_class.specs.Classes.{Class}
use Rattle.heap_class.specs.Limits.{large_array_limit}
use Rattle.hprof_text.specs.declared.list_view.ListedObject.{ListedObject}
use Rattle.hprof_text.specs.Image.{Image, DumpedObject, IsKnown}

-- the largest number of objects of a list, each of which has a cell of region 0
abbrev pub listed_limit : ℕ
listed_limit = 65536

-- the size of identifiers, and the image that is shown
pub record Listed : Type 0 where
  pub ids : IdSize
  pub image : Image

-- an object as a dump shows it
abbrev pub dumped_object : ListedObject → DumpedObject
dumped_object o = record { id = o.id; kind = o.kind; words = o.words.items }

-- the image of these classes, registers and objects
abbrev pub image_of_list : List Class → List ℕ → List ListedObject → Image
image_of_list classes registers objects =
    record { classes = classes; registers = registers; objects = map dumped_object objects }

-- the object's kind is known, and its words are few enough
abbrev pub IsListable : List Class → ListedObject → Type 0
IsListable classes o =
    IsKnown classes o.kind (length o.words.items) × (length o.words.items ≤ large_array_limit)

-- object i stands in region 0 at cell i
abbrev pub listed_place : ℕ → ObjRef
listed_place i = record { region = 0; cell = i }

-- the places of n objects, from cell k
abbrev pub listed_places : ℕ → ℕ → List ObjRef
listed_places k zero = []
listed_places k (suc n) = listed_place k ∷ listed_places (k + 1) n
