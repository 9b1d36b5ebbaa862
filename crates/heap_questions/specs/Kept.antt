-- The objects that are reached, and that an older image hasn't.
use Rattle.std.specs.Prelude.{◌≡◌, ◌↔◌, ℕ, Bool, true, ◌&&◌, List, Contains, filter, is_none}
use Rattle.heap_class.specs.declared.IdSize.{IdSize}
use Rattle.hprof_text.specs.Image.{Image, DumpedObject}
use Rattle.heap_questions.specs.declared.rows.Row.{Row}
use Rattle.heap_questions.specs.declared.nodes.Node.{Node}
use Rattle.heap_questions.specs.Garbage.{is_reached}
use Rattle.heap_questions.specs.Graph.{HasId, HasPath}
use Rattle.heap_questions.specs.Histogram.{rows_of}
use Rattle.heap_questions.specs.Search.{node_with}

-- x is reached in the newer image, and the older has no object with this id
abbrev pub IsKeptSince : Image → Image → ℕ → Type 0
IsKeptSince older newer x = (¬ HasId older x) × HasPath newer x

-- the test holds of an object of the newer image exactly if it is so
abbrev pub TellsKept : Image → Image → (DumpedObject → Bool) → Type 0
TellsKept older newer test =
    (o : DumpedObject) → Contains newer.objects o → (test o ≡ true) ↔ IsKeptSince older newer o.id

-- the rows count exactly these objects
abbrev pub AreKept : IdSize → Image → Image → List Row → Type 0
AreKept ids older newer rows =
    (test : DumpedObject → Bool) × TellsKept older newer test
    × (rows ≡ rows_of ids newer.classes (filter test newer.objects))

-- ---- a search

-- what the nodes of the older image, and a search in the newer, tell of x
abbrev pub is_kept : List Node → List Node → List Bool → ℕ → Bool
is_kept before nodes seen x = is_none (node_with before x) && is_reached nodes seen x
