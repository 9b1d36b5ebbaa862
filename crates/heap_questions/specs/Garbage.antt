-- The objects that no register reaches.
use Rattle.std.specs.Prelude.{◌≡◌, ◌↔◌, ℕ, Bool, true, List, Contains, filter}
use Rattle.heap_class.specs.declared.IdSize.{IdSize}
use Rattle.hprof_text.specs.Image.{Image, DumpedObject}
use Rattle.heap_questions.specs.declared.rows.Row.{Row}
use Rattle.heap_questions.specs.declared.nodes.Node.{Node}
use Rattle.heap_questions.specs.Graph.{IsUnreached}
use Rattle.heap_questions.specs.Histogram.{rows_of}
use Rattle.heap_questions.specs.Search.{is_found, node_with}

-- the test holds of an object of the image exactly if no register reaches it
abbrev pub TellsUnreached : Image → (DumpedObject → Bool) → Type 0
TellsUnreached image test =
    (o : DumpedObject) → Contains image.objects o → (test o ≡ true) ↔ IsUnreached image o.id

-- the rows count exactly the objects that no register reaches
abbrev pub IsGarbage : IdSize → Image → List Row → Type 0
IsGarbage ids image rows =
    (test : DumpedObject → Bool) × TellsUnreached image test
    × (rows ≡ rows_of ids image.classes (filter test image.objects))

-- ---- a search

-- the node with this id was found
abbrev pub is_reached : List Node → List Bool → ℕ → Bool
is_reached nodes seen x = is_found seen (node_with nodes x)
