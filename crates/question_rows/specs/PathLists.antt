-- The text of `paths`.
use Rattle.std.specs.Prelude.{◌≡◌, ℕ, List, [], ◌∷◌, ◌++◌, flat_map, length, slice_get, Option, Some, None}
use Rattle.std.specs.Option.{option_map_or}
use Rattle.hprof_text.specs.Image.{DumpedObject, Image}
use Rattle.heap_questions.specs.Graph.{object_with}
use Rattle.heap_questions.specs.PathsApart.{AreFirstPaths, Route}
use Rattle.heap_questions.specs.declared.paths.Path.{Path}
use Rattle.question_words.specs.Moments.{no_object_text, unreachable_text}
use Rattle.question_rows.specs.Paths.{path_rows, root_text, step_texts}
use Rattle.question_words.specs.Rows.{count_text}

-- the rows of a path, as `path` has them
abbrev pub way_text : Image → Route → List ℕ
way_text image p =
    option_map_or (λ y. root_text p.register y ++ step_texts image y p.slots)
    (slice_get image.registers p.register) []

-- the rows of each path, and how many paths there are
abbrev pub ways_text : Image → List Route → List ℕ
ways_text image paths = flat_map (way_text image) paths ++ count_text (length paths)

-- the same of paths with their ids
abbrev pub list_text : List Path → List ℕ
list_text paths = flat_map path_rows paths ++ count_text (length paths)

-- the same of routes; without one, that no register reaches the object
abbrev pub paths_text : Image → List Route → List ℕ
paths_text image [] = unreachable_text
paths_text image (p ∷ ps) = ways_text image (p ∷ ps)

-- the first n paths to x of which no two start alike
abbrev pub IsFoundPathsText : ℕ → ℕ → Image → List ℕ → Type 0
IsFoundPathsText x n image text =
    (paths : List Route) × AreFirstPaths image n x paths × (text ≡ paths_text image paths)

-- the same about the object with this id, if there is one
abbrev pub IsPathsTextOf : Option DumpedObject → ℕ → ℕ → Image → List ℕ → Type 0
IsPathsTextOf None x n image text = text ≡ no_object_text
IsPathsTextOf (Some o) x n image text = IsFoundPathsText x n image text

-- the answer of `paths`
abbrev pub IsPathsText : ℕ → ℕ → Image → List ℕ → Type 0
IsPathsText x n image text = IsPathsTextOf (object_with image x) x n image text
