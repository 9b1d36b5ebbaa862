-- The rows of several paths.
use Rattle.std.proofs.Common.{◌≡◌, ◌∙◌, ◌++◌, ◌<◌, ℕ, List, [], ◌∷◌, ap, length, map, refl, sym, arith}
use Rattle.std.specs.Prelude.{All, IsSome, Option, Some, None, flat_map}
use Rattle.std.specs.List.{AllByRecursion}
use Rattle.std.specs.Option.{option_map_or}
use Rattle.std.proofs.lemmas.List.{length-map}
use Rattle.std.proofs.lemmas.List.Elements.{recursion_from_All}
use Rattle.hprof_text.specs.Image.{DumpedObject, Image}
use Rattle.heap_questions.specs.Graph.{object_with}
use Rattle.heap_questions.specs.Hops.{TellsIds, slots_of}
use Rattle.heap_questions.specs.PathsApart.{AreFirstPaths, route_of}
use Rattle.heap_questions.specs.declared.paths.Path.{Path}
use Rattle.question_rows.proofs.PathTexts.{hops_are_steps}
use Rattle.question_rows.specs.PathLists.{IsFoundPathsText, IsPathsText, IsPathsTextOf, list_text, way_text, ways_text}
use Rattle.question_rows.specs.Paths.{path_rows, root_text, step_texts, why_none}
use Rattle.question_words.specs.Moments.{unanswered_text}
use Rattle.question_words.specs.Rows.{count_text}

path_is_way : (image : Image) (p : Path) → TellsIds image p → path_rows p ≡ way_text image (route_of p)
path_is_way image p t =
    ap (λ (steps : List ℕ). root_text p.register p.start ++ steps) (hops_are_steps image p.start p.hops.items t.hops)
    ∙ sym (ap (λ (o : Option ℕ). option_map_or (λ y. root_text p.register y ++ step_texts image y (slots_of p.hops.items)) o []) t.start)

-- the rows, path by path
rows_are_ways : (image : Image) (paths : List Path) → AllByRecursion (TellsIds image) paths → flat_map path_rows paths ≡ flat_map (way_text image) (map route_of paths)
rows_are_ways image [] t = refl
rows_are_ways image (p ∷ ps) t =
    ap (λ (rows : List ℕ). rows ++ flat_map path_rows ps) (path_is_way image p t.0) ∙ ap (λ (rows : List ℕ). way_text image (route_of p) ++ rows) (rows_are_ways image ps t.1)

-- the rows of all, and how many paths there are
list_is_ways : (image : Image) (paths : List Path) → AllByRecursion (TellsIds image) paths → list_text paths ≡ ways_text image (map route_of paths)
list_is_ways image paths t =
    ap (λ (rows : List ℕ). rows ++ count_text (length paths)) (rows_are_ways image paths t)
    ∙ ap (λ (n : ℕ). flat_map (way_text image) (map route_of paths) ++ count_text n) (sym (length-map paths route_of))

-- the object is there, if there is a path
first_leads : (image : Image) (n x : ℕ) (p : Path) (ps : List Path) → AreFirstPaths image n x (map route_of (p ∷ ps)) → IsSome (object_with image x)
first_leads image n x p ps a = (a.next 0 (route_of p) refl).apart.path.there

of_object : (image : Image) (n x : ℕ) (text : List ℕ) (o : Option DumpedObject) → IsSome o → IsFoundPathsText x n image text → IsPathsTextOf o x n image text
of_object image n x text None there found = absurd (cc there)
of_object image n x text (Some o) there found = found

-- the answer, if there are paths
pub paths_told : (image : Image) (n x : ℕ) (paths : List Path) (text : List ℕ) → 0 < length paths → AreFirstPaths image n x (map route_of paths) → All (TellsIds image) paths → text ≡ list_text paths → IsPathsText x n image text
paths_told image n x [] text some first ids is = absurd (omega (arith, some))
paths_told image n x (p ∷ ps) text some first ids is =
    of_object image n x text (object_with image x) (first_leads image n x p ps first)
    (map route_of (p ∷ ps), first, is ∙ list_is_ways image (p ∷ ps) (recursion_from_All (TellsIds image) (p ∷ ps) ids))

none_of : (image : Image) (n x : ℕ) (o : Option DumpedObject) → AreFirstPaths image n x [] → IsPathsTextOf o x n image (unanswered_text (why_none o))
none_of image n x None first = refl
none_of image n x (Some o) first = ([], first, refl)

no_routes : (image : Image) (n x : ℕ) (paths : List Path) → length paths ≡ 0 → AreFirstPaths image n x (map route_of paths) → AreFirstPaths image n x []
no_routes image n x [] none first = first
no_routes image n x (p ∷ ps) none first = absurd (omega (arith, none))

-- the answer, if there is none
pub no_paths_told : (image : Image) (n x : ℕ) (paths : List Path) → length paths ≡ 0 → AreFirstPaths image n x (map route_of paths) → IsPathsText x n image (unanswered_text (why_none (object_with image x)))
no_paths_told image n x paths none first = none_of image n x (object_with image x) (no_routes image n x paths none first)
