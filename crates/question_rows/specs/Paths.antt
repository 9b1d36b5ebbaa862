-- The text of `path`.
use Rattle.std.specs.Prelude.{◌≡◌, ◌⊎◌, ℕ, List, [], ◌∷◌, ◌++◌, codes, length, slice_get, Option, Some, None}
use Rattle.std.specs.Option.{option_map_or}
use Rattle.hprof_text.specs.Image.{DumpedObject, Image}
use Rattle.heap_questions.specs.Graph.{IsFirstPath, IsPathTo, IsShortest, IsUnreached, named, object_with}
use Rattle.heap_questions.specs.declared.paths.Hop.{Hop}
use Rattle.heap_questions.specs.declared.paths.Path.{Path}
use Rattle.session_text.specs.Replies.{and_number, line}
use Rattle.question_words.specs.Ids.{and_id}
use Rattle.question_words.specs.Moments.{no_object_text, unreachable_text}
use Rattle.question_rows.specs.Referrers.{and_register}
use Rattle.question_words.specs.Rows.{count_text}
use Rattle.question_words.specs.declared.rows.Unanswered.{Unanswered}
use Rattle.question_words.specs.declared.rows.Unanswered.TheVariants.{NoObject, Unreachable}

-- the line of register r, which names y
unfoldable pub root_text : ℕ → ℕ → List ℕ
root_text r y = line ((codes "row" ++ and_register r) ++ and_id y)

-- the line of slot s of y, which names z
unfoldable pub step_text : ℕ → ℕ → ℕ → List ℕ
step_text y s z = line (((codes "row" ++ and_id y) ++ and_number s) ++ and_id z)

-- the lines of these slots, which are followed from y
abbrev pub step_texts : Image → ℕ → List ℕ → List ℕ
step_texts image y [] = []
step_texts image y (s ∷ ss) =
    option_map_or (λ z. step_text y s z ++ step_texts image z ss) (named image y s) []

-- the lines of a path along these slots from register r, which names y
abbrev pub route_text : Image → ℕ → ℕ → List ℕ → List ℕ
route_text image r y slots =
    (root_text r y ++ step_texts image y slots) ++ count_text (length slots)

-- the lines of a path from register r along these slots
abbrev pub IsRouteText : Image → ℕ → List ℕ → List ℕ → Type 0
IsRouteText image r slots text =
    (y : ℕ) × (slice_get image.registers r ≡ Some y) × (text ≡ route_text image r y slots)

-- ---- a path with its ids

-- the lines of these steps, of which the first goes on from y
abbrev pub hop_texts : ℕ → List Hop → List ℕ
hop_texts y [] = []
hop_texts y (h ∷ hs) = step_text y h.slot h.to ++ hop_texts h.to hs

-- the rows of a path
abbrev pub path_rows : Path → List ℕ
path_rows p = root_text p.register p.start ++ hop_texts p.start p.hops.items

-- its lines
abbrev pub path_text : Path → List ℕ
path_text p = path_rows p ++ count_text (length p.hops.items)

-- why no path leads to an object: it isn't there, or no register reaches it
abbrev pub why_none : Option DumpedObject → Unanswered
why_none None = NoObject
why_none (Some o) = Unreachable

-- ---- the answer

-- of all shortest paths to x the first by register, then by slot; or no register reaches x
abbrev pub IsFoundText : ℕ → Image → List ℕ → Type 0
IsFoundText x image text =
    ((r : ℕ) × (slots : List ℕ) × IsPathTo image r slots x × IsShortest image slots x
    × IsFirstPath image r slots x × IsRouteText image r slots text)
    ⊎ (IsUnreached image x × (text ≡ unreachable_text))

-- the same about the object with this id, if there is one
abbrev pub IsPathTextOf : Option DumpedObject → ℕ → Image → List ℕ → Type 0
IsPathTextOf None x image text = text ≡ no_object_text
IsPathTextOf (Some o) x image text = IsFoundText x image text

-- the answer of `path`
abbrev pub IsPathText : ℕ → Image → List ℕ → Type 0
IsPathText x image text = IsPathTextOf (object_with image x) x image text
