-- The texts of `dominators` and `dominator`.
use Rattle.std.specs.Prelude.{◌≡◌, ◌⊎◌, ℕ, List, [], ◌∷◌, ◌++◌, codes, flat_map, length, Option, Some, None}
use Rattle.std.specs.Option.{option_map_or}
use Rattle.heap_class.specs.declared.IdSize.{IdSize}
use Rattle.heap_class.specs.declared.ObjKind.{ObjKind}
use Rattle.heap_class.specs.Classes.{Class}
use Rattle.hprof_text.specs.Image.{DumpedObject, Image}
use Rattle.heap_questions.specs.Graph.{HasPath, IsUnreached, object_with}
use Rattle.heap_dominators.specs.Rows.{AreFirstRows}
use Rattle.heap_dominators.specs.Upward.{AreDominatorsUp, IsImmediateDominator, IsTop}
use Rattle.heap_dominators.specs.declared.rows.TopObject.{TopObject}
use Rattle.session_text.specs.Replies.{and_number, line}
use Rattle.question_words.specs.Ids.{and_id}
use Rattle.question_words.specs.Moments.{no_object_text, unreachable_text}
use Rattle.question_words.specs.Names.{IsClassThere, class_name}
use Rattle.question_words.specs.Rows.{count_text}

-- the class of an object that no other dominates is there
abbrev pub IsTopThere : List Class → TopObject → Type 0
IsTopThere classes t = IsClassThere classes t.kind

-- the line of an object that no other dominates: its id, how many objects it dominates, their bytes, and its class
unfoldable pub top_text : List Class → TopObject → List ℕ
top_text classes t =
    line
    ((((codes "row" ++ and_id t.id) ++ and_number t.objects) ++ and_number t.bytes)
    ++ 32 ∷ class_name classes t.kind)

-- the lines of these rows, and how many they are
abbrev pub tops_text : List Class → List TopObject → List ℕ
tops_text classes tops = flat_map (top_text classes) tops ++ count_text (length tops)

-- the rows that are asked for, of the objects that are to be shown, and how many they are
abbrev pub AreTopLines : (ℕ → Type 0) → Option ℕ → IdSize → Image → List ℕ → Type 0
AreTopLines Shown most ids image text =
    (tops : List TopObject) × AreFirstRows ids image Shown most tops
    × (text ≡ tops_text image.classes tops)

-- the answer of `dominators`: of the objects that no other dominates
abbrev pub IsDominatorsText : Option ℕ → IdSize → Image → List ℕ → Type 0
IsDominatorsText most ids image text = AreTopLines (IsTop image) most ids image text

-- the same of the objects that x dominates immediately; or no register reaches x
abbrev pub IsBelowText : ℕ → Option ℕ → IdSize → Image → List ℕ → Type 0
IsBelowText x most ids image text =
    (HasPath image x × AreTopLines (IsImmediateDominator image x) most ids image text)
    ⊎ (IsUnreached image x × (text ≡ unreachable_text))

-- the same about the object with this id, if there is one
abbrev pub IsDominatedTextOf : Option DumpedObject → ℕ → Option ℕ → IdSize → Image → List ℕ → Type 0
IsDominatedTextOf None x most ids image text = text ≡ no_object_text
IsDominatedTextOf (Some o) x most ids image text = IsBelowText x most ids image text

-- the answer of `dominators` and an id
abbrev pub IsDominatedText : ℕ → Option ℕ → IdSize → Image → List ℕ → Type 0
IsDominatedText x most ids image text =
    IsDominatedTextOf (object_with image x) x most ids image text

-- the line of an object that dominates another: its id and its class
unfoldable pub holder_text : List Class → ℕ → ObjKind → List ℕ
holder_text classes x kind = line ((codes "row" ++ and_id x) ++ 32 ∷ class_name classes kind)

-- the line of the object with this id
abbrev pub above_text : Image → ℕ → List ℕ
above_text image x =
    option_map_or (λ o. holder_text image.classes x o.kind) (object_with image x) []

-- the lines of these objects, and how many they are
abbrev pub up_text : Image → List ℕ → List ℕ
up_text image up = flat_map (above_text image) up ++ count_text (length up)

-- from x up each is the immediate dominator of the one before; or no register reaches x
abbrev pub IsUpText : ℕ → Image → List ℕ → Type 0
IsUpText x image text =
    ((up : List ℕ) × AreDominatorsUp image x up × (text ≡ up_text image up))
    ⊎ (IsUnreached image x × (text ≡ unreachable_text))

-- the same about the object with this id, if there is one
abbrev pub IsDominatorTextOf : Option DumpedObject → ℕ → Image → List ℕ → Type 0
IsDominatorTextOf None x image text = text ≡ no_object_text
IsDominatorTextOf (Some o) x image text = IsUpText x image text

-- the answer of `dominator`
abbrev pub IsDominatorText : ℕ → Image → List ℕ → Type 0
IsDominatorText x image text = IsDominatorTextOf (object_with image x) x image text
