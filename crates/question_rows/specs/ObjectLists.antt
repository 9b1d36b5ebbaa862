-- The text of `objects`.
use Rattle.std.specs.Prelude.{◌≡◌, ℕ, Bool, true, false, List, [], ◌∷◌, ◌++◌, codes, flat_map, length, Option, Some, None}
use Rattle.heap_class.specs.Classes.{Class}
use Rattle.heap_class.specs.declared.Refusal.{Refusal}
use Rattle.hprof_text.specs.Image.{Image}
use Rattle.heap_questions.specs.declared.wanted.Wanted.{Wanted}
use Rattle.heap_questions.specs.declared.object_list.ListedObject.{ListedObject}
use Rattle.heap_questions.specs.ObjectLists.{AreObjectsWanted}
use Rattle.session_text.specs.Replies.{and_number, line}
use Rattle.question_words.specs.ClassSlots.{wanted_refusal}
use Rattle.question_words.specs.Ids.{and_id}
use Rattle.question_words.specs.Moments.{refused_text}
use Rattle.question_words.specs.Names.{IsClassThere, class_name}
use Rattle.question_words.specs.Rows.{count_text}

-- the class of a listed object is there
abbrev pub IsListedThere : List Class → ListedObject → Type 0
IsListedThere classes o = IsClassThere classes o.kind

-- what a row says of an object that no register reaches
abbrev pub unreached_words : Bool → List ℕ
unreached_words true = codes " unreached"
unreached_words false = []

-- the line of an object: its id, its class, the number of its slots, and whether no register reaches it
unfoldable pub listed_text : List Class → ListedObject → List ℕ
listed_text classes o =
    line
    ((((codes "row" ++ and_id o.id) ++ 32 ∷ class_name classes o.kind) ++ and_number o.slots)
    ++ unreached_words o.unreached)

-- the text is the lines of the objects that are wanted, and their number
abbrev pub AreObjectsTold : Wanted → Image → List ℕ → Type 0
AreObjectsTold wanted image text =
    (all : List ListedObject) × AreObjectsWanted wanted image all
    × (text ≡ flat_map (listed_text image.classes) all ++ count_text (length all))

-- the same, or why none can be listed
abbrev pub IsObjectsTextOf : Option Refusal → Wanted → Image → List ℕ → Type 0
IsObjectsTextOf None wanted image text = AreObjectsTold wanted image text
IsObjectsTextOf (Some e) wanted image text = text ≡ refused_text e

-- the answer of `objects`
abbrev pub IsObjectsText : Wanted → Image → List ℕ → Type 0
IsObjectsText wanted image text =
    IsObjectsTextOf (wanted_refusal image.classes wanted) wanted image text
