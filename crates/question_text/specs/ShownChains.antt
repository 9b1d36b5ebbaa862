-- The answers of `show` along fields.
use Rattle.std.specs.Prelude.{◌≡◌, ℕ, Bool, List, [], ◌∷◌, slice_index, nat_lt, length, Option, Result, Ok, Err, if◌then◌else◌}
use Rattle.std.specs.Option.{option_map_or}
use Rattle.heap_class.specs.declared.ObjKind.{ObjKind}
use Rattle.heap_class.specs.declared.ObjKind.TheVariants.{Instance, Array, Prim}
use Rattle.heap_class.specs.declared.Refusal.TheVariants.{BadSlot, WrongKind}
use Rattle.heap_class.specs.Classes.{Class}
use Rattle.heap_questions.specs.Graph.{object_with, slot_refers}
use Rattle.heap_trail.specs.Machine.{Machine}
use Rattle.hprof_text.specs.Image.{DumpedObject, Image}
use Rattle.session_grammar.specs.Grammar.{number_of_word}
use Rattle.question_words.specs.declared.rows.Unanswered.{Unanswered}
use Rattle.question_words.specs.declared.rows.Unanswered.TheVariants.{NoObject}
use Rattle.question_words.specs.Moments.{IsAnswerAbout, image_at, unanswered_text}
use Rattle.question_grammar.specs.declared.chain.Chain.{Chain}
use Rattle.question_grammar.specs.declared.chain.Extent.{Extent}
use Rattle.question_grammar.specs.declared.chain.Extent.TheVariants.{Levels, Slots}
use Rattle.question_grammar.specs.NameWords.{slot_of_word}
use Rattle.question_rows.specs.Objects.{IsShowText, shows_mark}
use Rattle.question_rows.specs.Trees.{IsTreeText}

-- ---- one field

-- the slot of an object of this kind that a word names: by its number, or by the name of a field
unfoldable pub slot_of_kind : List Class → ObjKind → List ℕ → Option ℕ
slot_of_kind classes (Instance k) w = slot_of_word classes k w
slot_of_kind classes (Array k) w = number_of_word w
slot_of_kind classes (Prim kind) w = number_of_word w

-- what slot s of an object holds, if that is a reference, null or not
unfoldable pub reference_at : List Class → DumpedObject → ℕ → Result ℕ Unanswered
reference_at classes o s =
    if nat_lt s (length o.words)
    then (if slot_refers classes o.kind s then Ok (slice_index o.words s)
    else Err (Unanswered.Refused WrongKind))
    else Err (Unanswered.Refused BadSlot)

-- what a field of an object holds, which a word names
abbrev pub reference_by : List Class → DumpedObject → List ℕ → Result ℕ Unanswered
reference_by classes o w =
    option_map_or (λ s. reference_at classes o s) (slot_of_kind classes o.kind w)
    (Err (Unanswered.Refused BadSlot))

-- the same of the object x
abbrev pub reference_behind : Image → ℕ → List ℕ → Result ℕ Unanswered
reference_behind image x w =
    option_map_or (λ o. reference_by image.classes o w) (object_with image x) (Err NoObject)

-- ---- fields, one after another

-- what is done with a reference, if there is one
abbrev pub result_and_then : (ℕ → Result ℕ Unanswered) → Result ℕ Unanswered → Result ℕ Unanswered
result_and_then next (Ok x) = next x
result_and_then next (Err e) = Err e

-- the reference to which these fields lead from x
abbrev pub end_of : Image → List (List ℕ) → ℕ → Result ℕ Unanswered
end_of image [] x = Ok x
end_of image (w ∷ ws) x = result_and_then (λ y. end_of image ws y) (reference_behind image x w)

-- ---- the answer

-- what is shown of the object x
abbrev pub IsExtentText : Extent → ℕ → Bool → Image → List ℕ → Type 0
IsExtentText (Slots slots) x marked image text = IsShowText x slots marked image text
IsExtentText (Levels n) x marked image text = IsTreeText x n marked image text

-- the same of the object to which fields lead, if they do
abbrev pub IsEndText : Extent → Result ℕ Unanswered → (ℕ → Bool) → Image → List ℕ → Type 0
IsEndText extent (Ok x) marked image text = IsExtentText extent x (marked x) image text
IsEndText extent (Err e) marked image text = text ≡ unanswered_text e

-- the answer about an image, of which objects may be marked
abbrev pub IsChainText : Chain → (ℕ → Bool) → Image → List ℕ → Type 0
IsChainText c marked image text =
    IsEndText c.extent (end_of image c.fields c.id) marked image text

-- the answer about a machine
abbrev pub IsChainAnswer : Chain → Machine → List ℕ → Type 0
IsChainAnswer c m text =
    IsAnswerAbout (IsChainText c (λ x. shows_mark c.at m x)) (image_at c.at m) text
