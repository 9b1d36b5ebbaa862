-- The text of `show`.
use Rattle.std.specs.Prelude.{◌≡◌, ℕ, Bool, false, ◌+◌, List, [], ◌∷◌, ◌++◌, ◌-◌, codes, drop, flat_map, length, min, take, Option, Some, None, if◌then◌else◌}
use Rattle.std.specs.Option.{option_map_or}
use Rattle.heap_class.specs.declared.Field.{Field}
use Rattle.heap_class.specs.declared.Kind.{Kind}
use Rattle.heap_class.specs.declared.ObjKind.{ObjKind}
use Rattle.heap_class.specs.declared.ObjKind.TheVariants.{Instance, Array, Prim}
use Rattle.heap_class.specs.Kinds.{is_reference, kind_word}
use Rattle.heap_class.specs.Classes.{Class}
use Rattle.heap_world.specs.Regions.{object_of}
use Rattle.heap_world.specs.State.{HeapState}
use Rattle.heap_trail.specs.Machine.{Machine}
use Rattle.hprof_text.specs.Image.{DumpedObject, Image}
use Rattle.heap_questions.specs.Graph.{object_with}
use Rattle.session_text.specs.Replies.{and_number, line}
use Rattle.question_words.specs.declared.at.At.{At}
use Rattle.question_words.specs.declared.at.At.TheVariants.{Current, Pin, Place}
use Rattle.question_words.specs.declared.ranges.SlotRange.{SlotRange}
use Rattle.question_words.specs.declared.ranges.SlotRange.TheVariants.{AllSlots, FromSlot}
use Rattle.question_words.specs.Ids.{and_reference}
use Rattle.question_words.specs.Moments.{no_object_text}
use Rattle.question_words.specs.Names.{class_name}
use Rattle.question_words.specs.Names.{fields_up}

-- a word of this kind: an id or `null`, or a number
abbrev pub and_value : Kind → ℕ → List ℕ
and_value k w = if is_reference k then and_reference w else and_number w

-- the end of a slot's row: its kind and its word
unfoldable pub value_text : Kind → ℕ → List ℕ
value_text k w = line ((codes " " ++ kind_word k) ++ and_value k w)

-- the row of slot n, a field with this name
unfoldable pub field_row : ℕ → List ℕ → Kind → ℕ → List ℕ
field_row n name k w = (((codes "row" ++ and_number n) ++ codes " ") ++ name) ++ value_text k w

-- the row of element n
unfoldable pub element_row : Kind → ℕ → ℕ → List ℕ
element_row k n w = ((codes "row" ++ and_number n) ++ and_number n) ++ value_text k w

-- the rows of these fields with these words, numbered from n on
abbrev pub field_rows : ℕ → List Field → List ℕ → List (List ℕ)
field_rows n [] ws = []
field_rows n (f ∷ fs) [] = []
field_rows n (f ∷ fs) (w ∷ ws) = field_row n f.name f.kind w ∷ field_rows (n + 1) fs ws

-- the rows of elements of a kind with these words, numbered from n on
abbrev pub element_rows : Kind → ℕ → List ℕ → List (List ℕ)
element_rows k n [] = []
element_rows k n (w ∷ ws) = element_row k n w ∷ element_rows k (n + 1) ws

-- the rows of the slots of an object of this kind with these words
unfoldable pub slot_rows : List Class → ObjKind → List ℕ → List (List ℕ)
slot_rows classes (Instance k) ws = field_rows 0 (fields_up classes (length classes) (Some k)) ws
slot_rows classes (Array k) ws = element_rows Kind.Object 0 ws
slot_rows classes (Prim kind) ws = element_rows kind 0 ws

-- the rows of these slots: of those from one on as many as there are, but no more than n
abbrev pub rows_in : SlotRange → List (List ℕ) → List (List ℕ)
rows_in AllSlots rows = rows
rows_in (FromSlot first n) rows = take n (drop first rows)

-- of n slots the first of these, and their end
abbrev pub first_in : SlotRange → ℕ → ℕ
first_in AllSlots n = 0
first_in (FromSlot first count) n = min first n

abbrev pub end_in : SlotRange → ℕ → ℕ
end_in AllSlots n = n
end_in (FromSlot first count) n = min first n + min count (n - min first n)

-- rows, one after another
abbrev pub rows_joined : List (List ℕ) → List ℕ
rows_joined rows = flat_map (λ row. row) rows

-- what the last line says of an object that is marked
abbrev pub mark_text : Bool → List ℕ
mark_text marked = if marked then codes " marked" else []

-- the last line: the class, the number of the slots, and whether the object is marked
unfoldable pub object_line : List Class → ObjKind → ℕ → Bool → List ℕ
object_line classes kind n marked =
    line (((codes "ok object " ++ class_name classes kind) ++ and_number n) ++ mark_text marked)

-- the lines of an object, with the rows of these slots
abbrev pub object_text : List Class → DumpedObject → SlotRange → Bool → List ℕ
object_text classes o slots marked =
    rows_joined (rows_in slots (slot_rows classes o.kind o.words))
    ++ object_line classes o.kind (length o.words) marked

-- the same, if it is there
abbrev pub object_text_of : List Class → Option DumpedObject → SlotRange → Bool → List ℕ
object_text_of classes None slots marked = no_object_text
object_text_of classes (Some o) slots marked = object_text classes o slots marked

-- the answer of `show`
abbrev pub IsShowText : ℕ → SlotRange → Bool → Image → List ℕ → Type 0
IsShowText x slots marked image text =
    text ≡ object_text_of image.classes (object_with image x) slots marked

-- ---- marks

-- the object with this id is there and marked
unfoldable pub is_marked : HeapState → ℕ → Bool
is_marked w x = option_map_or (λ o. o.mark) (object_of w.regions x) false

-- the same, if the question is about the current state
abbrev pub shows_mark : At → Machine → ℕ → Bool
shows_mark Current m x = is_marked m.trail.current x
shows_mark (Pin pin) m x = false
shows_mark (Place place) m x = false
