-- The text of `show` with a depth.
use Rattle.std.specs.Prelude.{◌≡◌, ℕ, zero, suc, ◌+◌, nat_le, List, [], ◌∷◌, ◌++◌, codes, flat_map, length, slice_get, slice_index, unwrap_or, Bool, Option, Some, None, if◌then◌else◌}
use Rattle.std.specs.List.{range_with_len}
use Rattle.std.specs.Option.{option_map_or}
use Rattle.heap_class.specs.declared.Field.{Field}
use Rattle.heap_class.specs.declared.Kind.{Kind}
use Rattle.heap_class.specs.declared.ObjKind.{ObjKind}
use Rattle.heap_class.specs.declared.ObjKind.TheVariants.{Instance, Array, Prim}
use Rattle.heap_class.specs.declared.Refusal.TheVariants.{TooLarge}
use Rattle.heap_class.specs.Kinds.{is_reference, kind_word}
use Rattle.heap_class.specs.Classes.{Class, slot_kinds_of}
use Rattle.hprof_text.specs.Image.{DumpedObject, Image}
use Rattle.heap_questions.specs.Graph.{object_with}
use Rattle.session_text.specs.Replies.{and_number, line}
use Rattle.question_words.specs.Moments.{no_object_text, refused_text}
use Rattle.question_words.specs.Names.{class_name, fields_up}
use Rattle.question_rows.specs.Objects.{and_value, rows_joined, object_line}

-- ---- a slot

-- the name of slot s of the instances of class k: that of its field
unfoldable pub slot_name : List Class → ℕ → ℕ → List ℕ
slot_name classes k s =
    option_map_or (λ (f : Field). f.name)
    (slice_get (fields_up classes (length classes) (Some k)) s) []

-- a space, and the name of slot s of an object of this kind, or its number in an array
unfoldable pub and_slot_name : List Class → ObjKind → ℕ → List ℕ
and_slot_name classes (Instance k) s = codes " " ++ slot_name classes k s
and_slot_name classes (Array k) s = and_number s
and_slot_name classes (Prim kind) s = and_number s

-- the kind of slot s of an object, which it must have
unfoldable pub kind_at : List Class → DumpedObject → ℕ → Kind
kind_at classes o s =
    unwrap_or (slice_get (slot_kinds_of classes o.kind (length o.words)) s) Kind.Object

-- the object that slot s of an object names
unfoldable pub object_at_slot : Image → DumpedObject → ℕ → Option DumpedObject
object_at_slot image o s =
    if is_reference (kind_at image.classes o s) then object_with image (slice_index o.words s)
    else None

-- a space and the class of an object, if there is one
abbrev pub and_class : List Class → Option DumpedObject → List ℕ
and_class classes None = []
and_class classes (Some o) = codes " " ++ class_name classes o.kind

-- a space, a kind, and a word of it
abbrev pub and_kind_and_value : Kind → ℕ → List ℕ
and_kind_and_value k w = (codes " " ++ kind_word k) ++ and_value k w

-- the row of slot s of an object at this level, with the class of the object that it names
unfoldable pub tree_row : List Class → ℕ → DumpedObject → ℕ → Option DumpedObject → List ℕ
tree_row classes level o s named =
    line
    (((((codes "row" ++ and_number level) ++ and_number s) ++ and_slot_name classes o.kind s)
    ++ and_kind_and_value (kind_at classes o s) (slice_index o.words s)) ++ and_class classes named)

-- ---- levels

-- the rows of a slot that names this object, if it names one: its own, and behind it those that `below` tells of the object
abbrev pub branch_by : (DumpedObject → List (List ℕ)) → List Class → ℕ → DumpedObject → ℕ
    → Option DumpedObject
    → List (List ℕ)
branch_by below classes level o s named =
    tree_row classes level o s named ∷ option_map_or below named []

-- the rows of slot s of an object at this level
abbrev pub branch : (DumpedObject → List (List ℕ)) → Image → ℕ → DumpedObject → ℕ → List (List ℕ)
branch below image level o s =
    branch_by below image.classes level o s (object_at_slot image o s)

-- the rows of the first n slots of an object
abbrev pub branches : (DumpedObject → List (List ℕ)) → Image → ℕ → DumpedObject → ℕ
    → List (List ℕ)
branches below image level o n = flat_map (branch below image level o) (range_with_len 0 n)

-- the rows of an object's slots at this level, and of the objects below it, n levels down
abbrev pub tree_rows : ℕ → Image → ℕ → DumpedObject → List (List ℕ)
tree_rows zero image level o = branches (λ p. []) image level o (length o.words)
tree_rows (suc n) image level o =
    branches (λ p. tree_rows n image (level + 1) p) image level o (length o.words)

-- the most rows
abbrev pub row_limit : ℕ
row_limit = 65536

-- these rows of an object, and its line as in `show`; or there are too many rows
abbrev pub rows_text : List (List ℕ) → List ℕ → List ℕ
rows_text rows last =
    if nat_le (length rows) row_limit then rows_joined rows ++ last else refused_text TooLarge

-- the same of an object and of those below it, if it is there
abbrev pub tree_text : ℕ → Bool → Image → Option DumpedObject → List ℕ
tree_text n marked image None = no_object_text
tree_text n marked image (Some o) =
    rows_text (tree_rows n image 0 o) (object_line image.classes o.kind (length o.words) marked)

-- the answer of `show` with a depth
abbrev pub IsTreeText : ℕ → ℕ → Bool → Image → List ℕ → Type 0
IsTreeText x n marked image text = text ≡ tree_text n marked image (object_with image x)
