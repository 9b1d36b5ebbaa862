-- The text of `classes`.
use Rattle.std.specs.Prelude.{◌≡◌, ℕ, List, ◌∷◌, ◌++◌, codes, flat_map, length, if◌then◌else◌}
use Rattle.std.specs.List.{range_with_len}
use Rattle.std.specs.Option.{option_map_or}
use Rattle.heap_class.specs.declared.Field.{Field}
use Rattle.heap_class.specs.declared.Kind.{Kind}
use Rattle.heap_class.specs.Kinds.{kind_word}
use Rattle.heap_class.specs.Classes.{Class, fields_of, is_array_class, name_of, sup_of}
use Rattle.hprof_text.specs.Image.{Image}
use Rattle.session_text.specs.Replies.{and_number, line}
use Rattle.question_words.specs.Rows.{count_text}

-- a space, and a field as lines have it: its name, a colon and its kind
unfoldable pub field_words : List ℕ → Kind → List ℕ
field_words name k = (32 ∷ name ++ codes ":") ++ kind_word k

-- some fields, each after a space
abbrev pub and_fields : List Field → List ℕ
and_fields fields = flat_map (λ f. field_words f.name f.kind) fields

-- what stands for the super of class k: `array` if it is an array class, else a number or `-`
unfoldable pub super_words : List Class → ℕ → List ℕ
super_words classes k =
    if is_array_class classes k then codes " array"
    else option_map_or and_number (sup_of classes k) (codes " -")

-- the line of class k: its number, its name, its super and its own fields
unfoldable pub class_text : List Class → ℕ → List ℕ
class_text classes k =
    line
    ((((codes "row" ++ and_number k) ++ 32 ∷ name_of classes k) ++ super_words classes k)
    ++ and_fields (fields_of classes k))

-- the answer of `classes`
abbrev pub IsClassesText : Image → List ℕ → Type 0
IsClassesText image text =
    text
    ≡ flat_map (class_text image.classes) (range_with_len 0 (length image.classes))
    ++ count_text (length image.classes)
