-- The names of what a count's rows count, of objects' classes, and of fields.
use Rattle.std.specs.Prelude.{ℕ, ◌-◌, ◌<◌, ◌==◌, length, nat_lt, List, [], ◌++◌, codes, find, if◌then◌else◌, zero, suc, Option, Some, None}
use Rattle.std.specs.Option.{option_map_or}
use Rattle.heap_class.specs.declared.Kind.{Kind}
use Rattle.heap_class.specs.declared.ObjKind.{ObjKind}
use Rattle.heap_class.specs.declared.ObjKind.TheVariants.{Instance, Array, Prim}
use Rattle.heap_class.specs.Kinds.{kind_word}
use Rattle.heap_class.specs.Classes.{Class, name_of, fields_of, sup_of}
use Rattle.heap_questions.specs.Histogram.{class_rows, kind_row}
use Rattle.session_grammar.specs.Grammar.{all_kinds}
use Rattle.heap_class.specs.declared.Field.{Field}

-- the name of the arrays of values of a kind
abbrev pub kind_array_name : Kind → List ℕ
kind_array_name k = kind_word k ++ codes "[]"

-- the name of the arrays of values that row g counts
unfoldable pub array_name : ℕ → List ℕ
array_name g = option_map_or kind_array_name (find (λ k. kind_row k == g) all_kinds) []

-- the name of what row g counts
unfoldable pub row_name : List Class → ℕ → List ℕ
row_name classes g =
    if nat_lt g class_rows then array_name g else name_of classes (g - class_rows)

-- the name of the class of an object of this kind
unfoldable pub class_name : List Class → ObjKind → List ℕ
class_name classes (Instance k) = name_of classes k
class_name classes (Array k) = name_of classes k
class_name classes (Prim kind) = kind_array_name kind

-- the class of an object of this kind is there
abbrev pub IsClassThere : List Class → ObjKind → Type 0
IsClassThere classes (Instance k) = k < length classes
IsClassThere classes (Array k) = k < length classes
IsClassThere classes (Prim kind) = Unit {0}

-- the fields of a class and of the supers above it, up to n classes in all: its own, then its super's, and so on
abbrev pub fields_up : List Class → ℕ → Option ℕ → List Field
fields_up classes zero k = []
fields_up classes (suc n) None = []
fields_up classes (suc n) (Some k) = fields_of classes k ++ fields_up classes n (sup_of classes k)
