-- The kinds of slots, and the sizes of their values in bytes.
use Rattle.std.specs.Prelude.{ℕ, ◌^◌, ◌*◌, Bool, true, false, List, codes}
use Rattle.heap_class.specs.declared.IdSize.{IdSize}
use Rattle.heap_class.specs.declared.IdSize.TheVariants.{Four, Eight}
use Rattle.heap_class.specs.declared.Kind.{Kind}
use Rattle.heap_class.specs.declared.Kind.TheVariants.{Boolean, Char, Float, Double, Byte, Short, Int, Long}

-- the size of an identifier in bytes
abbrev pub id_bytes : IdSize → ℕ
id_bytes Four = 4
id_bytes Eight = 8

-- the size of a value of the kind in a dump, in bytes
abbrev pub width_of : IdSize → Kind → ℕ
width_of ids Kind.Object = id_bytes ids
width_of ids Boolean = 1
width_of ids Char = 2
width_of ids Float = 4
width_of ids Double = 8
width_of ids Byte = 1
width_of ids Short = 2
width_of ids Int = 4
width_of ids Long = 8

-- the values of a kind are the numbers below this; of no use for references
abbrev pub value_limit : Kind → ℕ
value_limit Boolean = 2
value_limit k = 2 ^ (8 * width_of Eight k)

-- whether slots of the kind hold references
abbrev pub is_reference : Kind → Bool
is_reference Kind.Object = true
is_reference k = false

-- the byte that names a kind in a dump
abbrev pub type_code : Kind → ℕ
type_code Kind.Object = 2
type_code Boolean = 4
type_code Char = 5
type_code Float = 6
type_code Double = 7
type_code Byte = 8
type_code Short = 9
type_code Int = 10
type_code Long = 11

-- the word that names a kind in a session
abbrev pub kind_word : Kind → List ℕ
kind_word Kind.Object = codes "object"
kind_word Boolean = codes "boolean"
kind_word Char = codes "char"
kind_word Float = codes "float"
kind_word Double = codes "double"
kind_word Byte = codes "byte"
kind_word Short = codes "short"
kind_word Int = codes "int"
kind_word Long = codes "long"
