-- The classes and slots that words name, by number or by name.
use Rattle.std.specs.Prelude.{ℕ, List, length, Option, Some, None, option_and_then, option_map}
use Rattle.std.specs.List.{position_from}
use Rattle.std.specs.Option.{option_or}
use Rattle.std.specs.Str.{bytes_eq}
use Rattle.heap_class.specs.declared.ObjKind.{ObjKind}
use Rattle.heap_class.specs.declared.ObjKind.TheVariants.{Instance, Array, Prim}
use Rattle.heap_class.specs.Classes.{Class}
use Rattle.heap_world.specs.Regions.{object_of}
use Rattle.heap_world.specs.State.{HeapState}
use Rattle.session_grammar.specs.Grammar.{number_of_word}
use Rattle.question_words.specs.Ids.{id_of_word}
use Rattle.question_words.specs.Names.{fields_up}

-- the number of the class with this name
unfoldable pub class_named : List Class → List ℕ → Option ℕ
class_named classes name = position_from (λ c. bytes_eq c.name name) 0 classes

-- the class that a word names: by its number, or by its name
unfoldable pub class_of_word : List Class → List ℕ → Option ℕ
class_of_word classes w = option_or (number_of_word w) (class_named classes w)

-- the first slot with this name in the instances of class k: own fields come before inherited ones
unfoldable pub slot_named : List Class → ℕ → List ℕ → Option ℕ
slot_named classes k name =
    position_from (λ f. bytes_eq f.name name) 0 (fields_up classes (length classes) (Some k))

-- the slot of the instances of class k that a word names: by its number, or by its name
unfoldable pub slot_of_word : List Class → ℕ → List ℕ → Option ℕ
slot_of_word classes k w = option_or (number_of_word w) (slot_named classes k w)

-- the class and the slot that two words name
unfoldable pub class_and_slot_named : List Class → List ℕ → List ℕ → Option (ℕ × ℕ)
class_and_slot_named classes w v =
    option_and_then (λ k. option_map (λ s. (k, s)) (slot_of_word classes k v))
    (class_of_word classes w)

-- ---- objects

-- the class of an instance
abbrev pub instance_of : ObjKind → Option ℕ
instance_of (Instance k) = Some k
instance_of (Array k) = None
instance_of (Prim kind) = None

-- the class of the instance with this id
unfoldable pub class_of_id : HeapState → ℕ → Option ℕ
class_of_id state x = option_and_then (λ o. instance_of o.kind) (object_of state.regions x)

-- the first slot with this name in the object with this id
unfoldable pub slot_of_object_named : HeapState → ℕ → List ℕ → Option ℕ
slot_of_object_named state x name =
    option_and_then (λ k. slot_named state.classes k name) (class_of_id state x)

-- the slot of the object with this id that a word names: by its number, or by its name
unfoldable pub slot_of_object : HeapState → ℕ → List ℕ → Option ℕ
slot_of_object state x w = option_or (number_of_word w) (slot_of_object_named state x w)

-- the id and the slot that two words name
unfoldable pub id_and_slot_named : HeapState → List ℕ → List ℕ → Option (ℕ × ℕ)
id_and_slot_named state w v =
    option_and_then (λ x. option_map (λ s. (x, s)) (slot_of_object state x v)) (id_of_word w)
