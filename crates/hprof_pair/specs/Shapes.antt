-- Classes and sizes of objects.
use Rattle.std.specs.Prelude.{ℕ, ◌==◌, ◌&&◌, Bool, false, slice_index_or, Option, Some, None, List, option_map}
use Rattle.heap_class.specs.Kinds.{type_code}
use Rattle.heap_step.specs.declared.Event.{Event}
use Rattle.heap_step.specs.declared.Event.TheVariants as events
use Rattle.hprof_pair.specs.declared.shapes.Shape.{Shape}
use Rattle.hprof_pair.specs.declared.shapes.Shape.TheVariants.{Instance, Array, Values}

-- the class and size of the object that an event makes
abbrev pub shape_made : Event → Option Shape
shape_made (events.New m r class) = Some (Instance class)
shape_made (events.NewArray m r class len) = Some (Array class len)
shape_made (events.NewPrim m r kind len) = Some (Values kind len)
shape_made _ = None

-- the event that makes such an object in register 5
abbrev pub making : Shape → Event
making (Instance class) = events.New 0 5 class
making (Array class len) = events.NewArray 0 5 class len
making (Values kind len) = events.NewPrim 0 5 kind len

-- whether two objects have the same class and size
abbrev pub is_same_shape : Shape → Shape → Bool
is_same_shape (Instance a) (Instance b) = a == b
is_same_shape (Array a m) (Array b n) = a == b && m == n
is_same_shape (Values a m) (Values b n) = type_code a == type_code b && m == n
is_same_shape _ _ = false

-- the number of class k of a dump in the heap, if it has one there
abbrev pub class_in : List (Option ℕ) → ℕ → Option ℕ
class_in numbers k = slice_index_or numbers k None

-- the class and size in a heap where the classes of the dump have these numbers
abbrev pub shape_in : List (Option ℕ) → Shape → Option Shape
shape_in numbers (Instance k) = option_map Instance (class_in numbers k)
shape_in numbers (Array k len) = option_map (λ c. Array c len) (class_in numbers k)
shape_in numbers (Values kind len) = Some (Values kind len)
