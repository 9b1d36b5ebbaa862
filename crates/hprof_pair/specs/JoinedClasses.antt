-- The classes of a second dump in a heap that has those of a first.
use Rattle.std.specs.Prelude.{ℕ, List, [], ◌∷◌, ◌++◌, fold, length, map, position, Option, Some, None, is_none, option_map, if◌then◌else◌}
use Rattle.std.specs.Option.{option_map_or}
use Rattle.std.specs.Str.{bytes_eq}
use Rattle.heap_class.specs.declared.ClassLimits.{ClassLimits}
use Rattle.heap_class.specs.Classes.{Class, class_refusal}
use Rattle.session_lines.specs.EventLines.{line_of}
use Rattle.hprof_plan.specs.Accepted.{class_event, next_name}
use Rattle.hprof_pair.specs.Shapes.{class_in}

-- the classes of the heap, and the number there of each class of the second dump that was looked at, if it has one
pub record Joined : Type 0 where
  pub classes : List Class
  pub numbers : List (Option ℕ)

-- the line that defines a class
abbrev pub class_line : Class → List ℕ
class_line c = line_of (class_event c)

-- the number of the class that the same line defines, if there is one
abbrev pub number_of_line : List Class → Class → Option ℕ
number_of_line classes c = position (bytes_eq (class_line c)) (map class_line classes)

-- the class with another super
abbrev pub over : Class → Option ℕ → Class
over c sup = record { name = c.name; sup = sup; fields = c.fields; is_array = c.is_array }

-- the number in the heap of the super of a class, or none if it has no super; None if the super has no number there
abbrev pub super_over : List (Option ℕ) → Option ℕ → Option (Option ℕ)
super_over numbers None = Some None
super_over numbers (Some s) = option_map Some (class_in numbers s)

-- a class of the second dump as the heap has it: with the number of its super there; none if its super has none
abbrev pub class_over : List (Option ℕ) → Class → Option Class
class_over numbers c = option_map (over c) (super_over numbers c.sup)

-- the class with the name that it gets after these: its own, or another in its place
abbrev pub renamed : ClassLimits → List Class → Class → Class
renamed limits classes c =
    record { name = next_name limits classes c.name; sup = c.sup; fields = c.fields; is_array = c.is_array }

-- one more class has this number, or none
abbrev pub and_number : Joined → Option ℕ → Joined
and_number j k = record { classes = j.classes; numbers = j.numbers ++ k ∷ [] }

-- a further class is defined, if the heap takes it
abbrev pub and_defined : ClassLimits → Joined → Class → Joined
and_defined limits j c =
    if is_none (class_refusal limits j.classes c)
    then record { classes = j.classes ++ c ∷ []; numbers = j.numbers ++ Some (length j.classes) ∷ [] }
    else and_number j None

-- a class has the number of the class that the same line defines, or it is defined, by its name or another
abbrev pub and_found : ClassLimits → Joined → Class → Option ℕ → Joined
and_found limits j c (Some k) = and_number j (Some k)
and_found limits j c None = and_defined limits j (renamed limits j.classes c)

-- and one more class of the second dump
unfoldable pub and_class : ClassLimits → Joined → Class → Joined
and_class limits j c =
    option_map_or (λ h. and_found limits j h (number_of_line j.classes h)) (class_over j.numbers c) (and_number j None)

-- the classes of the second dump, one after another, in a heap that has those of the first
unfoldable pub classes_joined : ClassLimits → List Class → List Class → Joined
classes_joined limits first second = fold (and_class limits) (record { classes = first; numbers = [] }) second
