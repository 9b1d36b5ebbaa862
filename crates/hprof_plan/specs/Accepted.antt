-- Classes that a heap takes, one after another, and the lines that define them.
use Rattle.std.specs.Prelude.{◌≡◌, ℕ, List, [], ◌∷◌, ◌++◌, length, map, None, flat_map, cond}
use Rattle.heap_class.specs.declared.ClassLimits.{ClassLimits}
use Rattle.heap_class.specs.Classes.{Class, class_refusal}
use Rattle.heap_step.specs.declared.Event.{Event}
use Rattle.heap_step.specs.declared.Event.TheVariants as events
use Rattle.session_lines.specs.EventLines.{line_of}
use Rattle.hprof_plan.specs.Names.{given_name}

-- the event that defines a class
abbrev pub class_event : Class → Event
class_event c = cond c.is_array (events.ArrayClass c.name) (events.Class c.name c.sup c.fields)

-- the lines that define classes
abbrev pub class_lines : List Class → List ℕ
class_lines classes = flat_map (λ c. line_of (class_event c)) classes

-- a heap with these limits and the classes `before` takes these, one after another: it refuses none
abbrev pub AreAccepted : ClassLimits → List Class → List Class → Type 0
AreAccepted limits before [] = Unit {0}
AreAccepted limits before (c ∷ cs) = (class_refusal limits before c ≡ None) × AreAccepted limits (before ++ c ∷ []) cs

-- the names of classes
abbrev pub class_names : List Class → List (List ℕ)
class_names classes = map (λ c. c.name) classes

-- the name that a further class gets
abbrev pub next_name : ClassLimits → List Class → List ℕ → List ℕ
next_name limits classes name = given_name limits (class_names classes) (length classes) name
