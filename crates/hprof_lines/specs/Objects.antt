-- The events that make objects, write their values and store their references.
use Rattle.std.specs.Prelude.{ℕ, ◌+◌, ◌==◌, ◌&&◌, ◌||◌, not, Bool, false, nat_eq, min, List, [], ◌∷◌, ◌++◌, flat_map, length, position, slice_index_or, Option, Some, None, option_and_then, if◌then◌else◌}
use Rattle.std.specs.List.{list_any}
use Rattle.heap_class.specs.declared.IdSize.{IdSize}
use Rattle.heap_class.specs.declared.Kind.{Kind}
use Rattle.heap_class.specs.declared.Kind.TheVariants as kinds
use Rattle.heap_class.specs.Classes.{is_array_class, is_instance_class}
use Rattle.heap_class.specs.Kinds.{is_reference}
use Rattle.heap_step.specs.declared.Event.{Event}
use Rattle.heap_step.specs.declared.Event.TheVariants.{New, NewArray, NewPrim, Put, Store}
use Rattle.indexmap.specs.IndexMap.{index_of}
use Rattle.hprof_reader.specs.SubRecords.{Sub, instance, array, prim}
use Rattle.hprof_session.specs.Places.{fetch_events, keep_event, place_events}
use Rattle.hprof_lines.specs.declared.objects.Objects.{Objects}
use Rattle.hprof_plan.specs.declared.planning.Plan.{Plan}
use Rattle.hprof_lines.specs.declared.values.SlotValue.{SlotValue}
use Rattle.hprof_lines.specs.Slots.{object_values}

-- what is known of the objects of a dump, wherever it lies in memory: the ids of the objects in order, which of them are made,
-- and the ids of the classes that have an object for their static fields
pub record ObjectsTold : Type 0 where
  pub plan : Plan
  pub ids : IdSize
  pub objects : List ℕ
  pub made : List Bool
  pub statics : List ℕ

abbrev pub objects_told : Objects → ObjectsTold
objects_told o = record {
  plan = o.plan.now;
  ids = o.ids;
  objects = o.objects.now.keys;
  made = o.made.now;
  statics = o.statics.now.keys;
}

-- ---- numbers

-- the number of the object at this place in the dump, if it is made, and else of the class with this id: the objects of classes
-- come first
abbrev pub numbered : ObjectsTold → ℕ → Option ℕ → Option ℕ
numbered o x (Some i) = if slice_index_or o.made i false then Some (length o.statics + i) else None
numbered o x None = position (nat_eq x) o.statics

-- the number of the object with this id, if it is made
unfoldable pub number_of : ObjectsTold → ℕ → Option ℕ
number_of o x = numbered o x (position (nat_eq x) o.objects)

-- ---- values

-- the value of a slot: a Boolean has 0 and 1
abbrev pub shown : Kind → ℕ → ℕ
shown kinds.Boolean value = 1
shown kind value = value

-- a value is written to the object of register 5, unless it is 0 or names an object
unfoldable pub value_events : SlotValue → List Event
value_events v =
    if is_reference v.kind || v.value == 0 then [] else Put 0 5 v.slot (shown v.kind v.value) ∷ []

-- ---- references

-- whether a slot names an object
unfoldable pub names_object : SlotValue → Bool
names_object v = is_reference v.kind && not (v.value == 0)

-- a slot of the object of register 5 is made to name this object, by way of register 6
abbrev pub stored : ℕ → Option ℕ → List Event
stored slot (Some n) = fetch_events n 6 ++ Store 0 5 slot 6 ∷ []
stored slot None = []

-- a slot is made to name the object that it names in the dump, if that is made
unfoldable pub reference_events : ObjectsTold → SlotValue → List Event
reference_events o v = if names_object v then stored v.slot (number_of o v.value) else []

-- the slots of object n are made to name the objects that they name in the dump, if there are any
unfoldable pub links_of : ObjectsTold → ℕ → List SlotValue → List Event
links_of o n values =
    if list_any names_object values then fetch_events n 5 ++ flat_map (reference_events o) values else []

-- ---- objects

-- an instance is made, if this is the number of an instance class
abbrev pub instance_made : Plan → ℕ → Option Event
instance_made p c = if is_instance_class p.classes c then Some (New 0 5 c) else None

-- an array of references is made, if this is the number of an array class
abbrev pub array_made : Plan → ℕ → ℕ → Option Event
array_made p count c = if is_array_class p.classes c then Some (NewArray 0 5 c (min count p.elements)) else None

-- the event that makes an object, if it is made
unfoldable pub making_event : Plan → Sub → Option Event
making_event p (instance x trace k bytes) = option_and_then (instance_made p) (index_of nat_eq p.kinds k)
making_event p (array x trace count k bytes) = option_and_then (array_made p count) (index_of nat_eq p.kinds k)
making_event p (prim x trace count kind bytes) =
    if is_reference kind then None else Some (NewPrim 0 5 kind (min count p.elements))
making_event p _ = None

-- object n is made by this event, if by any, its values are written, and it is kept
abbrev pub made_events : ℕ → List SlotValue → Option Event → List Event
made_events n values (Some e) = e ∷ flat_map value_events values ++ keep_event n ∷ []
made_events n values None = []

-- object n is made, and before it the arrays that keep it, if they aren't there
unfoldable pub object_events : ObjectsTold → ℕ → Sub → List Event
object_events o n s =
    place_events o.plan.roots n ++ made_events n (object_values o.plan o.ids s) (making_event o.plan s)
