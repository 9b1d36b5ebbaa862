-- The objects that the records of a dump tell, as a heap has them.
use Rattle.std.specs.Prelude.{ℕ, ◌+◌, ◌^◌, nat_eq, nat_lt, min, List, [], ◌∷◌, ◌++◌, length, Option, Some, None, option_and_then, if◌then◌else◌}
use Rattle.heap_class.specs.declared.IdSize.{IdSize}
use Rattle.heap_class.specs.declared.ObjKind.{ObjKind}
use Rattle.heap_class.specs.declared.ObjKind.TheVariants.{Instance, Array, Prim}
use Rattle.heap_class.specs.Classes.{is_array_class, is_instance_class, slots_of}
use Rattle.heap_class.specs.Kinds.{is_reference}
use Rattle.indexmap.specs.IndexMap.{index_of}
use Rattle.hprof_reader.specs.SubRecords.{Sub, instance, array, prim}
use Rattle.hprof_session.specs.Walks.{ItemTold, record_told, sub_told}
use Rattle.hprof_plan.specs.declared.planning.Plan.{Plan}
use Rattle.hprof_plan.specs.declared.planning.Statics.{Statics}
use Rattle.hprof_lines.specs.declared.values.SlotValue.{SlotValue}
use Rattle.hprof_lines.specs.Objects.{ObjectsTold}
use Rattle.hprof_lines.specs.Passes.{is_turn, next_place}
use Rattle.hprof_lines.specs.Slots.{object_values}
use Rattle.hprof_lines.specs.Values.{statics_from}

-- an object: its kind, its number of slots, and values of slots
pub record ObjectTold : Type 0 where
  pub kind : ObjKind
  pub slots : ℕ
  pub values : List SlotValue

-- an instance of the class with this number, if that is an instance class
abbrev pub instance_told : Plan → List SlotValue → ℕ → Option ObjectTold
instance_told p values c =
    if is_instance_class p.classes c
    then Some (record { kind = Instance c; slots = length (slots_of p.classes c); values = values }) else None

-- an array of references of the class with this number, if that is an array class
abbrev pub array_told : Plan → ℕ → List SlotValue → ℕ → Option ObjectTold
array_told p count values c =
    if is_array_class p.classes c
    then Some (record { kind = Array c; slots = min count p.elements; values = values }) else None

-- the object that a sub-record tells, if its class has a number: that of the class with this id
unfoldable pub object_told : Plan → IdSize → Sub → Option ObjectTold
object_told p ids (instance x trace k bytes) =
    option_and_then (instance_told p (object_values p ids (instance x trace k bytes))) (index_of nat_eq p.kinds k)
object_told p ids (array x trace count k bytes) =
    option_and_then (array_told p count (object_values p ids (array x trace count k bytes))) (index_of nat_eq p.kinds k)
object_told p ids (prim x trace count kind bytes) =
    if is_reference kind then None
    else Some (record { kind = Prim kind; slots = min count p.elements; values = object_values p ids (prim x trace count kind bytes) })
object_told p ids _ = None

-- the object of the static fields of a class, with this number: its own class comes after those of the dump
abbrev pub static_told : Plan → ℕ → Statics → ObjectTold
static_told p n s = record {
  kind = Instance (length p.kinds.entries + n);
  slots = length (slots_of p.classes (length p.kinds.entries + n));
  values = statics_from 0 s.fields.items;
}

-- the objects of static fields, from this number on
unfoldable pub statics_told : Plan → ℕ → List Statics → List (Option ObjectTold)
statics_told p n [] = []
statics_told p n (s ∷ statics) = Some (static_told p n s) ∷ statics_told p (n + 1) statics

-- the object at place i, if there is a number for it
abbrev pub numbered_told : ObjectsTold → ℕ → Sub → Option ObjectTold
numbered_told o i s = if nat_lt (length o.statics + i) (2 ^ 22) then object_told o.plan o.ids s else None

-- the same of an item that is the object at place i, and nothing of any other item
abbrev pub told_in : ObjectsTold → ℕ → ItemTold → List (Option ObjectTold)
told_in o i (record_told r) = []
told_in o i (sub_told s) = if is_turn o.objects i s then numbered_told o i s ∷ [] else []

-- the objects of items, from place i on
unfoldable pub told_from : ObjectsTold → ℕ → List ItemTold → List (Option ObjectTold)
told_from o i [] = []
told_from o i (it ∷ items) = told_in o i it ++ told_from o (next_place o.objects i it) items

-- the objects of a dump by their numbers, with None for one that isn't made: those of static fields, and those of its records
abbrev pub objects_of_dump : ObjectsTold → List ItemTold → List (Option ObjectTold)
objects_of_dump o items = statics_told o.plan 0 o.plan.statics.items ++ told_from o 0 items
