-- The objects of a dump, by their numbers: first those of static fields, then those of the dump in its order.
use Rattle.std.specs.Prelude.{ℕ, ◌+◌, ◌-◌, Bool, false, nat_lt, List, [], ◌∷◌, ◌++◌, length, map, slice_get, slice_index_or, Option, Some, None, option_and_then, if◌then◌else◌}
use Rattle.std.specs.Option.{option_map_or}
use Rattle.hprof_reader.specs.declared.fields.StaticField.{StaticField}
use Rattle.hprof_reader.specs.SubRecords.{Sub, sub_record}
use Rattle.hprof_session.specs.Walks.{ItemTold, record_told, sub_told}
use Rattle.hprof_plan.specs.declared.planning.Statics.{Statics}
use Rattle.hprof_lines.specs.declared.values.SlotValue.{SlotValue}
use Rattle.hprof_lines.specs.Objects.{ObjectsTold, making_event, objects_told}
use Rattle.hprof_lines.specs.Passes.{is_turn, next_place}
use Rattle.hprof_lines.specs.Slots.{object_values}
use Rattle.hprof_lines.specs.Values.{statics_from}
use Rattle.hprof_pair.specs.declared.dump.Dump.{Dump}
use Rattle.hprof_pair.specs.declared.shapes.Shape.{Shape}
use Rattle.hprof_pair.specs.declared.shapes.Shape.TheVariants.{Instance}
use Rattle.hprof_pair.specs.Shapes.{shape_made}

-- what is known of a dump, wherever it lies in memory: its objects, and their sub-records in order
pub record DumpTold : Type 0 where
  pub all : ObjectsTold
  pub subs : List Sub

abbrev pub dump_told : Dump → DumpTold
dump_told d = record { all = objects_told d.all; subs = map sub_record d.subs.now }

-- ---- sub-records in order

-- the sub-record of the object at place i, if an item is that
abbrev pub sub_in : List ℕ → ℕ → ItemTold → List Sub
sub_in objects i (record_told r) = []
sub_in objects i (sub_told s) = if is_turn objects i s then s ∷ [] else []

-- the sub-records of the objects with these ids in these items, from the object at place i on
unfoldable pub subs_from : List ℕ → ℕ → List ItemTold → List Sub
subs_from objects i [] = []
subs_from objects i (it ∷ items) = sub_in objects i it ++ subs_from objects (next_place objects i it) items

-- ---- objects by number

-- how many objects have a number
abbrev pub count_of : DumpTold → ℕ
count_of d = length d.all.statics + length d.subs

-- whether object n is one of static fields
abbrev pub is_static : DumpTold → ℕ → Bool
is_static d n = nat_lt n (length d.all.statics)

-- the sub-record of object n, if it isn't one of static fields
abbrev pub sub_of : DumpTold → ℕ → Option Sub
sub_of d n = slice_get d.subs (n - length d.all.statics)

-- whether that is made
abbrev pub is_sub_made : DumpTold → ℕ → Bool
is_sub_made d n = slice_index_or d.all.made (n - length d.all.statics) false

-- class and size of an object of static fields, or of an object of the dump if it is made; its class by the number in its plan
unfoldable pub shape_of : DumpTold → ℕ → Option Shape
shape_of d n =
    if is_static d n then Some (Instance (length d.all.plan.kinds.entries + n))
    else if is_sub_made d n then option_and_then (λ s. option_and_then shape_made (making_event d.all.plan s)) (sub_of d n) else None

-- the static fields that the object with this number has
abbrev pub static_fields : DumpTold → ℕ → List StaticField
static_fields d n = option_map_or (λ (s : Statics). s.fields.items) (slice_get d.all.plan.statics.items n) []

-- the values of the slots of object n
unfoldable pub values_of : DumpTold → ℕ → List SlotValue
values_of d n =
    if is_static d n then statics_from 0 (static_fields d n) else option_map_or (object_values d.all.plan d.all.ids) (sub_of d n) []
