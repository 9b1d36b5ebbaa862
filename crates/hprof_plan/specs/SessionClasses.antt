-- The classes of the session of a dump.
use Rattle.std.specs.Prelude.{ℕ, ◌-◌, nat_eq, nat_lt, ◌&&◌, List, [], ◌∷◌, ◌++◌, codes, filter, fold, length, map, min, take, Option, Some, None, option_and_then, if◌then◌else◌}
use Rattle.std.specs.List.{list_any}
use Rattle.std.specs.Map.{keys_of, lookup, values_of}
use Rattle.std.specs.Option.{option_map_or}
use Rattle.std.specs.Prelude.{position, Bool, false}
use Rattle.heap_class.specs.declared.ClassLimits.{ClassLimits}
use Rattle.heap_class.specs.declared.Kind.{Kind}
use Rattle.heap_class.specs.Classes.{Class, array_class, instance_class, is_instance_class, slots_of}
use Rattle.heap_class.specs.Kinds.{is_reference}
use Rattle.heap_class.specs.Limits.{slot_limit}
use Rattle.hprof_reader.specs.declared.fields.OwnField.{OwnField}
use Rattle.hprof_reader.specs.Fields.{StaticTold}
use Rattle.hprof_reader.specs.SubRecords.{ClassTold}
use Rattle.hprof_plan.specs.Accepted.{next_name}
use Rattle.hprof_plan.specs.ClassFields.{class_name_at, own_named, static_named}
use Rattle.hprof_plan.specs.Fields.{own_fields, static_fields}
use Rattle.hprof_plan.specs.Items.{id_parts}
use Rattle.hprof_plan.specs.Tables.{classes_told, names_told}
use Rattle.hprof_plan.specs.declared.dump.Found.{Found}

-- ---- a class of the dump

-- the class with this id
abbrev pub class_at : Found → ℕ → Option ClassTold
class_at f id = lookup (nat_eq id) (classes_told f.classes.entries)

-- its name
abbrev pub name_in : Found → ℕ → List ℕ
name_in f id = class_name_at (names_told f.names.entries) f.loads.entries id

-- its own fields, up to the first whose kind doesn't exist
abbrev pub fields_in : Found → ℕ → List OwnField
fields_in f id = option_map_or (λ c. own_fields f.ids c.fields.count c.fields.bytes) (class_at f id) []

-- whether arrays of references have this class
abbrev pub is_array_in : Found → ℕ → Bool
is_array_in f id = list_any (nat_eq id) f.array_classes.keys

-- the kinds of its own fields; none of an array class
unfoldable pub kinds_in : Found → ℕ → List Kind
kinds_in f id = if is_array_in f id then [] else map (λ (g : OwnField). g.kind) (fields_in f id)

-- ---- classes of the session, one after another

-- the number, if it is that of an instance class
abbrev pub instance_number : List Class → ℕ → Option ℕ
instance_number classes k = if is_instance_class classes k then Some k else None

-- the number of the super of a class that comes after these, if that is an instance class among them
abbrev pub super_after : Found → List (ℕ × Class) → ℕ → Option ℕ
super_after f done id =
    option_and_then (λ (c : ClassTold). option_and_then (instance_number (values_of done)) (position (nat_eq c.head.super_id) (keys_of done)))
    (class_at f id)

-- how many own fields a class with this super may have
abbrev pub field_room : List Class → Option ℕ → ℕ
field_room classes sup = slot_limit - length (option_map_or (slots_of classes) sup [])

-- an instance class with this super after these: it has the first of its own fields
abbrev pub instance_after : ClassLimits → Found → List Class → Option ℕ → ℕ → Class
instance_after limits f classes sup id =
    instance_class (next_name limits classes (name_in f id)) sup
    (own_named limits (names_told f.names.entries) (take (field_room classes sup) (fields_in f id)))

-- the class with this id after these
unfoldable pub class_after : ClassLimits → Found → List (ℕ × Class) → ℕ → Class
class_after limits f done id =
    if is_array_in f id then array_class (next_name limits (values_of done) (name_in f id))
    else instance_after limits f (values_of done) (super_after f done id) id

-- the classes with these ids
unfoldable pub dump_classes : ClassLimits → Found → List ℕ → List (ℕ × Class)
dump_classes limits f ids = fold (λ done id. done ++ (id, class_after limits f done id) ∷ []) [] ids

-- ---- static fields

-- whether a static field names an object of the dump
abbrev pub names_object : Found → StaticTold → Bool
names_object f s =
    is_reference s.kind && option_map_or (λ x. list_any (nat_eq x.0) f.objects.keys) (id_parts f.ids s.value) false

-- the first static fields of the class with this id, at most 64
abbrev pub statics_in : Found → ℕ → List StaticTold
statics_in f id =
    option_map_or (λ c. static_fields f.ids (min c.statics.count 64) c.statics.bytes) (class_at f id) []

-- those of the classes with these ids where one of them names an object of the dump
unfoldable pub with_objects : Found → List ℕ → List (ℕ × List StaticTold)
with_objects f ids = filter (λ e. list_any (names_object f) e.1) (map (λ id. (id, statics_in f id)) ids)

-- a class of static fields after these: its name is that of the class, and `.static`
abbrev pub static_class : ClassLimits → Found → List Class → ℕ × List StaticTold → Class
static_class limits f classes e =
    instance_class (next_name limits classes (name_in f e.0 ++ codes ".static")) None
    (static_named limits (names_told f.names.entries) e.1)

-- these classes, and then those of static fields
unfoldable pub and_statics : ClassLimits → Found → List Class → List (ℕ × List StaticTold) → List Class
and_statics limits f classes statics = fold (λ done e. done ++ static_class limits f done e ∷ []) classes statics

-- these static fields of a class, if one of them names an object of the dump and there is room for another class after these
abbrev pub static_if : ℕ → Found → List Class → ℕ × List StaticTold → List (ℕ × List StaticTold)
static_if room f classes e = if list_any (names_object f) e.1 && nat_lt (length classes) room then e ∷ [] else []

-- ---- roots

-- the class `roots`, and those of the arrays of each kind of roots
abbrev pub root_names : List (List ℕ)
root_names =
    codes "roots" ∷ codes "JNI_global" ∷ codes "JNI_local" ∷ codes "Java_frame" ∷ codes "native_stack"
    ∷ codes "sticky_class" ∷ codes "thread_block" ∷ codes "monitor_used" ∷ codes "thread_object"
    ∷ codes "unknown_root" ∷ []

-- these classes, and then array classes with these names
unfoldable pub and_arrays : ClassLimits → List Class → List (List ℕ) → List Class
and_arrays limits classes names = fold (λ done n. done ++ array_class (next_name limits done n) ∷ []) classes names
