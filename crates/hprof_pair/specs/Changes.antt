-- What is written to the slots of objects of the second dump.
use Rattle.std.specs.Prelude.{ℕ, ◌+◌, ◌==◌, Bool, not, nat_lt, List, [], ◌∷◌, ◌++◌, flat_map, min, slice_index_or, Option, Some, None, if◌then◌else◌}
use Rattle.std.specs.Option.{option_eq, option_map_or}
use Rattle.std.specs.Prelude.{nat_eq}
use Rattle.heap_class.specs.declared.Kind.{Kind}
use Rattle.heap_class.specs.declared.Kind.TheVariants as kinds
use Rattle.heap_class.specs.Kinds.{is_reference}
use Rattle.heap_step.specs.declared.Event.{Event}
use Rattle.heap_step.specs.declared.Event.TheVariants.{Clear, Put, Store}
use Rattle.hprof_session.specs.Places.{fetch_events}
use Rattle.hprof_lines.specs.declared.values.SlotValue.{SlotValue}
use Rattle.hprof_pair.specs.Dumps.{count_of, values_of}
use Rattle.hprof_pair.specs.Pairs.{PairTold, first_named, heap_number, second_named}

-- ---- which slots

-- what a slot of this kind holds for a value of the dump: a Boolean has 0 and 1
abbrev pub held : Kind → ℕ → ℕ
held kinds.Boolean value = min value 1
held kind value = value

-- what the slot holds in a new object: 0 or null
abbrev pub unset : SlotValue → SlotValue
unset v = record { slot = v.slot; kind = v.kind; value = 0 }

-- whether a slot holds another value, or names another object, in the second dump than in the first
unfoldable pub differs : PairTold → SlotValue → SlotValue → Bool
differs p old v =
    if is_reference v.kind then not (option_eq nat_eq (first_named p old) (second_named p v))
    else not (held v.kind old.value == held v.kind v.value)

-- the value, if its slot held another
abbrev pub changed : PairTold → SlotValue → SlotValue → List SlotValue
changed p old v = if differs p old v then v ∷ [] else []

-- those of these values, from place i on, that differ from the values before at the same places; behind these slots are unset
unfoldable pub changes_from : PairTold → List SlotValue → ℕ → List SlotValue → List SlotValue
changes_from p before i [] = []
changes_from p before i (v ∷ values) =
    changed p (slice_index_or before i (unset v)) v ++ changes_from p before (i + 1) values

-- the values that an object with this number held in the first dump: none, if it is new
abbrev pub values_before : PairTold → ℕ → List SlotValue
values_before p k = if nat_lt k (count_of p.first) then values_of p.first k else []

-- ---- events

-- a slot of the object of register 5 is made to name this object or none, by way of register 6
abbrev pub named_events : ℕ → Option ℕ → List Event
named_events slot (Some k) = fetch_events k 6 ++ Store 0 5 slot 6 ∷ []
named_events slot None = Clear 0 6 ∷ Store 0 5 slot 6 ∷ []

-- a slot of the object of register 5 is written
unfoldable pub slot_events : PairTold → SlotValue → List Event
slot_events p v =
    if is_reference v.kind then named_events v.slot (second_named p v) else Put 0 5 v.slot (held v.kind v.value) ∷ []

-- these slots of object k are written, if there are any
abbrev pub slots_events : PairTold → ℕ → List SlotValue → List Event
slots_events p k [] = []
slots_events p k (v ∷ values) = fetch_events k 5 ++ flat_map (slot_events p) (v ∷ values)

-- the slots of object n of the second dump that differ are written, if it stayed or was made
unfoldable pub change_events : PairTold → ℕ → List Event
change_events p n =
    option_map_or (λ k. slots_events p k (changes_from p (values_before p k) 0 (values_of p.second n))) (heap_number p n) []
