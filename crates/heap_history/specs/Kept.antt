-- Which entries are kept whole.
use Rattle.std.specs.Prelude.{ℕ, ◌&&◌, Bool, true, false, List, ◌++◌, Option, None, Some, if◌then◌else◌, length, map, nat_le, slice_get}
use Rattle.std.specs.List.{flat_map}
use Rattle.std.specs.Option.{option_map_or}
use Rattle.heap_class.specs.declared.Field.{Field}
use Rattle.heap_step.specs.declared.Event.{Event}
use Rattle.heap_step.specs.declared.Event.TheVariants.{Class, ArrayClass}
use Rattle.heap_trail.specs.declared.Action.{Action}
use Rattle.heap_trail.specs.declared.Action.TheVariants.{Step, Rewind}
use Rattle.heap_history.specs.declared.entry.Entry.{Entry}

-- how many letters the names of a definition that is kept have together, at most
abbrev pub letter_room : ℕ
letter_room = 96

-- how many fields a definition that is kept has, at most
abbrev pub field_room : ℕ
field_room = 8

-- the letters of a class's name and of its fields' names
abbrev pub all_letters : List ℕ → List Field → List ℕ
all_letters name fields = name ++ flat_map (λ f. f.name) fields

-- the fields are few, and the names are short
abbrev pub is_short : List ℕ → List Field → Bool
is_short name fields =
    nat_le (length fields) field_room && nat_le (length (all_letters name fields)) letter_room

-- an event that defines no class, or one with few fields and short names
abbrev pub is_kept_event : Event → Bool
is_kept_event (Class name sup fields) = is_short name fields
is_kept_event (ArrayClass name) = nat_le (length name) letter_room
is_kept_event e = true

-- such an event, or a rewind
abbrev pub is_kept_action : Action → Bool
is_kept_action (Step e) = is_kept_event e
is_kept_action (Rewind n) = true
is_kept_action a = false

-- whether an entry is kept whole, until it is dropped
abbrev pub is_kept : Entry → Bool
is_kept e = is_kept_action e.action

-- what is kept of an entry: all of it, or nothing
unfoldable pub kept_of : Entry → Option Entry
kept_of e = if is_kept e then Some e else None

-- what is kept of each
unfoldable pub kept_entries : List Entry → List (Option Entry)
kept_entries es = map kept_of es

-- if this number of entries was dropped, whether the entry at an index is known: it is kept, or there is none
unfoldable pub is_known_at : ℕ → List Entry → ℕ → Bool
is_known_at dropped es at =
    nat_le dropped at && option_map_or is_kept (slice_get es at) true
