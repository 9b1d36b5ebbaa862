-- Where the objects of a dump are kept while their heap is made: in arrays of 1,024 slots, which stand in the slots of four such
-- arrays, which registers 0 to 3 name.
use Rattle.std.specs.Prelude.{◌≡◌, ℕ, ◌*◌, ◌+◌, ◌/◌, ◌%◌, ◌^◌, ◌<◌, ◌==◌, List, [], ◌∷◌, ◌++◌, flat_map, if◌then◌else◌}
use Rattle.heap_step.specs.declared.Event.{Event}
use Rattle.heap_step.specs.declared.Event.TheVariants.{NewArray, Load, Store}
use Rattle.session_lines.specs.EventLines.{line_of}

-- the lines of events
abbrev pub lines_of : List Event → List ℕ
lines_of events = flat_map line_of events

-- the register by which object n is found
abbrev pub top_of : ℕ → ℕ
top_of n = n / 2 ^ 20

-- the slot of the array that keeps object n
abbrev pub array_slot : ℕ → ℕ
array_slot n = n / 1024 % 1024

-- the slot of object n in that array
abbrev pub slot_of : ℕ → ℕ
slot_of n = n % 1024

-- the array of arrays for object n is made before the first object that it is for; `class` is that of all these arrays
abbrev pub top_events : ℕ → ℕ → List Event
top_events class n = if n % 2 ^ 20 == 0 then NewArray 0 (top_of n) class 1024 ∷ [] else []

-- and so is the array that keeps it, in register 4
abbrev pub array_events : ℕ → ℕ → List Event
array_events class n =
    if n % 1024 == 0 then NewArray 0 4 class 1024 ∷ Store 0 (top_of n) (array_slot n) 4 ∷ [] else []

-- the events before object n is made
abbrev pub place_events : ℕ → ℕ → List Event
place_events class n = top_events class n ++ array_events class n

-- object n, which register 5 names, is kept in the array of register 4
abbrev pub keep_event : ℕ → Event
keep_event n = Store 0 4 (slot_of n) 5

-- a register is made to name object n
abbrev pub fetch_events : ℕ → ℕ → List Event
fetch_events n register = Load 0 4 (top_of n) (array_slot n) ∷ Load 0 register 4 (slot_of n) ∷ []

-- an object below 2 ^ 22 has a place, and no other has that
abbrev pub ArePlaces : Type 0
ArePlaces = (n : ℕ) → n < 2 ^ 22
    → (top_of n < 4) × (array_slot n < 1024) × (slot_of n < 1024)
    × (n ≡ (top_of n * 1024 + array_slot n) * 1024 + slot_of n)
