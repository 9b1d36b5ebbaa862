-- The roots of a dump, kept in arrays of their kinds.
use Rattle.std.specs.Prelude.{ℕ, ◌+◌, ◌-◌, ◌*◌, ◌/◌, ◌%◌, ◌==◌, min, List, [], ◌∷◌, ◌++◌, flat_map, length, take, if◌then◌else◌}
use Rattle.std.specs.Option.{option_to_list}
use Rattle.heap_step.specs.declared.Event.{Event}
use Rattle.heap_step.specs.declared.Event.TheVariants.{Clear, NewArray, Store}
use Rattle.hprof_session.specs.Places.{fetch_events}
use Rattle.hprof_plan.specs.declared.items.RootFound.{RootFound}
use Rattle.hprof_lines.specs.Objects.{ObjectsTold, number_of}

-- the number of the object that a root of this tag names
abbrev pub root_named : ObjectsTold → ℕ → RootFound → List ℕ
root_named o tag r = if r.tag == tag then option_to_list (number_of o r.id) else []

-- the numbers of the objects that roots of this tag name
abbrev pub roots_named : ObjectsTold → ℕ → List RootFound → List ℕ
roots_named o tag roots = flat_map (root_named o tag) roots

-- before root i of `count` of a kind, an array for this and the 1,023 roots after it, of this class, in the next slot of
-- register 7 from `first` on
abbrev pub root_array : ℕ → ℕ → ℕ → ℕ → List Event
root_array class first count i =
    if i % 1024 == 0 then NewArray 0 5 class (min (count - i) 1024) ∷ Store 0 7 (first + i / 1024) 5 ∷ [] else []

-- root i of a kind names object n
abbrev pub root_events : ℕ → ℕ → ℕ → ℕ → ℕ → List Event
root_events class first count i n =
    root_array class first count i ++ fetch_events n 6 ++ Store 0 5 (i % 1024) 6 ∷ []

-- roots of a kind, from root i on, name these objects
unfoldable pub roots_from : ℕ → ℕ → ℕ → ℕ → List ℕ → List Event
roots_from class first count i [] = []
roots_from class first count i (n ∷ numbers) = root_events class first count i n ++ roots_from class first count (i + 1) numbers

-- as many of the roots of a kind as there is room for, after the first `first` arrays
abbrev pub with_room : ℕ → List ℕ → List ℕ
with_room first numbers = take ((1024 - first) * 1024) numbers

-- roots of a kind, whose arrays have this class and stand from this slot of register 7 on
abbrev pub kind_events : ℕ → ℕ → List ℕ → List Event
kind_events class first numbers = roots_from class first (length numbers) 0 numbers

-- the number of arrays that `count` roots take
abbrev pub arrays_for : ℕ → ℕ
arrays_for count = (count + 1023) / 1024

-- the roots of each of these kinds, whose arrays have the classes from this on and stand from this slot of register 7 on
unfoldable pub kinds_events : ObjectsTold → List RootFound → ℕ → ℕ → List ℕ → List Event
kinds_events o roots class first [] = []
kinds_events o roots class first (tag ∷ tags) =
    let numbers = with_room first (roots_named o tag roots) in
    kind_events class first numbers ++ kinds_events o roots (class + 1) (first + arrays_for (length numbers)) tags

-- a register is cleared
abbrev pub clear_event : ℕ → List Event
clear_event r = Clear 0 r ∷ []

-- registers 0 to 6 are cleared
abbrev pub clear_events : List Event
clear_events = flat_map clear_event (0 ∷ 1 ∷ 2 ∷ 3 ∷ 4 ∷ 5 ∷ 6 ∷ [])

-- the events that keep the roots: register 7 names the array of their arrays, which is of class `roots`; the classes after that
-- are those of the kinds, which have these tags. At last register 7 alone names an object
unfoldable pub roots_events : ObjectsTold → List RootFound → List ℕ → List Event
roots_events o roots tags =
    NewArray 0 7 o.plan.roots 1024 ∷ kinds_events o roots (o.plan.roots + 1) 0 tags ++ clear_events
