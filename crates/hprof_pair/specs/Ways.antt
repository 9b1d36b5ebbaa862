-- How the objects of the first dump are found again in its heap, from the array of its roots on.
use Rattle.std.specs.Prelude.{◌≡◌, ◌⊎◌, ⊤, ℕ, ◌+◌, ◌/◌, ◌%◌, nat_eq, true, List, [], ◌∷◌, ◌++◌, flat_map, fold, length, map, Option, Some, None, if◌then◌else◌}
use Rattle.std.specs.List.{AllByRecursion, Contains, IsDistinct, list_any}
use Rattle.heap_step.specs.declared.Event.{Event}
use Rattle.heap_step.specs.declared.Event.TheVariants.{Load}
use Rattle.hprof_session.specs.Places.{array_slot, fetch_events, keep_event, top_of}
use Rattle.hprof_plan.specs.declared.items.RootFound.{RootFound}
use Rattle.hprof_lines.specs.declared.values.SlotValue.{SlotValue}
use Rattle.hprof_lines.specs.Objects.{ObjectsTold, names_object, number_of}
use Rattle.hprof_lines.specs.Roots.{arrays_for, roots_named, with_room}
use Rattle.hprof_pair.specs.declared.ways.Hold.{Hold}
use Rattle.hprof_pair.specs.declared.ways.Hold.TheVariants.{Root, Slot}
use Rattle.hprof_pair.specs.declared.ways.Way.{Way}
use Rattle.hprof_pair.specs.Dumps.{DumpTold, values_of}

-- ---- ways

-- the ways to the roots of a kind, from root i on, whose arrays stand from this slot of the array of register 7 on
unfoldable pub kind_ways : ℕ → ℕ → List ℕ → List Way
kind_ways first i [] = []
kind_ways first i (n ∷ numbers) =
    record { number = n; hold = Root (first + i / 1024) (i % 1024) } ∷ kind_ways first (i + 1) numbers

-- the ways to the roots of each of these kinds
unfoldable pub root_ways : ObjectsTold → List RootFound → ℕ → List ℕ → List Way
root_ways o roots first [] = []
root_ways o roots first (tag ∷ tags) =
    let numbers = with_room first (roots_named o tag roots) in
    kind_ways first 0 numbers ++ root_ways o roots (first + arrays_for (length numbers)) tags

-- the way by this slot of object n to an object, if one is named
abbrev pub way_to : ℕ → ℕ → Option ℕ → List Way
way_to n slot (Some k) = record { number = k; hold = Slot n slot } ∷ []
way_to n slot None = []

-- the way by a slot of object n to the object that it names, if that is made
unfoldable pub slot_ways : ObjectsTold → ℕ → SlotValue → List Way
slot_ways o n v = if names_object v then way_to n v.slot (number_of o v.value) else []

-- the ways by all slots of object n
abbrev pub ways_out : DumpTold → ℕ → List Way
ways_out d n = flat_map (slot_ways d.all n) (values_of d n)

-- the numbers of the objects that ways lead to
abbrev pub numbers_of : List Way → List ℕ
numbers_of ways = map (λ (w : Way). w.number) ways

-- the ways, and this one, if none of them leads where it leads
abbrev pub with_way : List Way → Way → List Way
with_way ways w = if list_any (nat_eq w.number) (numbers_of ways) then ways else ways ++ w ∷ []

-- the same with these, one after another
unfoldable pub with_ways : List Way → List Way → List Way
with_ways ways more = fold with_way ways more

-- one of the ways leads where this one leads
abbrev pub IsReached : List Way → Way → Type 0
IsReached ways w = list_any (nat_eq w.number) (numbers_of ways) ≡ true

-- a way is one to a root, or one by a slot of an object to which one of the ways before leads
abbrev pub IsWay : DumpTold → List Way → List Way → Way → Type 0
IsWay d roots before w =
    Contains roots w ⊎ ((v : Way) × Contains before v × Contains (ways_out d v.number) w)

-- so is each of these ways, after those before
abbrev pub AreInTurn : DumpTold → List Way → List Way → List Way → Type 0
AreInTurn d roots before [] = ⊤
AreInTurn d roots before (w ∷ ways) = IsWay d roots before w × AreInTurn d roots (before ++ w ∷ []) ways

-- these ways lead to each object that the roots reach, one to each, and each begins at a root or where one before it ended
pub record AreWays (d : DumpTold) (roots : List Way) (ways : List Way) : Type 0 where
  pub once : IsDistinct nat_eq (numbers_of ways)
  pub in_turn : AreInTurn d roots [] ways
  pub to_roots : AllByRecursion (IsReached ways) roots
  pub onwards : AllByRecursion (λ (v : Way). AllByRecursion (IsReached ways) (ways_out d v.number)) ways

-- ---- events

-- the object that a way leads to is loaded to register 5
abbrev pub hold_events : Hold → List Event
hold_events (Root array slot) = Load 0 5 7 array ∷ Load 0 5 5 slot ∷ []
hold_events (Slot n slot) = fetch_events n 5 ++ Load 0 5 5 slot ∷ []

-- the object of register 5 is kept as object n
abbrev pub shelve_events : ℕ → List Event
shelve_events n = Load 0 4 (top_of n) (array_slot n) ∷ keep_event n ∷ []

-- the object that a way leads to is found, and kept by its number
abbrev pub way_events : Way → List Event
way_events w = hold_events w.hold ++ shelve_events w.number
