-- Passes over the objects of a dump.
use Rattle.std.specs.Prelude.{ℕ, ◌+◌, ◌^◌, ◌==◌, ◌&&◌, Bool, false, nat_eq, nat_lt, List, [], ◌∷◌, ◌++◌, is_some, length, position, slice_index_or, Option, Some, None, if◌then◌else◌}
use Rattle.std.specs.Option.{option_map_or}
use Rattle.heap_step.specs.declared.Event.{Event}
use Rattle.hprof_reader.specs.SubRecords.{Sub, instance, array, prim}
use Rattle.hprof_session.specs.Walks.{Left, ItemTold, record_told, sub_told, IsNext, AreNext}
use Rattle.hprof_lines.specs.declared.passes.Pass.{Pass}
use Rattle.hprof_lines.specs.declared.passes.Pass.TheVariants.{Making, Linking}
use Rattle.hprof_plan.specs.declared.planning.Plan.{Plan}
use Rattle.hprof_lines.specs.Objects.{ObjectsTold, links_of, making_event, object_events}
use Rattle.hprof_lines.specs.Slots.{object_values}

-- the walk comes to these items, and no item is next after them: the dump ends there or has its first fault
pub record IsWhole (w : Left) (items : List ItemTold) : Type 0 where
  pub end : Left
  pub walked : AreNext w items end
  pub ended : (i : ItemTold) (v : Left) → ¬ IsNext end i v

-- ---- objects in turn

-- the id of an object
abbrev pub id_of : Sub → Option ℕ
id_of (instance x trace k values) = Some x
id_of (array x trace count k elements) = Some x
id_of (prim x trace count kind elements) = Some x
id_of _ = None

-- whether a sub-record is the object at this place among the objects of the dump
unfoldable pub is_turn : List ℕ → ℕ → Sub → Bool
is_turn objects i s = option_map_or (λ x. option_map_or (λ k. k == i) (position (nat_eq x) objects) false) (id_of s) false

-- the place of the next object after an item
abbrev pub next_place : List ℕ → ℕ → ItemTold → ℕ
next_place objects i (record_told r) = i
next_place objects i (sub_told s) = if is_turn objects i s then i + 1 else i

-- ---- objects that are made

-- whether the object at place i is made, with `before` objects before the first: its class has a number, and it has a place
unfoldable pub is_made : Plan → ℕ → ℕ → Sub → Bool
is_made p before i s = is_some (making_event p s) && nat_lt (before + i) (2 ^ 22)

-- the same of an object in turn, and nothing of any other item
abbrev pub made_in : Plan → List ℕ → ℕ → ℕ → ItemTold → List Bool
made_in p objects before i (record_told r) = []
made_in p objects before i (sub_told s) = if is_turn objects i s then is_made p before i s ∷ [] else []

-- whether each object is made, from place i on
unfoldable pub made_from : Plan → List ℕ → ℕ → ℕ → List ItemTold → List Bool
made_from p objects before i [] = []
made_from p objects before i (it ∷ items) =
    made_in p objects before i it ++ made_from p objects before (next_place objects i it) items

-- ---- passes

-- the events of the object at place i in a pass: it is made, or its slots are made to name objects
unfoldable pub events_at : Pass → ObjectsTold → ℕ → Sub → List Event
events_at Making o i s = if nat_lt (length o.statics + i) (2 ^ 22) then object_events o (length o.statics + i) s else []
events_at Linking o i s =
    if slice_index_or o.made i false then links_of o (length o.statics + i) (object_values o.plan o.ids s) else []

-- the events of an item in a pass
abbrev pub item_events : Pass → ObjectsTold → ℕ → ItemTold → List Event
item_events pass o i (record_told r) = []
item_events pass o i (sub_told s) = if is_turn o.objects i s then events_at pass o i s else []

-- the events of a pass over items, from the object at place i on
unfoldable pub pass_events : Pass → ObjectsTold → ℕ → List ItemTold → List Event
pass_events pass o i [] = []
pass_events pass o i (it ∷ items) = item_events pass o i it ++ pass_events pass o (next_place o.objects i it) items
