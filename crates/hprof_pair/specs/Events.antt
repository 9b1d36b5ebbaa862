-- The events that make the heap of the second dump out of that of the first.
use Rattle.std.specs.Prelude.{ℕ, zero, suc, ◌+◌, ◌==◌, ◌^◌, List, [], ◌∷◌, ◌++◌, flat_map, length, min, nat_lt, if◌then◌else◌}
use Rattle.std.specs.Option.{option_map_or, option_to_list}
use Rattle.heap_step.specs.declared.Event.{Event}
use Rattle.heap_step.specs.declared.Event.TheVariants.{NewArray}
use Rattle.hprof_session.specs.Places.{place_events}
use Rattle.hprof_plan.specs.declared.items.RootFound.{RootFound}
use Rattle.hprof_lines.specs.Roots.{arrays_for, clear_events, kind_events, with_room}
use Rattle.hprof_pair.specs.declared.shapes.Shape.{Shape}
use Rattle.hprof_pair.specs.declared.ways.Way.{Way}
use Rattle.hprof_pair.specs.Changes.{change_events}
use Rattle.hprof_pair.specs.Dumps.{count_of}
use Rattle.hprof_pair.specs.Pairs.{PairTold, heap_number, named_number, second_shape}
use Rattle.hprof_pair.specs.Shapes.{making}
use Rattle.hprof_pair.specs.Ways.{shelve_events, way_events}

-- the events of each number from n on, `count` of them
unfoldable pub events_from : (ℕ → List Event) → ℕ → ℕ → List Event
events_from events n zero = []
events_from events n (suc count) = events n ++ events_from events (n + 1) count

-- for how many objects there are arrays that keep them: for those of both dumps, as many as have a place
abbrev pub shelved_count : PairTold → ℕ
shelved_count p = min (count_of p.first + count_of p.second) (2 ^ 22)

-- the arrays that keep objects: their class is `roots`
abbrev pub shelves_events : PairTold → List Event
shelves_events p = events_from (place_events p.first.all.plan.roots) 0 (shelved_count p)

-- an object of this class and size is made and kept by this number, if it is none of the first dump
abbrev pub new_events : PairTold → ℕ → Shape → List Event
new_events p k shape = if nat_lt k (count_of p.first) then [] else making shape ∷ shelve_events k

-- object n of the second dump is made, if it didn't stay
unfoldable pub made_events : PairTold → ℕ → List Event
made_events p n =
    option_map_or (λ k. option_map_or (new_events p k) (second_shape p n) []) (heap_number p n) []

-- ---- roots

-- the number in the heap of the object that a root of this tag names
abbrev pub root_named : PairTold → ℕ → RootFound → List ℕ
root_named p tag r = if r.tag == tag then option_to_list (named_number p r.id) else []

-- the numbers of the objects that roots of this tag name
abbrev pub roots_named : PairTold → ℕ → List RootFound → List ℕ
roots_named p tag roots = flat_map (root_named p tag) roots

-- the roots of each of these kinds, whose arrays have the classes from this on and stand from this slot of register 7 on
unfoldable pub kinds_events : PairTold → List RootFound → ℕ → ℕ → List ℕ → List Event
kinds_events p roots class first [] = []
kinds_events p roots class first (tag ∷ tags) =
    let numbers = with_room first (roots_named p tag roots) in
    kind_events class first numbers ++ kinds_events p roots (class + 1) (first + arrays_for (length numbers)) tags

-- the roots of the second dump are kept as those of the first were, in new arrays of the same classes. At last register 7 alone
-- names an object
unfoldable pub roots_events : PairTold → List RootFound → List ℕ → List Event
roots_events p roots tags =
    let class = p.first.all.plan.roots in
    NewArray 0 7 class 1024 ∷ kinds_events p roots (class + 1) 0 tags ++ clear_events

-- ---- all

-- the events behind the classes: the objects of the first dump are found again, those of the second that didn't stay are made,
-- slots that differ are written, and the roots are kept
abbrev pub second_events : PairTold → List Way → List RootFound → List ℕ → List Event
second_events p ways roots tags =
    shelves_events p
    ++ (flat_map way_events ways
    ++ (events_from (made_events p) 0 (count_of p.second)
    ++ (events_from (change_events p) 0 (count_of p.second) ++ roots_events p roots tags)))
