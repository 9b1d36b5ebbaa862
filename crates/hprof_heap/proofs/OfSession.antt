-- Each event of a session is one of mutator 0, and one of seven.
use Rattle.std.proofs.Common.{ℕ, ◌+◌, ◌-◌, ◌/◌, ◌%◌, ◌^◌, Bool, true, false, List, [], ◌∷◌, ◌++◌, length, Option, Some, None}
use Rattle.std.specs.Prelude.{flat_map, min, nat_lt, ◌==◌, ◌||◌, if◌then◌else◌}
use Rattle.std.specs.List.{list_any}
use Rattle.heap_class.specs.declared.ObjKind.{ObjKind}
use Rattle.heap_class.specs.declared.ObjKind.TheVariants.{Instance, Array, Prim}
use Rattle.heap_class.specs.Kinds.{is_reference}
use Rattle.heap_step.specs.declared.Event.{Event}
use Rattle.hprof_session.specs.Places.{array_events, fetch_events, keep_event, place_events, top_events}
use Rattle.hprof_lines.specs.declared.values.SlotValue.{SlotValue}
use Rattle.hprof_lines.specs.Objects.{names_object, shown, stored, value_events}
use Rattle.hprof_lines.specs.Roots.{arrays_for, clear_events, kind_events, root_array, root_events, roots_from, with_room}
use Rattle.hprof_heap.specs.ToldObjects.{ObjectTold}
use Rattle.hprof_heap.proofs.Simulation.{AreOfSession, IsOfSession}
use Rattle.hprof_heap.proofs.Making.{creation_of, made_block, made_tail}
use Rattle.hprof_heap.proofs.MakingPass.{making_block, makings}
use Rattle.hprof_heap.proofs.Linking.{link_block, linkings, reference_of}
use Rattle.hprof_heap.proofs.RootKinds.{keepings, root_keepings}

pub both_of_session : (xs ys : List Event) → AreOfSession xs → AreOfSession ys → AreOfSession (xs ++ ys)
both_of_session [] ys a b = b
both_of_session (x ∷ xs) ys a b = (a.0, both_of_session xs ys a.1 b)

each_of_session : {A : Type 0} (f : A → List Event) → ((x : A) → AreOfSession (f x)) → (xs : List A) → AreOfSession (flat_map f xs)
each_of_session f h [] = tt
each_of_session f h (x ∷ xs) = both_of_session (f x) (flat_map f xs) (h x) (each_of_session f h xs)

if_of_session : (b : Bool) (xs ys : List Event) → AreOfSession xs → AreOfSession ys → AreOfSession (if b then xs else ys)
if_of_session true xs ys a c = a
if_of_session false xs ys a c = c

place_of_session : (class n : ℕ) → AreOfSession (place_events class n)
place_of_session class n = both_of_session (top_events class n) (array_events class n)
    (if_of_session (n % 2 ^ 20 == 0) (Event.NewArray 0 (n / 2 ^ 20) class 1024 ∷ []) [] (tt, tt) tt)
    (if_of_session (n % 1024 == 0) (Event.NewArray 0 4 class 1024 ∷ Event.Store 0 (n / 2 ^ 20) (n / 1024 % 1024) 4 ∷ []) [] (tt, (tt, tt)) tt)

creation_of_session : (kind : ObjKind) (n : ℕ) → IsOfSession (creation_of kind n)
creation_of_session (Instance class) n = tt
creation_of_session (Array class) n = tt
creation_of_session (Prim kind) n = tt

value_of_session : (v : SlotValue) → AreOfSession (value_events v)
unfolding value_events
value_of_session v = if_of_session (is_reference v.kind || v.value == 0) [] (Event.Put 0 5 v.slot (shown v.kind v.value) ∷ []) tt (tt, tt)

tail_of_session : (n : ℕ) (x : Option ObjectTold) → AreOfSession (made_tail n x)
tail_of_session n None = tt
tail_of_session n (Some t) = (creation_of_session t.kind t.slots, both_of_session (flat_map value_events t.values) (keep_event n ∷ []) (each_of_session value_events value_of_session t.values) (tt, tt))

pub makings_of_session : (class n : ℕ) (list : List (Option ObjectTold)) → AreOfSession (makings class n list)
makings_of_session class n [] = tt
makings_of_session class n (x ∷ xs) = both_of_session (making_block class n x) (makings class (n + 1) xs)
    (if_of_session (nat_lt n (2 ^ 22)) (made_block class n x) [] (both_of_session (place_events class n) (made_tail n x) (place_of_session class n) (tail_of_session n x)) tt)
    (makings_of_session class (n + 1) xs)

stored_of_session : (slot : ℕ) (o : Option ℕ) → AreOfSession (stored slot o)
stored_of_session slot None = tt
stored_of_session slot (Some n) = (tt, (tt, (tt, tt)))

reference_of_session : (name : ℕ → Option ℕ) (v : SlotValue) → AreOfSession (reference_of name v)
reference_of_session name v = if_of_session (names_object v) (stored v.slot (name v.value)) [] (stored_of_session v.slot (name v.value)) tt

link_of_session : (name : ℕ → Option ℕ) (n : ℕ) (x : Option ObjectTold) → AreOfSession (link_block name n x)
link_of_session name n None = tt
link_of_session name n (Some t) = if_of_session (list_any names_object t.values) (fetch_events n 5 ++ flat_map (reference_of name) t.values) []
    (both_of_session (fetch_events n 5) (flat_map (reference_of name) t.values) (tt, (tt, tt)) (each_of_session (reference_of name) (reference_of_session name) t.values)) tt

pub linkings_of_session : (name : ℕ → Option ℕ) (n : ℕ) (list : List (Option ObjectTold)) → AreOfSession (linkings name n list)
linkings_of_session name n [] = tt
linkings_of_session name n (x ∷ xs) = both_of_session (link_block name n x) (linkings name (n + 1) xs) (link_of_session name n x) (linkings_of_session name (n + 1) xs)

array_of_session : (class first count i : ℕ) → AreOfSession (root_array class first count i)
array_of_session class first count i = if_of_session (i % 1024 == 0) (Event.NewArray 0 5 class (min (count - i) 1024) ∷ Event.Store 0 7 (first + i / 1024) 5 ∷ []) [] (tt, (tt, tt)) tt

root_of_session : (class first count i n : ℕ) → AreOfSession (root_events class first count i n)
root_of_session class first count i n = both_of_session (root_array class first count i ++ fetch_events n 6) (Event.Store 0 5 (i % 1024) 6 ∷ [])
    (both_of_session (root_array class first count i) (fetch_events n 6) (array_of_session class first count i) (tt, (tt, tt))) (tt, tt)

roots_of_session : (class first count i : ℕ) (numbers : List ℕ) → AreOfSession (roots_from class first count i numbers)
unfolding roots_from
roots_of_session class first count i [] = tt
roots_of_session class first count i (n ∷ numbers) = both_of_session (root_events class first count i n) (roots_from class first count (i + 1) numbers) (root_of_session class first count i n) (roots_of_session class first count (i + 1) numbers)

keepings_of_session : (named : ℕ → List ℕ) (class first : ℕ) (tags : List ℕ) → AreOfSession (keepings named class first tags)
keepings_of_session named class first [] = tt
keepings_of_session named class first (tag ∷ tags) =
    let numbers = with_room first (named tag) in
    both_of_session (kind_events class first numbers) (keepings named (class + 1) (first + arrays_for (length numbers)) tags)
    (roots_of_session class first (length numbers) 0 numbers) (keepings_of_session named (class + 1) (first + arrays_for (length numbers)) tags)

clears_of_session : AreOfSession clear_events
clears_of_session = (tt, (tt, (tt, (tt, (tt, (tt, (tt, tt)))))))

pub root_keepings_of_session : (named : ℕ → List ℕ) (roots : ℕ) (tags : List ℕ) → AreOfSession (root_keepings named roots tags)
root_keepings_of_session named roots tags = (tt, both_of_session (keepings named (roots + 1) 0 tags) clear_events (keepings_of_session named (roots + 1) 0 tags) clears_of_session)
