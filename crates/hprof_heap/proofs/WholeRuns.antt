-- A session whose objects fit their classes is refused only if the heap is full.
use Rattle.std.proofs.Common.{◌≡◌, ℕ, ◌+◌, ◌<◌, ◌≤◌, Bool, true, List, ◌++◌, length, sym, ap, subst, ◌∙◌, Some, arith}
use Rattle.std.specs.Prelude.{slice_get}
use Rattle.heap_class.specs.Classes.{Class, is_array_class}
use Rattle.heap_world.specs.State.{HeapState}
use Rattle.hprof_session.specs.Walks.{ItemTold}
use Rattle.hprof_plan.specs.declared.items.RootFound.{RootFound}
use Rattle.hprof_lines.specs.Objects.{ObjectsTold, number_of}
use Rattle.hprof_lines.specs.Passes.{made_from}
use Rattle.hprof_lines.specs.Roots.{roots_named}
use Rattle.hprof_lines.specs.Sessions.{all_events, root_tags}
use Rattle.hprof_heap.specs.TakenEvents.{AreTakenUnlessFull}
use Rattle.hprof_heap.proofs.Premises.{AreNumberedFirst, IsBare}
use Rattle.hprof_heap.specs.ToldObjects.{ObjectTold, objects_of_dump}
use Rattle.hprof_heap.proofs.Graphs.{Graph}
use Rattle.hprof_heap.proofs.Placed.{Other, kept}
use Rattle.hprof_heap.proofs.MakingPass.{AreMade, makings, objects_are_made}
use Rattle.hprof_heap.proofs.Linking.{AreFound, AreNamed, linkings, objects_are_linked}
use Rattle.hprof_heap.proofs.RootKinds.{root_keepings}
use Rattle.hprof_heap.proofs.Simulation.{graph_of, slots_in}
use Rattle.hprof_heap.proofs.Acceptable.{CanRun, acceptable_events, can_run_both}
use Rattle.hprof_heap.proofs.MakingRuns.{MayAllBeTold, makings_can_run}
use Rattle.hprof_heap.proofs.LinkingRuns.{linkings_can_run}
use Rattle.hprof_heap.proofs.RootRuns.{AreArrayClasses, root_keepings_can_run}
use Rattle.hprof_heap.proofs.ToldNumbers.{AreFine, is_there, named_is_there, numbers_of_roots, right_of_fine, there_within}
use Rattle.hprof_heap.proofs.Whole.{events_are_parts, made_is_found, nothing_placed, parts_of_session, session_parts, zero_plus}

-- the objects may be made, and the classes of roots are array classes
pub record AreSuitable (classes : List Class) (most : ℕ) (slots : ℕ → ℕ) (o : ObjectsTold) (items : List ItemTold) : Type 0 where
  pub objects : MayAllBeTold classes most slots (objects_of_dump o items)
  pub top : is_array_class classes o.plan.roots ≡ true
  pub kinds : AreArrayClasses classes (o.plan.roots + 1) root_tags
  pub room : 1024 ≤ most

abbrev made_of : ObjectsTold → List ItemTold → ℕ → Bool
made_of o items i = is_there (slice_get (objects_of_dump o items) i)

-- what is known after the objects are made
record IsMiddle (o : ObjectsTold) (items : List ItemTold) (last : ℕ) : Type 0 where
  below : (n : ℕ) → made_of o items n ≡ true → n < last
  named : AreNamed (number_of o) (made_of o items) last

middle_is : (o : ObjectsTold) (items : List ItemTold) (last : ℕ) → AreNumberedFirst o → o.made ≡ made_from o.plan o.objects (length o.statics) 0 items
    → ((m : ℕ) → made_of o items m ≡ true → m < 0 + length (objects_of_dump o items) → m < last) → IsMiddle o items last
middle_is o items last numbered made_told reached = record {
  below = below;
  named = λ x k e. (let b = named_is_there o items x k numbered made_told e in (below k b, b));
}
  where
    below : (n : ℕ) → is_there (slice_get (objects_of_dump o items) n) ≡ true → n < last
    below n b = reached n b (let l : n < length (objects_of_dump o items) = there_within (objects_of_dump o items) n b in omega (arith, l))

later_can_run : (classes : List Class) (most : ℕ) (slots : ℕ → ℕ) (o : ObjectsTold) (items : List ItemTold) (found : List RootFound) (g h : Graph) → AreNumberedFirst o → o.made ≡ made_from o.plan o.objects (length o.statics) 0 items
    → AreSuitable classes most slots o items → AreMade o.plan.roots (made_of o items) 0 (objects_of_dump o items) (λ y. Other) g h
    → CanRun classes most slots (linkings (number_of o) 0 (objects_of_dump o items) ++ root_keepings (λ tag. roots_named o tag found) o.plan.roots root_tags) h
later_can_run classes most slots o items found g h numbered made_told s m =
    can_run_both classes most slots (linkings (number_of o) 0 (objects_of_dump o items)) (root_keepings (λ tag. roots_named o tag found) o.plan.roots root_tags) h
    (linkings_can_run classes most slots o.plan.roots (made_of o items) m.last 0 (number_of o) (kept h) (objects_of_dump o items) m.after h mid.named at_first there m.contents s.objects)
    (λ k r. (let linked = objects_are_linked slots o.plan.roots (made_of o items) m.last 0 (number_of o) (kept h) (objects_of_dump o items) m.after h k mid.named at_first there m.contents r in
    root_keepings_can_run classes most slots o.plan.roots (made_of o items) m.last (kept h) (λ tag. roots_named o tag found) o.plan.roots root_tags m.after k s.top s.kinds s.room
    (λ tag. numbers_of_roots o (made_of o items) m.last tag found mid.named) linked.found))
  where
    mid : IsMiddle o items m.last
    mid = middle_is o items m.last numbered made_told m.reached

    at_first : AreFound o.plan.roots (made_of o items) m.last (kept h) m.after h
    at_first = made_is_found o.plan.roots (made_of o items) (objects_of_dump o items) (λ y. Other) g h m

    there : (i : ℕ) (t : ObjectTold) → slice_get (objects_of_dump o items) i ≡ Some (Some t) → (0 + i < m.last) × (made_of o items (0 + i) ≡ true)
    there i t e = (subst (λ k. k < m.last) (sym (zero_plus i)) (mid.below i (ap is_there e)), ap (made_of o items) (zero_plus i) ∙ ap is_there e)

parts_can_run : (classes : List Class) (most : ℕ) (slots : ℕ → ℕ) (o : ObjectsTold) (items : List ItemTold) (found : List RootFound) (g : Graph) → AreNumberedFirst o → o.made ≡ made_from o.plan o.objects (length o.statics) 0 items
    → AreFine slots 0 (objects_of_dump o items) → AreSuitable classes most slots o items → CanRun classes most slots (session_parts o items found) g
parts_can_run classes most slots o items found g numbered made_told fine s =
    let list = objects_of_dump o items in
    let right = right_of_fine slots (made_of o items) 0 list (λ i. ap (made_of o items) (zero_plus i)) fine in
    let placed = nothing_placed o.plan.roots (made_of o items) (λ y. Other) g in
    can_run_both classes most slots (makings o.plan.roots 0 list) (linkings (number_of o) 0 list ++ root_keepings (λ tag. roots_named o tag found) o.plan.roots root_tags) g
    (makings_can_run classes most slots o.plan.roots (made_of o items) 0 list (λ y. Other) g s.top s.room right s.objects placed)
    (λ h r. later_can_run classes most slots o items found g h numbered made_told s (objects_are_made slots o.plan.roots (made_of o items) 0 list (λ y. Other) g h (omega arith) right placed r))

pub suitable_session_is_taken : (o : ObjectsTold) (items : List ItemTold) (found : List RootFound) (w : HeapState) → AreNumberedFirst o → o.made ≡ made_from o.plan o.objects (length o.statics) 0 items
    → AreFine (slots_in w) 0 (objects_of_dump o items) → IsBare w → AreSuitable w.classes w.limits.elements (slots_in w) o items → AreTakenUnlessFull (all_events o items found) w
suitable_session_is_taken o items found w numbered made_told fine bare s =
    subst (λ es. AreTakenUnlessFull es w) (sym (events_are_parts o items found numbered made_told))
    (acceptable_events (session_parts o items found) w (parts_of_session o items found) bare.legal (parts_can_run w.classes w.limits.elements (slots_in w) o items found (graph_of w) numbered made_told fine s))
