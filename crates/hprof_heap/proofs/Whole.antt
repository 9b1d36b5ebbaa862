-- The session of a dump makes the heap of the dump.
use Rattle.std.proofs.Common.{◌≡◌, ℕ, zero, suc, ◌+◌, ◌-◌, ◌*◌, ◌/◌, ◌%◌, ◌<◌, ◌≤◌, Bool, true, List, [], ◌∷◌, ◌++◌, length, refl, sym, ap, subst, ◌∙◌, Option, Some, None, inl, inr, arith}
use Rattle.std.specs.Prelude.{IsSome, min, option_map, slice_get, slice_index, slice_index_or}
use Rattle.std.specs.Option.{option_map_or}
use Rattle.std.proofs.lemmas.Bool.{cases_eq, cases_lt}
use Rattle.heap_class.specs.declared.ClassLimits.{ClassLimits}
use Rattle.heap_class.specs.declared.IdSize.{IdSize}
use Rattle.heap_class.specs.declared.ObjKind.TheVariants.{Array}
use Rattle.heap_class.specs.Classes.{IsClassTable, slots_of}
use Rattle.heap_region.specs.Regions.{Object as HeapObject, object_of}
use Rattle.heap_world.specs.State.{HeapState, word_of}
use Rattle.heap_world.proofs.Registers.{word_of_object_slot}
use Rattle.heap_step.specs.declared.Event.{Event}
use Rattle.hprof_session.specs.Walks.{ItemTold}
use Rattle.hprof_plan.specs.Finds.{HasTables}
use Rattle.hprof_plan.specs.Plans.{IsPlan}
use Rattle.hprof_plan.specs.declared.dump.Found.{Found}
use Rattle.hprof_plan.specs.declared.items.RootFound.{RootFound}
use Rattle.hprof_plan.specs.declared.planning.Plan.{Plan}
use Rattle.hprof_lines.specs.declared.passes.Pass.TheVariants.{Linking}
use Rattle.hprof_lines.specs.Objects.{ObjectsTold, number_of}
use Rattle.hprof_lines.specs.Passes.{made_from}
use Rattle.hprof_lines.specs.Roots.{arrays_for, roots_events, roots_named, with_room}
use Rattle.hprof_lines.specs.Sessions.{all_events, both_events, root_tags, told_objects}
use Rattle.hprof_heap.specs.TakenEvents.{AreTaken, state_after_all}
use Rattle.hprof_heap.specs.DumpHeaps.{AreKindsOfRoots, AreRoots, IsHeapOfDump, IsObjectTold, NamesKind, slot_told}
use Rattle.hprof_heap.proofs.Premises.{AreNumberedFirst, IsBare}
use Rattle.hprof_heap.specs.ToldObjects.{ObjectTold, objects_of_dump}
use Rattle.hprof_heap.proofs.Graphs.{Graph, Thing, IsRun, run_in_parts, word, word_in}
use Rattle.hprof_heap.proofs.Placed.{ArePlaced, IsArrayOf, Other, Role, kept}
use Rattle.hprof_heap.proofs.MakingPass.{AreMade, makings, objects_are_made}
use Rattle.hprof_heap.proofs.Linking.{AreFound, AreLinked, AreNamed, for_its_number, ids_differ, linked_thing, linkings, objects_are_linked}
use Rattle.hprof_heap.proofs.Words.{length_at_last, word_at_last}
use Rattle.hprof_heap.proofs.RootArrays.{AreNamedRoots}
use Rattle.hprof_heap.proofs.RootKinds.{AreKindsKept, AreRootsDone, root_keepings, roots_are_done}
use Rattle.hprof_heap.proofs.Simulation.{AreOfSession, IsRunOf, events_run, graph_of, slots_in, thing_has_its_object, thing_of}
use Rattle.hprof_heap.proofs.SessionEvents.{all_roots_keep, both_link, both_make}
use Rattle.hprof_heap.proofs.OfSession.{both_of_session, linkings_of_session, makings_of_session, root_keepings_of_session}
use Rattle.hprof_heap.proofs.ApartSlots.{HaveSlots}
use Rattle.hprof_heap.proofs.ClassSlots.{table_has_slots}
use Rattle.hprof_heap.proofs.StaticNumbers.{statics_are_numbered}
use Rattle.hprof_heap.proofs.ToldNumbers.{AreFine, is_there, named_is_there, numbers_of_roots, objects_are_fine, right_of_fine, there_within, values_apart_at}

-- ---- what the graph of a heap says of the heap

word_of_graph_is : (w : HeapState) (x slot : ℕ) → word (graph_of w) x slot ≡ word_of w x slot
unfolding word_of
word_of_graph_is w x slot = go (object_of w.regions x)
  where
    go : (p : Option HeapObject) → word_in (option_map thing_of p) slot ≡ option_map_or (λ (o : HeapObject). slice_index o.words slot) p 0
    go None = refl
    go (Some o) = refl

array_of_graph_is_named : (w : HeapState) (class n x : ℕ) → IsArrayOf class n (graph_of w) x → NamesKind w x (Array class) n
array_of_graph_is_named w class n x p =
    let o = thing_has_its_object w x p.0 p.1 in
    (o.0, o.1, ap (λ (t : Thing). t.kind) o.2 ∙ p.2, ap (λ (t : Thing). length t.words) o.2 ∙ p.3)

roots_are : (w : HeapState) (id : ℕ → ℕ) (class first : ℕ) (numbers : List ℕ) (x : ℕ) (role : ℕ → Role) → AreNamedRoots id class first (length numbers) numbers (length numbers) x role (graph_of w) → AreRoots id w x class first numbers
roots_are w id class first numbers x role a = record {
  arrays = λ k l. subst (λ y. NamesKind w y (Array class) (min (length numbers - k * 1024) 1024)) (word_of_graph_is w x (first + k))
      (array_of_graph_is_named w class (min (length numbers - k * 1024) 1024) (word (graph_of w) x (first + k)) (a.arrays k (omega (arith, l))).array);
  named = λ i l. ap (λ y. word_of w y (i % 1024)) (sym (word_of_graph_is w x (first + i / 1024))) ∙ sym (word_of_graph_is w (word (graph_of w) x (first + i / 1024)) (i % 1024)) ∙ a.named i l;
}

kinds_are : (w : HeapState) (o : ObjectsTold) (found : List RootFound) (id : ℕ → ℕ) (class first : ℕ) (tags : List ℕ) (x : ℕ) (role : ℕ → Role) → AreKindsKept id (λ tag. roots_named o tag found) class first tags x role (graph_of w)
    → AreKindsOfRoots o id w found x class first tags
kinds_are w o found id class first [] x role a = λ s l. sym (word_of_graph_is w x s) ∙ a s l
kinds_are w o found id class first (tag ∷ tags) x role a =
    let numbers = with_room first (roots_named o tag found) in
    (roots_are w id class first numbers x role a.0, kinds_are w o found id (class + 1) (first + arrays_for (length numbers)) tags x role a.1)

object_of_graph_is_told : (w : HeapState) (o : ObjectsTold) (id : ℕ → ℕ) (x : ℕ) (t : ObjectTold) → (graph_of w).things x ≡ Some (linked_thing (number_of o) id t)
    → ((slot : ℕ) → slice_index (linked_thing (number_of o) id t).words slot ≡ slot_told o id t.values slot) → IsObjectTold o id w x t
object_of_graph_is_told w o id x t there words = record {
  named = (a.0, a.1, ap (λ (y : Thing). y.kind) a.2, ap (λ (y : Thing). length y.words) a.2 ∙ length_at_last (number_of o) id t);
  words = λ slot. word_of_object_slot w x slot a.0 a.1 ∙ ap (λ (y : Thing). slice_index y.words slot) a.2 ∙ words slot;
}
  where
    a : (a : HeapObject) × (object_of w.regions x ≡ Some a) × (thing_of a ≡ linked_thing (number_of o) id t)
    a = thing_has_its_object w x (linked_thing (number_of o) id t) there

-- ---- from an empty heap

pub nothing_placed : (class : ℕ) (made : ℕ → Bool) (role : ℕ → Role) (g : Graph) → ArePlaced class made 0 role g
nothing_placed class made role g = record {
  tops = λ m l. absurd (omega (arith, l));
  keepers = λ m l. absurd (omega (arith, l));
  objects = λ m l b. absurd (omega (arith, l));
  current = λ m l e. absurd (omega (arith, l));
}

-- what was made is found
pub made_is_found : (class : ℕ) (made : ℕ → Bool) (list : List (Option ObjectTold)) (role : ℕ → Role) (g h : Graph) → (m : AreMade class made 0 list role g h) → AreFound class made m.last (kept h) m.after h
made_is_found class made list role g h m = record { few = m.few; tops = m.placed.tops; keepers = m.placed.keepers; objects = m.placed.objects; ids = λ k l. refl }

-- the three parts of a session
record AreParts (slots : ℕ → ℕ) (o : ObjectsTold) (items : List ItemTold) (found : List RootFound) (g h : Graph) : Type 0 where
  middle : Graph
  later : Graph
  making : IsRun slots (makings o.plan.roots 0 (objects_of_dump o items)) g middle
  linking : IsRun slots (linkings (number_of o) 0 (objects_of_dump o items)) middle later
  rooting : IsRun slots (root_keepings (λ tag. roots_named o tag found) o.plan.roots root_tags) later h

abbrev pub session_parts : ObjectsTold → List ItemTold → List RootFound → List Event
session_parts o items found =
    makings o.plan.roots 0 (objects_of_dump o items) ++ (linkings (number_of o) 0 (objects_of_dump o items) ++ root_keepings (λ tag. roots_named o tag found) o.plan.roots root_tags)

pub events_are_parts : (o : ObjectsTold) (items : List ItemTold) (found : List RootFound) → AreNumberedFirst o → o.made ≡ made_from o.plan o.objects (length o.statics) 0 items → all_events o items found ≡ session_parts o items found
events_are_parts o items found a made =
    ap (λ es. es ++ (both_events Linking o items ++ roots_events o found root_tags)) (both_make o items a)
    ∙ ap (λ es. makings o.plan.roots 0 (objects_of_dump o items) ++ (es ++ roots_events o found root_tags)) (both_link o items a made)
    ∙ ap (λ es. makings o.plan.roots 0 (objects_of_dump o items) ++ (linkings (number_of o) 0 (objects_of_dump o items) ++ es)) (all_roots_keep o found root_tags)

pub parts_of_session : (o : ObjectsTold) (items : List ItemTold) (found : List RootFound) → AreOfSession (session_parts o items found)
parts_of_session o items found =
    let list = objects_of_dump o items in
    let named : ℕ → List ℕ = λ tag. roots_named o tag found in
    both_of_session (makings o.plan.roots 0 list) (linkings (number_of o) 0 list ++ root_keepings named o.plan.roots root_tags) (makings_of_session o.plan.roots 0 list)
    (both_of_session (linkings (number_of o) 0 list) (root_keepings named o.plan.roots root_tags) (linkings_of_session (number_of o) 0 list) (root_keepings_of_session named o.plan.roots root_tags))

run_has_parts : (slots : ℕ → ℕ) (o : ObjectsTold) (items : List ItemTold) (found : List RootFound) (g h : Graph) → IsRun slots (session_parts o items found) g h → AreParts slots o items found g h
run_has_parts slots o items found g h r =
    let list = objects_of_dump o items in
    let named : ℕ → List ℕ = λ tag. roots_named o tag found in
    let s = run_in_parts slots (makings o.plan.roots 0 list) (linkings (number_of o) 0 list ++ root_keepings named o.plan.roots root_tags) g h r in
    let t = run_in_parts slots (linkings (number_of o) 0 list) (root_keepings named o.plan.roots root_tags) s.0 h s.2 in
    record { middle = s.0; later = t.0; making = s.1; linking = t.1; rooting = t.2 }

pub zero_plus : (i : ℕ) → 0 + i ≡ i
zero_plus i = omega arith

item_by_default : (xs : List ℕ) (i d : ℕ) → i < length xs → slice_index_or xs i d ≡ slice_index xs i
item_by_default [] i d l = absurd (omega (arith, l))
item_by_default (x ∷ xs) zero d l = refl
item_by_default (x ∷ xs) (suc i) d l = item_by_default xs i d (omega (arith, l))

zero_past_end : (xs : List ℕ) (i : ℕ) → length xs ≤ i → slice_index xs i ≡ 0
zero_past_end [] i l = refl
zero_past_end (x ∷ xs) zero l = absurd (omega (arith, l))
zero_past_end (x ∷ xs) (suc i) l = zero_past_end xs i (omega (arith, l))

-- in an empty heap all registers are null
bare_registers : (w : HeapState) → IsBare w → (i : ℕ) → slice_index w.registers i ≡ 0
bare_registers w bare i = elim (cases_eq (slice_index w.registers i) 0) [
  | inl e ↦ e
  | inr d ↦ elim (cases_lt i (length w.registers)) [
    | inr past ↦ zero_past_end w.registers i past
    | inl l ↦ (let live = bare.legal.registers_live (slice_index w.registers i) (i, l, item_by_default w.registers i (slice_index w.registers i) l) d in
        absurd (no_object (object_of w.regions (slice_index w.registers i)) live.0 (bare.empty (slice_index w.registers i)) live.1))
  ]
]
  where
    no_object : (p : Option HeapObject) (a : HeapObject) → p ≡ None → p ≡ Some a → ⊥
    no_object p a e f = let z : None ≡ Some a = sym e ∙ f in cc

-- the parts lead to the heap of the dump
parts_make_heap : (o : ObjectsTold) (items : List ItemTold) (found : List RootFound) (w v : HeapState) → AreNumberedFirst o → o.made ≡ made_from o.plan o.objects (length o.statics) 0 items → AreFine (slots_in w) 0 (objects_of_dump o items)
    → v.classes ≡ o.plan.classes → ((i : ℕ) → 8 ≤ i → slice_index v.registers i ≡ 0) → AreParts (slots_in w) o items found (graph_of w) (graph_of v) → IsHeapOfDump o items found v
parts_make_heap o items found w v numbered made_told fine classes others p = record {
  classes = classes;
  id = id;
  objects = λ n t e. object_of_graph_is_told v o id (id n) t
      (rooted.objects (id n) n (object_there n t e) (for_its_number o.plan.roots made m.last id m.after p.later n linked.found (below n t e) (is_made n t e)) ∙ linked_at n t e)
      (λ slot. word_at_last (number_of o) id t slot (values_apart_at (slots_in w) list n t fine e) (m.fits n t e) (linked.fits n t e));
  apart = λ i k t u e f same. ids_differ o.plan.roots made m.last id m.after p.later i k linked.found (below i t e) (is_made i t e) (below k u f) (is_made k u f) same;
  roots_array = array_of_graph_is_named v o.plan.roots 1024 (slice_index v.registers 7) rooted.array;
  roots = kinds_are v o found id (o.plan.roots + 1) 0 root_tags (slice_index v.registers 7) rooted.after rooted.kept;
  registers = λ i d. elim (cases_lt i 8) [ inl l ↦ rooted.cleared i (omega (arith, l, d)) | inr high ↦ others i high ];
}
  where
    list : List (Option ObjectTold)
    list = objects_of_dump o items

    made : ℕ → Bool
    made i = is_there (slice_get (objects_of_dump o items) i)

    m : AreMade o.plan.roots (λ i. is_there (slice_get (objects_of_dump o items) i)) 0 (objects_of_dump o items) (λ y. Other) (graph_of w) p.middle
    m = objects_are_made (slots_in w) o.plan.roots made 0 list (λ y. Other) (graph_of w) p.middle (omega arith)
        (right_of_fine (slots_in w) made 0 list (λ i. ap made (zero_plus i)) fine) (nothing_placed o.plan.roots made (λ y. Other) (graph_of w)) p.making

    id : ℕ → ℕ
    id = kept p.middle

    is_made : (n : ℕ) (t : ObjectTold) → slice_get (objects_of_dump o items) n ≡ Some (Some t) → is_there (slice_get (objects_of_dump o items) n) ≡ true
    is_made n t e = ap is_there e

    below_if : (n : ℕ) → is_there (slice_get (objects_of_dump o items) n) ≡ true → n < m.last
    below_if n b = m.reached n b (let l : n < length (objects_of_dump o items) = there_within list n b in omega (arith, l))

    below : (n : ℕ) (t : ObjectTold) → slice_get (objects_of_dump o items) n ≡ Some (Some t) → n < m.last
    below n t e = below_if n (is_made n t e)

    named : AreNamed (number_of o) (λ i. is_there (slice_get (objects_of_dump o items) i)) m.last
    named x k e = let b = named_is_there o items x k numbered made_told e in (below_if k b, b)

    linked : AreLinked o.plan.roots (λ i. is_there (slice_get (objects_of_dump o items) i)) m.last 0 (number_of o) (kept p.middle) (objects_of_dump o items) m.after p.middle p.later
    linked = objects_are_linked (slots_in w) o.plan.roots made m.last 0 (number_of o) id list m.after p.middle p.later named (made_is_found o.plan.roots made list (λ y. Other) (graph_of w) p.middle m)
        (λ i t e. (subst (λ k. k < m.last) (sym (zero_plus i)) (below i t e), ap made (zero_plus i) ∙ is_made i t e)) m.contents p.linking

    rooted : AreRootsDone (kept p.middle) (λ tag. roots_named o tag found) o.plan.roots root_tags m.after p.later (graph_of v)
    rooted = roots_are_done (slots_in w) o.plan.roots made m.last id (λ tag. roots_named o tag found) o.plan.roots root_tags m.after p.later (graph_of v)
        (λ tag. numbers_of_roots o made m.last tag found named) linked.found p.rooting

    linked_at : (n : ℕ) (t : ObjectTold) → slice_get (objects_of_dump o items) n ≡ Some (Some t) → p.later.things (kept p.middle n) ≡ Some (linked_thing (number_of o) (kept p.middle) t)
    linked_at n t e = ap (λ k. p.later.things (id k)) (sym (zero_plus n)) ∙ linked.contents n t e

    object_there : (n : ℕ) (t : ObjectTold) → slice_get (objects_of_dump o items) n ≡ Some (Some t) → IsSome (p.later.things (kept p.middle n))
    object_there n t e = subst IsSome (sym (linked_at n t e)) refl

-- from an empty heap with the classes of the plan on
pub session_makes_heap : (p : Plan) (ids : IdSize) (objects : List ℕ) (items : List ItemTold) (found : List RootFound) (w : HeapState) → AreNumberedFirst (told_objects p ids objects items) → IsBare w → w.classes ≡ p.classes
    → AreTaken (all_events (told_objects p ids objects items) items found) w → IsHeapOfDump (told_objects p ids objects items) items found (state_after_all (all_events (told_objects p ids objects items) items found) w)
session_makes_heap p ids objects items found w numbered bare classes taken =
    let o = told_objects p ids objects items in
    let parts = session_parts o items found in
    let same = events_are_parts o items found numbered refl in
    let run : IsRunOf parts w (state_after_all parts w) = events_run parts w (parts_of_session o items found) bare.legal (subst (λ es. AreTaken es w) same taken) in
    subst (λ es. IsHeapOfDump o items found (state_after_all es w)) (sym same)
    (parts_make_heap o items found w (state_after_all parts w) numbered refl
    (objects_are_fine (slots_in w) o items (λ c. ap (λ cs. length (slots_of cs c)) classes) (subst (λ cs. HaveSlots cs) classes (table_has_slots w.classes bare.legal.classes)) numbered)
    (run.classes ∙ classes) (λ i high. run.others i high ∙ bare_registers w bare i)
    (run_has_parts (slots_in w) o items found (graph_of w) (graph_of (state_after_all parts w)) run.run))

-- by what a walk finds, and the plan of its classes
pub found_makes_heap : (limits : ClassLimits) (most : ℕ) (f : Found) (p : Plan) (size : IdSize) (items : List ItemTold) (w : HeapState) → HasTables size items f → IsPlan limits most f p → IsBare w → w.classes ≡ p.classes
    → AreTaken (all_events (told_objects p size f.objects.keys items) items f.roots.items) w
    → IsHeapOfDump (told_objects p size f.objects.keys items) items f.roots.items (state_after_all (all_events (told_objects p size f.objects.keys items) items f.roots.items) w)
found_makes_heap limits most f p size items w tables plan bare classes taken =
    session_makes_heap p size f.objects.keys items f.roots.items w
    (statics_are_numbered limits most f p size items tables plan (subst (λ cs. IsClassTable [] cs) classes bare.legal.classes)) bare classes taken
