-- Events that a heap refuses only if it is full.
use Rattle.std.proofs.Common.{◌≡◌, ◌≢◌, ◌⊎◌, ℕ, zero, ◌<◌, ◌≤◌, Bool, true, false, List, [], ◌∷◌, ◌++◌, length, refl, sym, ap, subst, ◌∙◌, Option, Some, None, inl, inr, arith}
use Rattle.std.specs.Prelude.{slice_get, slice_index, option_map, option_and_then, nat_lt}
use Rattle.std.proofs.lemmas.Bool.{and_from, lt-ltb, lt-leb, le-ltb, not_from_true}
use Rattle.heap_class.specs.declared.Kind.{Kind}
use Rattle.heap_class.specs.declared.Refusal.{Refusal}
use Rattle.heap_class.specs.declared.Refusal.TheVariants.{HeapFull}
use Rattle.heap_class.specs.Classes.{Class, is_array_class, is_instance_class, slot_kinds_of, slots_of}
use Rattle.heap_class.specs.Kinds.{is_reference, value_limit}
use Rattle.heap_class.specs.Refusals.{first_refusal}
use Rattle.heap_class.proofs.Slots.{class_found_is_in_table, instance_class_is_in_table}
use Rattle.heap_region.specs.Regions.{Object, object_of, slot_kinds}
use Rattle.heap_world.specs.State.{HeapState, is_register, register, register_index, slot_kind}
use Rattle.heap_world.specs.Events.{clear_refusal, is_full, new_array_refusal, new_prim_refusal, new_refusal}
use Rattle.heap_world.specs.Legal.{IsLegal}
use Rattle.heap_world.proofs.FirstRefusals.{no_refusal_without_tests, refusal_of_later_tests, refusal_of_test_that_holds}
use Rattle.heap_world.proofs.Registers.{object_not_null}
use Rattle.heap_world.proofs.RegisterEvents.{load_accepted}
use Rattle.heap_world.proofs.WriteEvents.{put_of_value_accepted, store_accepted}
use Rattle.heap_step.specs.declared.Event.{Event}
use Rattle.heap_step.specs.declared.Event.TheVariants.{New, NewArray, NewPrim, Put, Load, Store, Clear}
use Rattle.heap_step.specs.Apply.{refusal_of, state_after}
use Rattle.heap_step.proofs.EventLaws.{keeps_legal}
use Rattle.hprof_heap.specs.TakenEvents.{AreTakenUnlessFull}
use Rattle.hprof_heap.proofs.Graphs.{Graph, IsGraphStep, IsRun, Thing}
use Rattle.hprof_heap.proofs.Simulation.{AreOfSession, event_steps, graph_of, register_held, slots_in, thing_has_its_object, thing_of}

-- nothing refuses it, or only that the heap is full
abbrev pub IsAcceptable : Option Refusal → Type 0
IsAcceptable r = (r ≡ None) ⊎ (r ≡ Some HeapFull)

-- x names a thing with a slot of this kind
abbrev pub HasSlotOf : List Class → Graph → ℕ → ℕ → Kind → Type 0
HasSlotOf classes g x slot k =
    (t : Thing) × (g.things x ≡ Some t) × (slice_get (slot_kinds_of classes t.kind (length t.words)) slot ≡ Some k)

-- what is asked of an event of a session in a heap with these classes whose arrays have at most `most` elements
abbrev pub CanStep : List Class → ℕ → Event → Graph → Type 0
CanStep classes most (New zero r class) g = (r < 8) × (is_instance_class classes class ≡ true)
CanStep classes most (NewArray zero r class n) g = (r < 8) × (is_array_class classes class ≡ true) × (n ≤ most)
CanStep classes most (NewPrim zero r kind n) g = (r < 8) × (is_reference kind ≡ false) × (n ≤ most)
CanStep classes most (Put zero r slot value) g =
    (r < 8) × ((k : Kind) × HasSlotOf classes g (g.registers r) slot k × (is_reference k ≡ false) × (value < value_limit k))
CanStep classes most (Store zero r slot source) g =
    (r < 8) × (source < 8) × ((k : Kind) × HasSlotOf classes g (g.registers r) slot k × (is_reference k ≡ true))
CanStep classes most (Load zero to from slot) g = (to < 8) × (from < 8) × ((k : Kind) × HasSlotOf classes g (g.registers from) slot k)
CanStep classes most (Clear zero r) g = r < 8
CanStep classes most _ g = ⊥

-- ---- tests

full_alone : (b : Bool) → IsAcceptable (first_refusal ((b, HeapFull) ∷ []))
full_alone true = inr (refusal_of_test_that_holds true HeapFull [] refl)
full_alone false = inl (refusal_of_later_tests false HeapFull [] None refl no_refusal_without_tests)

past_test : (b : Bool) (e : Refusal) (ts : List (Bool × Refusal)) → b ≡ false → IsAcceptable (first_refusal ts) → IsAcceptable (first_refusal ((b, e) ∷ ts))
past_test b e ts h a = subst IsAcceptable (sym (refusal_of_later_tests b e ts (first_refusal ts) h refl)) a

register_exists : (w : HeapState) (r : ℕ) → IsLegal w → r < 8 → is_register w 0 r ≡ true
register_exists w r legal l = and_from (nat_lt r 8) (nat_lt (register_index 0 r) (length w.registers)) (lt-ltb r 8 l) (lt-ltb (register_index 0 r) (length w.registers) within)
  where
    within : register_index 0 r < length w.registers
    within = let m = legal.sized.mutators in omega (arith, l, m.1, m.3)

-- ---- slots

slot_of_named_object_is : (w : HeapState) (x slot : ℕ) (k : Kind) (o : Object) → object_of w.regions x ≡ Some o → slice_get (slot_kinds_of w.classes o.kind (length o.words)) slot ≡ Some k → slot_kind w x slot ≡ Some k
unfolding slot_kind slot_kinds
slot_of_named_object_is w x slot k o e s = ap (option_and_then (λ (a : Object). slice_get (slot_kinds_of w.classes a.kind (length a.words)) slot)) e ∙ s

-- the object that a register names has this slot
record HasSlotIn (w : HeapState) (r slot : ℕ) (k : Kind) : Type 0 where
  named : register w 0 r ≢ 0
  kind : slot_kind w (register w 0 r) slot ≡ Some k

slot_in_heap : (w : HeapState) (r slot : ℕ) (k : Kind) → HasSlotOf w.classes (graph_of w) (slice_index w.registers r) slot k → HasSlotIn w r slot k
slot_in_heap w r slot k h = record {
  named = object_not_null w (register w 0 r) o.0 o.1;
  kind = slot_of_named_object_is w (register w 0 r) slot k o.0 o.1 (ap (λ (t : Thing). slice_get (slot_kinds_of w.classes t.kind (length t.words)) slot) o.2 ∙ h.2);
}
  where
    o : (o : Object) × (object_of w.regions (register w 0 r) ≡ Some o) × (thing_of o ≡ h.0)
    o = thing_has_its_object w (register w 0 r) h.0 (ap (λ y. option_map thing_of (object_of w.regions y)) (register_held w r) ∙ h.1)

-- ---- each event

new_acceptable : (r class : ℕ) (w : HeapState) → IsLegal w → r < 8 → is_instance_class w.classes class ≡ true → IsAcceptable (refusal_of (New 0 r class) w)
unfolding refusal_of new_refusal
new_acceptable r class w legal l c =
    past_test _ _ _ (not_from_true (is_register w 0 r) (register_exists w r legal l))
    (past_test _ _ _ (lt-leb (length w.classes) class (instance_class_is_in_table w.classes class c))
    (past_test _ _ _ (not_from_true (is_instance_class w.classes class) c) (full_alone (is_full (length (slots_of w.classes class)) w))))

array_class_is_in_table : (classes : List Class) (class : ℕ) → is_array_class classes class ≡ true → class < length classes
unfolding is_array_class
array_class_is_in_table classes class c = class_found_is_in_table classes class (λ (d : Class). d.is_array) c

new_array_acceptable : (r class n : ℕ) (w : HeapState) → IsLegal w → r < 8 → is_array_class w.classes class ≡ true → n ≤ w.limits.elements → IsAcceptable (refusal_of (NewArray 0 r class n) w)
unfolding refusal_of new_array_refusal
new_array_acceptable r class n w legal l c m =
    past_test _ _ _ (not_from_true (is_register w 0 r) (register_exists w r legal l))
    (past_test _ _ _ (lt-leb (length w.classes) class (array_class_is_in_table w.classes class c))
    (past_test _ _ _ (not_from_true (is_array_class w.classes class) c)
    (past_test _ _ _ (le-ltb w.limits.elements n m) (full_alone (is_full n w)))))

new_prim_acceptable : (r n : ℕ) (kind : Kind) (w : HeapState) → IsLegal w → r < 8 → is_reference kind ≡ false → n ≤ w.limits.elements → IsAcceptable (refusal_of (NewPrim 0 r kind n) w)
unfolding refusal_of new_prim_refusal
new_prim_acceptable r n kind w legal l k m =
    past_test _ _ _ (not_from_true (is_register w 0 r) (register_exists w r legal l))
    (past_test _ _ _ k (past_test _ _ _ (le-ltb w.limits.elements n m) (full_alone (is_full n w))))

put_acceptable : (r slot value : ℕ) (k : Kind) (w : HeapState) → IsLegal w → r < 8 → HasSlotIn w r slot k → is_reference k ≡ false → value < value_limit k → IsAcceptable (refusal_of (Put 0 r slot value) w)
unfolding refusal_of
put_acceptable r slot value k w legal l s kind v = inl (put_of_value_accepted 0 r slot value w k (register_exists w r legal l) s.named s.kind kind (lt-ltb value (value_limit k) v))

store_acceptable : (r slot source : ℕ) (k : Kind) (w : HeapState) → IsLegal w → r < 8 → source < 8 → HasSlotIn w r slot k → is_reference k ≡ true → IsAcceptable (refusal_of (Store 0 r slot source) w)
unfolding refusal_of
store_acceptable r slot source k w legal l m s kind = inl (store_accepted 0 r slot source w k (register_exists w r legal l) (register_exists w source legal m) s.named s.kind kind)

load_acceptable : (to from slot : ℕ) (k : Kind) (w : HeapState) → IsLegal w → to < 8 → from < 8 → HasSlotIn w from slot k → IsAcceptable (refusal_of (Load 0 to from slot) w)
unfolding refusal_of
load_acceptable to from slot k w legal l m s = inl (load_accepted 0 to from slot w k (register_exists w to legal l) (register_exists w from legal m) s.named s.kind)

clear_acceptable : (r : ℕ) (w : HeapState) → IsLegal w → r < 8 → IsAcceptable (refusal_of (Clear 0 r) w)
unfolding refusal_of clear_refusal
clear_acceptable r w legal l = inl (refusal_of_later_tests _ _ _ _ (not_from_true (is_register w 0 r) (register_exists w r legal l)) no_refusal_without_tests)

event_is_acceptable : (e : Event) (w : HeapState) → IsLegal w → CanStep w.classes w.limits.elements e (graph_of w) → IsAcceptable (refusal_of e w)
event_is_acceptable (New zero r class) w legal c = new_acceptable r class w legal c.0 c.1
event_is_acceptable (NewArray zero r class n) w legal c = new_array_acceptable r class n w legal c.0 c.1 c.2
event_is_acceptable (NewPrim zero r kind n) w legal c = new_prim_acceptable r n kind w legal c.0 c.1 c.2
event_is_acceptable (Put zero r slot value) w legal c = put_acceptable r slot value c.1.0 w legal c.0 (slot_in_heap w r slot c.1.0 c.1.1) c.1.2 c.1.3
event_is_acceptable (Store zero r slot source) w legal c = store_acceptable r slot source c.2.0 w legal c.0 c.1 (slot_in_heap w r slot c.2.0 c.2.1) c.2.2
event_is_acceptable (Load zero to from slot) w legal c = load_acceptable to from slot c.2.0 w legal c.0 c.1 (slot_in_heap w from slot c.2.0 c.2.1)
event_is_acceptable (Clear zero r) w legal c = clear_acceptable r w legal c
event_is_acceptable _ w legal c = absurd c

-- ---- one after another

-- each event can step, whatever ids those before it gave
abbrev pub CanRun : List Class → ℕ → (ℕ → ℕ) → List Event → Graph → Type 0
CanRun classes most slots [] g = Unit {0}
CanRun classes most slots (e ∷ es) g = CanStep classes most e g × ((h : Graph) → IsGraphStep slots e g h → CanRun classes most slots es h)

pub can_run_both : (classes : List Class) (most : ℕ) (slots : ℕ → ℕ) (xs ys : List Event) (g : Graph) → CanRun classes most slots xs g → ((h : Graph) → IsRun slots xs g h → CanRun classes most slots ys h) → CanRun classes most slots (xs ++ ys) g
can_run_both classes most slots [] ys g a b = b g refl
can_run_both classes most slots (x ∷ xs) ys g a b = (a.0, λ h s. can_run_both classes most slots xs ys h (a.1 h s) (λ k r. b k (h, s, r)))

pub acceptable_events : (es : List Event) (w : HeapState) → AreOfSession es → IsLegal w → CanRun w.classes w.limits.elements (slots_in w) es (graph_of w) → AreTakenUnlessFull es w
acceptable_events [] w s legal c = tt
acceptable_events (e ∷ es) w s legal c = elim (event_is_acceptable e w legal c.0) [
  | inr full ↦ inl full
  | inl accepted ↦ (let v = state_after e w in
      let p = event_steps e w s.0 legal accepted in
      let rest : CanRun w.classes w.limits.elements (slots_in w) es (graph_of v) = c.1 (graph_of v) p.step in
      inr (
        accepted,
        acceptable_events es v s.1 (keeps_legal e w legal accepted)
            (subst (λ m. CanRun v.classes m (slots_in v) es (graph_of v)) (sym (ap (λ l. l.elements) p.limits))
            (subst (λ cs. CanRun cs w.limits.elements (λ k. length (slots_of cs k)) es (graph_of v)) (sym p.classes) rest)),
      ))
]
