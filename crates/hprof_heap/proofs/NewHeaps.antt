-- A new heap after the events that define the classes of a session.
use Rattle.std.proofs.Common.{◌≡◌, ℕ, zero, suc, Bool, true, false, cond, List, [], ◌∷◌, ◌++◌, map, replicate, refl, sym, ap, subst, ◌∙◌, append_assoc, Option, Some, None, inr}
use Rattle.std.specs.Prelude.{option_and_then, slice_get, if◌then◌else◌}
use Rattle.std.specs.Map.{values_of}
use Rattle.std.proofs.lemmas.List.{append-nil}
use Rattle.heap_class.specs.declared.ClassLimits.{ClassLimits}
use Rattle.heap_class.specs.declared.ObjRef.{ObjRef}
use Rattle.heap_class.specs.Classes.{Class, array_class, class_refusal, instance_class}
use Rattle.heap_region.specs.Regions.{Empty, object_of, ref_of, object_at, used_at, used_part}
use Rattle.heap_region.proofs.ShownRegions.{unused_region_has_no_object}
use Rattle.heap_world.specs.declared.Limits.{Limits}
use Rattle.heap_world.specs.Legal.{IsLegal}
use Rattle.heap_world.specs.State.{HeapState, opening_state}
use Rattle.heap_world.specs.Events.{after_class}
use Rattle.heap_world.proofs.OpeningState.{begins_legal}
use Rattle.heap_step.specs.declared.Event.{Event}
use Rattle.heap_step.specs.declared.Event.TheVariants as events
use Rattle.heap_step.specs.Apply.{refusal_of, state_after}
use Rattle.heap_step.proofs.EventLaws.{keeps_legal}
use Rattle.hprof_plan.specs.Accepted.{AreAccepted, class_event, next_name}
use Rattle.hprof_plan.specs.Plans.{IsPlan, planned_ids, planned_statics}
use Rattle.hprof_plan.specs.SessionClasses.{class_after, instance_after, is_array_in, name_in, root_names, static_class, super_after}
use Rattle.hprof_plan.specs.declared.dump.Found.{Found}
use Rattle.hprof_plan.specs.declared.planning.Plan.{Plan}
use Rattle.hprof_heap.specs.TakenEvents.{AreTaken, AreTakenUnlessFull, state_after_all}
use Rattle.hprof_heap.specs.Laws.{NewHeap, opened}
use Rattle.hprof_heap.proofs.Premises.{IsBare}
use Rattle.hprof_heap.proofs.PlannedClasses.{added_in_turn, dump_entry, dump_is_added, dump_part, plan_is_counted, root_part, static_part}

-- ---- one after another

pub taken_in_parts : (xs ys : List Event) (w : HeapState) → AreTaken (xs ++ ys) w → AreTaken xs w × AreTaken ys (state_after_all xs w)
taken_in_parts [] ys w t = (tt, t)
taken_in_parts (x ∷ xs) ys w t = let p = taken_in_parts xs ys (state_after x w) t.1 in ((t.0, p.0), p.1)

pub state_after_parts : (xs ys : List Event) (w : HeapState) → state_after_all (xs ++ ys) w ≡ state_after_all ys (state_after_all xs w)
state_after_parts [] ys w = refl
state_after_parts (x ∷ xs) ys w = state_after_parts xs ys (state_after x w)

pub taken_unless_full_in_turn : (xs ys : List Event) (w : HeapState) → AreTaken xs w → AreTakenUnlessFull ys (state_after_all xs w) → AreTakenUnlessFull (xs ++ ys) w
taken_unless_full_in_turn [] ys w t u = u
taken_unless_full_in_turn (x ∷ xs) ys w t u = inr (t.0, taken_unless_full_in_turn xs ys (state_after x w) t.1 u)

legal_after_all : (es : List Event) (w : HeapState) → IsLegal w → AreTaken es w → IsLegal (state_after_all es w)
legal_after_all [] w l t = l
legal_after_all (e ∷ es) w l t = legal_after_all es (state_after e w) (keeps_legal e w l t.0) t.1

-- ---- classes

-- the class that the event of a class defines
abbrev defined_by : Class → Class
defined_by c = cond c.is_array (array_class c.name) (instance_class c.name c.sup c.fields)

-- that is the class itself: an array class has no super and no fields
abbrev AreDefinedAsThey : List Class → Type 0
AreDefinedAsThey [] = Unit {0}
AreDefinedAsThey (c ∷ cs) = (defined_by c ≡ c) × AreDefinedAsThey cs

after_class_event : (c : Class) (w : HeapState) → state_after (class_event c) w ≡ after_class (defined_by c) w
unfolding state_after
after_class_event c w = go c.is_array
  where
    go : (b : Bool) → state_after (cond b (events.ArrayClass c.name) (events.Class c.name c.sup c.fields)) w ≡ after_class (cond b (array_class c.name) (instance_class c.name c.sup c.fields)) w
    go true = refl
    go false = refl

refusal_of_class_event : (c : Class) (w : HeapState) → refusal_of (class_event c) w ≡ class_refusal w.limits.classes w.classes (defined_by c)
unfolding refusal_of
refusal_of_class_event c w = go c.is_array
  where
    go : (b : Bool) → refusal_of (cond b (events.ArrayClass c.name) (events.Class c.name c.sup c.fields)) w ≡ class_refusal w.limits.classes w.classes (cond b (array_class c.name) (instance_class c.name c.sup c.fields))
    go true = refl
    go false = refl

-- only the classes change
pub record IsOtherwiseSame (w v : HeapState) : Type 0 where
  pub regions : v.regions ≡ w.regions
  pub limits : v.limits ≡ w.limits

class_leaves_rest : (c : Class) (w : HeapState) → defined_by c ≡ c → (state_after (class_event c) w).classes ≡ w.classes ++ c ∷ []
unfolding after_class
class_leaves_rest c w e = ap (λ (v : HeapState). v.classes) (after_class_event c w) ∙ ap (λ d. w.classes ++ d ∷ []) e

same_after_class : (c : Class) (w : HeapState) → IsOtherwiseSame w (state_after (class_event c) w)
unfolding after_class
same_after_class c w = record { regions = ap (λ (v : HeapState). v.regions) (after_class_event c w); limits = ap (λ (v : HeapState). v.limits) (after_class_event c w) }

pub classes_after_all : (cs : List Class) (w : HeapState) → AreDefinedAsThey cs → (state_after_all (map class_event cs) w).classes ≡ w.classes ++ cs
classes_after_all [] w d = sym (append-nil w.classes)
classes_after_all (c ∷ cs) w d = classes_after_all cs (state_after (class_event c) w) d.1 ∙ ap (λ ds. ds ++ cs) (class_leaves_rest c w d.0) ∙ append_assoc w.classes (c ∷ []) cs

pub same_after_classes : (cs : List Class) (w : HeapState) → IsOtherwiseSame w (state_after_all (map class_event cs) w)
same_after_classes [] w = record { regions = refl; limits = refl }
same_after_classes (c ∷ cs) w =
    let first = same_after_class c w in
    let rest = same_after_classes cs (state_after (class_event c) w) in
    record { regions = rest.regions ∙ first.regions; limits = rest.limits ∙ first.limits }

-- a heap takes classes that its limits refuse none of
pub classes_are_taken : (limits : ClassLimits) (before cs : List Class) (w : HeapState) → AreDefinedAsThey cs → w.limits.classes ≡ limits → w.classes ≡ before → AreAccepted limits before cs → AreTaken (map class_event cs) w
classes_are_taken limits before [] w d e f a = tt
classes_are_taken limits before (c ∷ cs) w d e f a = (
  refusal_of_class_event c w ∙ ap (λ l. class_refusal l w.classes (defined_by c)) e ∙ ap (λ bs. class_refusal limits bs (defined_by c)) f ∙ ap (class_refusal limits before) d.0 ∙ a.0,
  classes_are_taken limits (before ++ c ∷ []) cs (state_after (class_event c) w) d.1 (ap (λ (l : Limits). l.classes) (same_after_class c w).limits ∙ e) (class_leaves_rest c w d.0 ∙ ap (λ bs. bs ++ c ∷ []) f) a.1,
)

-- ---- the classes of a plan

each_is_defined : {A : Type 0} (f : List Class → A → Class) → ((done : List Class) (x : A) → defined_by (f done x) ≡ f done x) → (done : List Class) (xs : List A) → AreDefinedAsThey (added_in_turn f done xs)
each_is_defined f h done [] = tt
each_is_defined f h done (x ∷ xs) = (h done x, each_is_defined f h (done ++ f done x ∷ []) xs)

both_are_defined : (xs ys : List Class) → AreDefinedAsThey xs → AreDefinedAsThey ys → AreDefinedAsThey (xs ++ ys)
both_are_defined [] ys a b = b
both_are_defined (x ∷ xs) ys a b = (a.0, both_are_defined xs ys a.1 b)

class_of_dump_is_defined : (limits : ClassLimits) (f : Found) (done : List (ℕ × Class)) (id : ℕ) → defined_by (class_after limits f done id) ≡ class_after limits f done id
unfolding class_after
class_of_dump_is_defined limits f done id = go (is_array_in f id)
  where
    go : (b : Bool) → defined_by (if b then array_class (next_name limits (values_of done) (name_in f id)) else instance_after limits f (values_of done) (super_after f done id) id)
        ≡ (if b then array_class (next_name limits (values_of done) (name_in f id)) else instance_after limits f (values_of done) (super_after f done id) id)
    go true = refl
    go false = refl

values_are_defined : (limits : ClassLimits) (f : Found) (done : List (ℕ × Class)) (ids : List ℕ) → AreDefinedAsThey (values_of (added_in_turn (dump_entry limits f) done ids))
values_are_defined limits f done [] = tt
values_are_defined limits f done (id ∷ ids) = (class_of_dump_is_defined limits f done id, values_are_defined limits f (done ++ dump_entry limits f done id ∷ []) ids)

planned_are_defined : (limits : ClassLimits) (most : ℕ) (f : Found) (p : Plan) → IsPlan limits most f p → AreDefinedAsThey p.classes
planned_are_defined limits most f p plan =
    subst AreDefinedAsThey (sym (plan_is_counted limits most f p plan).classes)
    (both_are_defined (dump_part limits f ++ static_part limits f) (root_part limits f)
    (both_are_defined (dump_part limits f) (static_part limits f)
    (subst (λ es. AreDefinedAsThey (values_of es)) (sym (dump_is_added limits f (planned_ids limits f))) (values_are_defined limits f [] (planned_ids limits f)))
    (each_is_defined (static_class limits f) (λ done e. refl) (dump_part limits f) (planned_statics limits f)))
    (each_is_defined (λ (done : List Class) (n : List ℕ). array_class (next_name limits done n)) (λ done n. refl) (dump_part limits f ++ static_part limits f) root_names))

-- ---- a new heap

empty_regions_have_no_object : (n : ℕ) (x : ℕ) → object_of (replicate n Empty) x ≡ None
unfolding object_of used_at
empty_regions_have_no_object n x = go (ref_of (replicate n Empty) x)
  where
    no_region : (n r : ℕ) → option_and_then used_part (slice_get (replicate n Empty) r) ≡ None
    no_region zero r = refl
    no_region (suc n) zero = refl
    no_region (suc n) (suc r) = no_region n r

    go : (o : Option ObjRef) → option_and_then (object_at (replicate n Empty)) o ≡ None
    go None = refl
    go (Some at) = unused_region_has_no_object (replicate n Empty) at (no_region n at.region)

-- after the events of the classes of a plan a new heap has these classes, and no object
pub record IsReady (limits : Limits) (p : Plan) (v : HeapState) : Type 0 where
  pub bare : IsBare v
  pub classes : v.classes ≡ p.classes
  pub same : v.limits ≡ limits

pub new_heap_is_ready : (limits : ClassLimits) (most : ℕ) (f : Found) (p : Plan) (h : NewHeap) → IsPlan limits most f p → AreTaken (map class_event p.classes) (opened h)
    → IsReady h.limits p (state_after_all (map class_event p.classes) (opened h))
unfolding opening_state
new_heap_is_ready limits most f p h plan taken = record {
  bare = record {
    legal = legal_after_all (map class_event p.classes) (opened h) (begins_legal h.limits h.regions h.mutators h.limits_are h.regions_within.0 h.regions_within.1 h.mutators_within.0 h.mutators_within.1) taken;
    empty = λ x. ap (λ rs. object_of rs x) same.regions ∙ empty_regions_have_no_object h.regions x;
  };
  classes = classes_after_all p.classes (opened h) (planned_are_defined limits most f p plan);
  same = same.limits;
}
  where
    same : IsOtherwiseSame (opened h) (state_after_all (map class_event p.classes) (opened h))
    same = same_after_classes p.classes (opened h)

pub new_heap_takes_classes : (limits : ClassLimits) (most : ℕ) (f : Found) (p : Plan) (h : NewHeap) → IsPlan limits most f p → h.limits.classes ≡ limits → AreTaken (map class_event p.classes) (opened h)
unfolding opening_state
new_heap_takes_classes limits most f p h plan same = classes_are_taken limits [] p.classes (opened h) (planned_are_defined limits most f p plan) same refl plan.accepted
