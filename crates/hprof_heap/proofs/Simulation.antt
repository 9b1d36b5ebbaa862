-- Each event of a session that a heap accepts does to the graph of the heap what such an event does to graphs.
use Rattle.std.proofs.Common.{◌≡◌, ◌≢◌, ℕ, zero, suc, ◌<◌, ◌≤◌, Bool, true, false, List, [], ◌∷◌, length, drop, replicate, set, refl, sym, ap, subst, ◌∙◌, Option, Some, None, inl, inr, arith}
use Rattle.std.specs.Prelude.{slice_get, slice_index, slice_set, is_none, option_map, option_and_then, nat_lt, if◌then◌else◌}
use Rattle.std.specs.Option.{option_map_or}
use Rattle.std.proofs.lemmas.Bool.{and_parts, ltb-true, not-false}
use Rattle.std.proofs.lemmas.List.{length-replicate, get_or-set_same, get_or-set_other}
use Rattle.std.proofs.lemmas.Option.{slice_get_within}
use Rattle.heap_class.specs.declared.Kind.{Kind}
use Rattle.heap_class.specs.declared.ObjKind.{ObjKind}
use Rattle.heap_class.specs.declared.ObjKind.TheVariants.{Instance, Array, Prim}
use Rattle.heap_class.specs.declared.ObjRef.{ObjRef}
use Rattle.heap_class.specs.Classes.{slots_of, slot_kinds_of}
use Rattle.heap_class.specs.Kinds.{is_reference}
use Rattle.heap_class.proofs.Refusals.{no_refusal_test_holds}
use Rattle.heap_region.specs.Regions.{Object, Region, UsedRegion, cell_count, id_of, object_at, object_of, ref_of, slot_kinds, with_word}
use Rattle.heap_region.specs.Pool.{RegionPool, allocated, new_place, taken}
use Rattle.heap_region.proofs.AllocatedRegions.{IsNewCell, new_cell}
use Rattle.heap_region.proofs.ChangedLookups.{object_at_ref, place_of_object_of_id}
use Rattle.heap_region.proofs.FoundObjects.{object_in_other_than_taken_cell, object_in_taken_cell, ref_taken}
use Rattle.heap_region.proofs.Ids.{object_of_id_after_its_change, object_of_id_after_other_change, ref_back, ref_is}
use Rattle.heap_region.proofs.Lookups.{used_region_after_its_change}
use Rattle.heap_world.specs.State.{HeapState, is_register, place_of, pool_of, register, register_index, slot_kind, with_pool, with_register, word_of}
use Rattle.heap_world.specs.Events.{after_load, after_new, after_put, after_store, clear_refusal, is_full, is_reference_slot, lacks_slot, load_refusal, new_array_refusal, new_object, new_prim_refusal, new_refusal, put_refusal, store_refusal}
use Rattle.heap_world.specs.Legal.{IsLegal}
use Rattle.heap_world.proofs.Clauses.{legal_heap_has_clauses}
use Rattle.heap_world.proofs.Registers.{both_registers, object_and_kind_of_slot, word_of_object_slot}
use Rattle.heap_world.proofs.Slot.{kind_that_is_not_none}
use Rattle.heap_world.proofs.WordWrites.{with_object_word}
use Rattle.heap_world.proofs.WriteEvents.{WriteForm, form_after_put, place_of_id_by_ref, store_form}
use Rattle.heap_step.specs.declared.Event.{Event}
use Rattle.heap_step.specs.declared.Event.TheVariants.{New, NewArray, NewPrim, Put, Load, Store, Clear}
use Rattle.heap_step.specs.Apply.{refusal_of, state_after}
use Rattle.heap_step.proofs.CreationUndo.{free_list_head_is_empty, pool_empty}
use Rattle.heap_step.proofs.EventLaws.{keeps_legal}
use Rattle.heap_step.proofs.Places.{slot_stands}
use Rattle.hprof_heap.specs.TakenEvents.{AreTaken, state_after_all}
use Rattle.hprof_heap.proofs.Graphs.{Graph, Thing, IsCreation, IsGraphStep, IsLoading, IsRun, IsWriting}

abbrev pub thing_of : Object → Thing
thing_of o = record { kind = o.kind; words = o.words }

-- the objects of a heap without where they lie, and its registers
abbrev pub graph_of : HeapState → Graph
graph_of w = record { things = λ x. option_map thing_of (object_of w.regions x); registers = λ i. slice_index w.registers i }

-- the number of slots of each class
abbrev pub slots_in : HeapState → ℕ → ℕ
slots_in w class = length (slots_of w.classes class)

-- ---- registers

register_place : (r : ℕ) → register_index 0 r ≡ r
register_place r = omega arith

pub register_held : (w : HeapState) (r : ℕ) → register w 0 r ≡ slice_index w.registers r
register_held w r = ap (slice_index w.registers) (register_place r)

register_is_there : (w : HeapState) (r : ℕ) → is_register w 0 r ≡ true → r < length w.registers
register_is_there w r e = subst (λ i. i < length w.registers) (register_place r) (ltb-true (register_index 0 r) (length w.registers) (and_parts (nat_lt r 8) (nat_lt (register_index 0 r) (length w.registers)) e).1)

few_registers : (w : HeapState) (r : ℕ) → is_register w 0 r ≡ true → r < 8
few_registers w r e = ltb-true r 8 (and_parts (nat_lt r 8) (nat_lt (register_index 0 r) (length w.registers)) e).0

-- the registers of other mutators hold what they did
abbrev OthersHold : HeapState → HeapState → Type 0
OthersHold w v = (i : ℕ) → 8 ≤ i → slice_index v.registers i ≡ slice_index w.registers i

set_leaves_others : (w : HeapState) (r x : ℕ) → is_register w 0 r ≡ true → OthersHold w (with_register 0 r x w)
set_leaves_others w r x e i high = ap (λ k. slice_index (set w.registers k x) i) (register_place r) ∙ get_or-set_other w.registers r i x 0 (λ s. let few : r < 8 = few_registers w r e in omega (arith, high, few, s))

register_set : (w : HeapState) (r x : ℕ) → is_register w 0 r ≡ true → slice_index (with_register 0 r x w).registers r ≡ x
register_set w r x e = ap (λ i. slice_index (set w.registers i x) r) (register_place r) ∙ get_or-set_same w.registers r x 0 (register_is_there w r e)

other_register : (w : HeapState) (r x q : ℕ) → q ≢ r → slice_index (with_register 0 r x w).registers q ≡ slice_index w.registers q
other_register w r x q d = ap (λ i. slice_index (set w.registers i x) q) (register_place r) ∙ get_or-set_other w.registers r q x 0 d

-- ---- a new object

-- x is the id of a new object, and each other id names what it did
record IsNewIn (w : HeapState) (o : Object) (x : ℕ) (regions : List Region) : Type 0 where
  was_none : object_of w.regions x ≡ None
  named : object_of regions x ≡ Some o
  still : (y : ℕ) → y ≢ x → object_of regions y ≡ object_of w.regions y

abbrev cell_used : ObjRef → Object → UsedRegion → UsedRegion
cell_used at o u = record u { cells = slice_set u.cells at.cell (Some o); free = drop 1 u.free }

new_in_taken : (w : HeapState) (at : ObjRef) (fresh : Bool) (o : Object) → IsLegal w → (c : IsNewCell at fresh o (pool_of w)) → IsNewIn w o (id_of (taken at o c.before).regions at) (taken at o c.before).regions
unfolding taken object_at object_of
new_in_taken w at fresh o legal c = record {
  was_none = sym (c.found x) ∙ object_at_ref c.before.regions x at (sym (ref_taken at o c.before x) ∙ ref) ∙ bare;
  named = object_at_ref rs x at ref ∙ object_in_taken_cell at o c.before c.region None c.used c.empty;
  still = λ y d. ap (option_and_then (object_at rs)) (ref_taken at o c.before y) ∙ same y d (ref_of c.before.regions y) refl ∙ c.found y;
}
  where
    rs : List Region
    rs = (taken at o c.before).regions

    x : ℕ
    x = id_of (taken at o c.before).regions at

    bare : object_at c.before.regions at ≡ None
    bare = ap (option_and_then (λ (u : UsedRegion). option_and_then (λ (o : Option Object). o) (slice_get u.cells at.cell))) c.used ∙ ap (option_and_then (λ (o : Option Object). o)) c.empty

    cells : length c.region.cells ≡ cell_count c.region.cell_size
    cells = elim c.cells [ inl u ↦ (legal.regions.tables at.region c.region u).cells | inr e ↦ e ]

    fits : at.cell < cell_count c.region.cell_size
    fits = subst (λ n. at.cell < n) cells (slice_get_within c.region.cells at.cell None c.empty)

    ref : ref_of (taken at o c.before).regions (id_of (taken at o c.before).regions at) ≡ Some at
    ref = ref_back rs at (cell_used at o c.region) (used_region_after_its_change at.region (cell_used at o) c.before.regions ∙ ap (option_map (cell_used at o)) c.used) fits

    same : (y : ℕ) → y ≢ id_of (taken at o c.before).regions at → (p : Option ObjRef) → ref_of c.before.regions y ≡ p → option_and_then (object_at (taken at o c.before).regions) p ≡ option_and_then (object_at c.before.regions) p
    same y d None e = refl
    same y d (Some bt) e = object_in_other_than_taken_cell at bt o c.before (λ s. d (sym (ref_is rs y bt (ref_taken at o c.before y ∙ e)) ∙ ap (id_of rs) (sym s)))

new_in_regions : (w : HeapState) (kind : ObjKind) (n : ℕ) (at : ObjRef) (fresh : Bool) → IsLegal w → new_place n (pool_of w) ≡ Some (at, fresh)
    → IsNewIn w (new_object kind n w) (id_of (allocated at fresh (new_object kind n w) (pool_of w)).regions at) (allocated at fresh (new_object kind n w) (pool_of w)).regions
unfolding new_object
new_in_regions w kind n at fresh legal place =
    let o : Object = new_object kind n w in
    let c : IsNewCell at fresh o (pool_of w) = new_cell at fresh o (pool_of w) (ap (λ k. new_place k (pool_of w)) (length-replicate n 0) ∙ place) (free_list_head_is_empty w legal at) (pool_empty w legal at) in
    subst (λ (s : RegionPool). IsNewIn w o (id_of s.regions at) s.regions) (sym c.is_taken) (new_in_taken w at fresh o legal c)

creation_in : (w : HeapState) (r : ℕ) (kind : ObjKind) (n x : ℕ) (s : RegionPool) → is_register w 0 r ≡ true → IsNewIn w (new_object kind n w) x s.regions → IsCreation r kind n (graph_of w) (graph_of (with_register 0 r x (with_pool s w)))
unfolding new_object
creation_in w r kind n x s there p = record {
  fresh = ap (λ y. option_map thing_of (object_of w.regions y)) held ∙ ap (option_map thing_of) p.was_none;
  here = ap (λ y. option_map thing_of (object_of s.regions y)) held ∙ ap (option_map thing_of) p.named;
  others = λ y d. ap (option_map thing_of) (p.still y (λ e. d (e ∙ sym held)));
  registers = λ q d. other_register w r x q d;
}
  where
    held : slice_index (with_register 0 r x (with_pool s w)).registers r ≡ x
    held = register_set w r x there

-- an object is made, and the classes stay
record Makes (w : HeapState) (r : ℕ) (kind : ObjKind) (n : ℕ) (v : HeapState) : Type 0 where
  step : IsCreation r kind n (graph_of w) (graph_of v)
  classes : v.classes ≡ w.classes
  limits : v.limits ≡ w.limits
  others : OthersHold w v

new_makes : (w : HeapState) (r : ℕ) (kind : ObjKind) (n : ℕ) → IsLegal w → is_register w 0 r ≡ true → is_full n w ≡ false → Makes w r kind n (after_new 0 r kind n w)
unfolding is_full after_new
new_makes w r kind n legal there room = go (new_place n (pool_of w)) refl room
  where
    go : (p : Option (ObjRef × Bool)) → new_place n (pool_of w) ≡ p → is_none p ≡ false
        → Makes w r kind n (option_map_or (λ p. let s : RegionPool = allocated p.0 p.1 (new_object kind n w) (pool_of w) in with_register 0 r (id_of s.regions p.0) (with_pool s w)) p w)
    go None e f = cc
    go (Some (at, fresh)) e f = record {
      step = creation_in w r kind n (id_of (allocated at fresh (new_object kind n w) (pool_of w)).regions at) (allocated at fresh (new_object kind n w) (pool_of w)) there (new_in_regions w kind n at fresh legal e);
      classes = refl;
      limits = refl;
      others = set_leaves_others w r (id_of (allocated at fresh (new_object kind n w) (pool_of w)).regions at) there;
    }

-- ---- a write

-- a word is written, and the classes stay
record Writes (w : HeapState) (r slot word : ℕ) (v : HeapState) : Type 0 where
  step : IsWriting r slot word (graph_of w) (graph_of v)
  classes : v.classes ≡ w.classes
  limits : v.limits ≡ w.limits
  others : OthersHold w v

found_object_is_one : (p : Option Object) (a b : Object) → p ≡ Some a → p ≡ Some b → a ≡ b
found_object_is_one p a b e f = let z : Some a ≡ Some b = sym e ∙ f in cc

slot_is_in_object : (w : HeapState) (x slot : ℕ) (o : Object) → IsLegal w → lacks_slot w x slot ≡ false → object_of w.regions x ≡ Some o → slot < length o.words
slot_is_in_object w x slot o legal there named =
    let p = place_of_object_of_id w.regions x o named in
    let s = slot_stands w x slot legal there in
    let here : object_at w.regions (place_of w x) ≡ Some o = ap (object_at w.regions) (place_of_id_by_ref w x p.0 p.1) ∙ p.2 in
    subst (λ (a : Object). slot < length a.words) (found_object_is_one (object_at w.regions (place_of w x)) s.0 o s.1 here) s.2

write_in : (w : HeapState) (r slot word : ℕ) (log : List ℕ) (o : Object) (at : ObjRef) → slot < length o.words → object_of w.regions (slice_index w.registers r) ≡ Some o → ref_of w.regions (slice_index w.registers r) ≡ Some at
    → IsWriting r slot word (graph_of w) (graph_of (record w { regions = with_word at slot word w.regions; log = log }))
unfolding with_word
write_in w r slot word log o at within named ref = record {
  thing = thing_of o;
  there = ap (option_map thing_of) named;
  within = within;
  here = ap (option_map thing_of) (object_of_id_after_its_change w.regions (slice_index w.registers r) at (with_object_word slot word) ref ∙ ap (option_map (with_object_word slot word)) named);
  others = λ y d. ap (option_map thing_of) (object_of_id_after_other_change w.regions (slice_index w.registers r) y at (with_object_word slot word) ref (λ e. d (sym e)));
  registers = λ q. refl;
}

form_writes : (w v : HeapState) (r slot word : ℕ) → IsLegal w → lacks_slot w (register w 0 r) slot ≡ false → WriteForm w (register w 0 r) slot word v → Writes w r slot word v
form_writes w v r slot word legal there f = subst (Writes w r slot word) (sym f.4) (record {
  step = subst (λ (p : ObjRef). IsWriting r slot word (graph_of w) (graph_of (record w { regions = with_word p slot word w.regions; log = f.1 }))) (sym (place_of_id_by_ref w (register w 0 r) at.0 at.1))
      (write_in w r slot word f.1 f.0 at.0 (slot_is_in_object w (register w 0 r) slot f.0 legal there f.2) (ap (object_of w.regions) (sym (register_held w r)) ∙ f.2) (ap (ref_of w.regions) (sym (register_held w r)) ∙ at.1));
  classes = refl;
  limits = refl;
  others = λ i high. refl;
})
  where
    at : (at : ObjRef) × (ref_of w.regions (register w 0 r) ≡ Some at) × (object_at w.regions at ≡ Some f.0)
    at = place_of_object_of_id w.regions (register w 0 r) f.0 f.2

-- ---- a load

record Loads (w : HeapState) (to from slot : ℕ) (v : HeapState) : Type 0 where
  step : IsLoading to from slot (graph_of w) (graph_of v)
  classes : v.classes ≡ w.classes
  limits : v.limits ≡ w.limits
  others : OthersHold w v

item_of_copies : (k l : Kind) (n i : ℕ) → slice_get (replicate n k) i ≡ Some l → l ≡ k
item_of_copies k l zero i e = let z : None ≡ Some l = e in cc
item_of_copies k l (suc n) zero e = let z : Some k ≡ Some l = e in cc
item_of_copies k l (suc n) (suc i) e = item_of_copies k l n i e

pub thing_has_its_object : (w : HeapState) (x : ℕ) (t : Thing) → option_map thing_of (object_of w.regions x) ≡ Some t → (o : Object) × (object_of w.regions x ≡ Some o) × (thing_of o ≡ t)
thing_has_its_object w x t = go (object_of w.regions x) refl
  where
    go : (p : Option Object) → object_of w.regions x ≡ p → option_map thing_of p ≡ Some t → (o : Object) × (object_of w.regions x ≡ Some o) × (thing_of o ≡ t)
    go None e f = let z : None ≡ Some t = f in cc
    go (Some o) e f = (o, e, let z : Some (thing_of o) ≡ Some t = f in cc)

slots_of_array_are_references : (w : HeapState) (x slot class : ℕ) (o : Object) → lacks_slot w x slot ≡ false → object_of w.regions x ≡ Some o → o.kind ≡ Array class → is_reference_slot w x slot ≡ true
unfolding lacks_slot is_reference_slot slot_kinds slot_kinds_of
slots_of_array_are_references w x slot class o there named array =
    ap (λ p. option_map_or is_reference p false) k.1 ∙ ap is_reference object_kind
  where
    k : (k : Kind) × (slot_kind w x slot ≡ Some k)
    k = kind_that_is_not_none (slot_kind w x slot) there

    p : (a : Object) × (object_of w.regions x ≡ Some a) × (slice_get (slot_kinds w.classes a) slot ≡ Some k.0)
    p = object_and_kind_of_slot w x slot k.0 k.1

    is_array : p.0.kind ≡ Array class
    is_array = ap (λ (a : Object). a.kind) (found_object_is_one (object_of w.regions x) p.0 o p.1 named) ∙ array

    object_kind : k.0 ≡ Kind.Object
    object_kind = item_of_copies Kind.Object k.0 (length p.0.words) slot (ap (λ kind. slice_get (slot_kinds_of w.classes kind (length p.0.words)) slot) (sym is_array) ∙ p.2)

load_loads : (w : HeapState) (to from slot : ℕ) → is_register w 0 to ≡ true → lacks_slot w (register w 0 from) slot ≡ false → Loads w to from slot (after_load 0 to from slot w)
unfolding after_load
load_loads w to from slot there slot_there = go (is_reference_slot w (register w 0 from) slot) refl
  where
    x : ℕ
    x = register w 0 from

    by_register : (t : Thing) → option_map thing_of (object_of w.regions (slice_index w.registers from)) ≡ Some t → (o : Object) × (object_of w.regions (register w 0 from) ≡ Some o) × (thing_of o ≡ t)
    by_register t e = thing_has_its_object w (register w 0 from) t (ap (λ y. option_map thing_of (object_of w.regions y)) (register_held w from) ∙ e)

    go : (b : Bool) → is_reference_slot w (register w 0 from) slot ≡ b → Loads w to from slot (if b then with_register 0 to (word_of w (register w 0 from) slot) w else w)
    go true e = record {
      step = record {
        loaded = λ class t f k. (let o = by_register t f in
            register_set w to (word_of w x slot) there ∙ word_of_object_slot w x slot o.0 o.1 ∙ ap (λ (a : Thing). slice_index a.words slot) o.2);
        things = λ y. refl;
        registers = λ q d. other_register w to (word_of w x slot) q d;
      };
      classes = refl;
      limits = refl;
      others = set_leaves_others w to (word_of w x slot) there;
    }
    go false e = record {
      step = record {
        loaded = λ class t f k. (let o = by_register t f in
            let z : true ≡ false = sym (slots_of_array_are_references w x slot class o.0 slot_there o.1 (ap (λ (a : Thing). a.kind) o.2 ∙ k)) ∙ e in cc);
        things = λ y. refl;
        registers = λ q d. refl;
      };
      classes = refl;
      limits = refl;
      others = λ i high. refl;
    }

-- ---- each event

-- the event is one of a session: of mutator 0, and one of these seven
abbrev pub IsOfSession : Event → Type 0
IsOfSession (New zero r class) = Unit {0}
IsOfSession (NewArray zero r class n) = Unit {0}
IsOfSession (NewPrim zero r kind n) = Unit {0}
IsOfSession (Put zero r slot value) = Unit {0}
IsOfSession (Store zero r slot source) = Unit {0}
IsOfSession (Load zero to from slot) = Unit {0}
IsOfSession (Clear zero r) = Unit {0}
IsOfSession _ = ⊥

-- the event does to the graph what it is to do, and the classes stay
pub record IsStepOf (e : Event) (w v : HeapState) : Type 0 where
  pub step : IsGraphStep (slots_in w) e (graph_of w) (graph_of v)
  pub classes : v.classes ≡ w.classes
  pub limits : v.limits ≡ w.limits
  pub others : OthersHold w v

new_step : (r class : ℕ) (w : HeapState) → IsLegal w → refusal_of (New 0 r class) w ≡ None → IsStepOf (New 0 r class) w (state_after (New 0 r class) w)
unfolding refusal_of state_after new_refusal
new_step r class w legal accepted =
    let h = no_refusal_test_holds _ accepted in
    let m : Makes w r (Instance class) (slots_in w class) (after_new 0 r (Instance class) (slots_in w class) w) = new_makes w r (Instance class) (slots_in w class) legal (not-false (is_register w 0 r) h.0) h.1.1.1.0 in
    record { step = m.step; classes = m.classes; limits = m.limits; others = m.others }

new_array_step : (r class n : ℕ) (w : HeapState) → IsLegal w → refusal_of (NewArray 0 r class n) w ≡ None → IsStepOf (NewArray 0 r class n) w (state_after (NewArray 0 r class n) w)
unfolding refusal_of state_after new_array_refusal
new_array_step r class n w legal accepted =
    let h = no_refusal_test_holds _ accepted in
    let m : Makes w r (Array class) n (after_new 0 r (Array class) n w) = new_makes w r (Array class) n legal (not-false (is_register w 0 r) h.0) h.1.1.1.1.0 in
    record { step = m.step; classes = m.classes; limits = m.limits; others = m.others }

new_prim_step : (r n : ℕ) (kind : Kind) (w : HeapState) → IsLegal w → refusal_of (NewPrim 0 r kind n) w ≡ None → IsStepOf (NewPrim 0 r kind n) w (state_after (NewPrim 0 r kind n) w)
unfolding refusal_of state_after new_prim_refusal
new_prim_step r n kind w legal accepted =
    let h = no_refusal_test_holds _ accepted in
    let m : Makes w r (Prim kind) n (after_new 0 r (Prim kind) n w) = new_makes w r (Prim kind) n legal (not-false (is_register w 0 r) h.0) h.1.1.1.0 in
    record { step = m.step; classes = m.classes; limits = m.limits; others = m.others }

accepted_put_has_its_slot : (r slot value : ℕ) (w : HeapState) → put_refusal 0 r slot value w ≡ None → lacks_slot w (register w 0 r) slot ≡ false
unfolding put_refusal
accepted_put_has_its_slot r slot value w e = (no_refusal_test_holds _ e).1.1.0

accepted_store_has_its_slot : (r slot source : ℕ) (w : HeapState) → store_refusal 0 r slot source w ≡ None → lacks_slot w (register w 0 r) slot ≡ false
unfolding store_refusal
accepted_store_has_its_slot r slot source w e = (no_refusal_test_holds _ e).1.1.0

put_step : (r slot value : ℕ) (w : HeapState) → IsLegal w → refusal_of (Put 0 r slot value) w ≡ None → IsStepOf (Put 0 r slot value) w (state_after (Put 0 r slot value) w)
unfolding refusal_of state_after
put_step r slot value w legal accepted =
    let m : Writes w r slot value (after_put 0 r slot value w) = form_writes w (after_put 0 r slot value w) r slot value legal (accepted_put_has_its_slot r slot value w accepted) (form_after_put w 0 r slot value (legal_heap_has_clauses w legal) accepted) in
    record { step = m.step; classes = m.classes; limits = m.limits; others = m.others }

store_step : (r slot source : ℕ) (w : HeapState) → IsLegal w → refusal_of (Store 0 r slot source) w ≡ None → IsStepOf (Store 0 r slot source) w (state_after (Store 0 r slot source) w)
unfolding refusal_of state_after
store_step r slot source w legal accepted =
    let m : Writes w r slot (register w 0 source) (after_store 0 r slot source w) = form_writes w (after_store 0 r slot source w) r slot (register w 0 source) legal (accepted_store_has_its_slot r slot source w accepted) (store_form w 0 r slot source (legal_heap_has_clauses w legal) accepted) in
    record { step = subst (λ x. IsWriting r slot x (graph_of w) (graph_of (after_store 0 r slot source w))) (register_held w source) m.step; classes = m.classes; limits = m.limits; others = m.others }

load_step : (to from slot : ℕ) (w : HeapState) → refusal_of (Load 0 to from slot) w ≡ None → IsStepOf (Load 0 to from slot) w (state_after (Load 0 to from slot) w)
unfolding refusal_of state_after load_refusal
load_step to from slot w accepted =
    let h = no_refusal_test_holds _ accepted in
    let m : Loads w to from slot (after_load 0 to from slot w) = load_loads w to from slot (both_registers (is_register w 0 to) (is_register w 0 from) h.0).0 h.1.1.0 in
    record { step = m.step; classes = m.classes; limits = m.limits; others = m.others }

clear_step : (r : ℕ) (w : HeapState) → refusal_of (Clear 0 r) w ≡ None → IsStepOf (Clear 0 r) w (state_after (Clear 0 r) w)
unfolding refusal_of state_after clear_refusal
clear_step r w accepted =
    let h = no_refusal_test_holds _ accepted in
    record {
      step = record { cleared = register_set w r 0 (not-false (is_register w 0 r) h.0); things = λ y. refl; registers = λ q d. other_register w r 0 q d };
      classes = refl;
      limits = refl;
      others = set_leaves_others w r 0 (not-false (is_register w 0 r) h.0);
    }

pub event_steps : (e : Event) (w : HeapState) → IsOfSession e → IsLegal w → refusal_of e w ≡ None → IsStepOf e w (state_after e w)
event_steps (New zero r class) w s legal accepted = new_step r class w legal accepted
event_steps (NewArray zero r class n) w s legal accepted = new_array_step r class n w legal accepted
event_steps (NewPrim zero r kind n) w s legal accepted = new_prim_step r n kind w legal accepted
event_steps (Put zero r slot value) w s legal accepted = put_step r slot value w legal accepted
event_steps (Store zero r slot source) w s legal accepted = store_step r slot source w legal accepted
event_steps (Load zero to from slot) w s legal accepted = load_step to from slot w accepted
event_steps (Clear zero r) w s legal accepted = clear_step r w accepted
event_steps _ w s legal accepted = absurd s

-- ---- one after another

abbrev pub AreOfSession : List Event → Type 0
AreOfSession [] = Unit {0}
AreOfSession (e ∷ es) = IsOfSession e × AreOfSession es

-- events that are accepted one after another do so to the graph, and leave a legal heap
pub record IsRunOf (es : List Event) (w v : HeapState) : Type 0 where
  pub run : IsRun (slots_in w) es (graph_of w) (graph_of v)
  pub legal : IsLegal v
  pub classes : v.classes ≡ w.classes
  pub limits : v.limits ≡ w.limits
  pub others : (i : ℕ) → 8 ≤ i → slice_index v.registers i ≡ slice_index w.registers i

run_and_more : (e : Event) (es : List Event) (w u v : HeapState) → IsStepOf e w u → IsRunOf es u v → IsRunOf (e ∷ es) w v
run_and_more e es w u v first rest = record {
  run = (graph_of u, first.step, subst (λ c. IsRun (λ k. length (slots_of c k)) es (graph_of u) (graph_of v)) first.classes rest.run);
  legal = rest.legal;
  classes = rest.classes ∙ first.classes;
  limits = rest.limits ∙ first.limits;
  others = λ i high. rest.others i high ∙ first.others i high;
}

pub events_run : (es : List Event) (w : HeapState) → AreOfSession es → IsLegal w → AreTaken es w → IsRunOf es w (state_after_all es w)
events_run [] w s legal accepted = record { run = refl; legal = legal; classes = refl; limits = refl; others = λ i high. refl }
events_run (e ∷ es) w s legal accepted =
    run_and_more e es w (state_after e w) (state_after_all es (state_after e w)) (event_steps e w s.0 legal accepted.0)
    (events_run es (state_after e w) s.1 (keeps_legal e w legal accepted.0) accepted.1)
