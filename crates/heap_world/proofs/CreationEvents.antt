-- The events that make an object: their refusals, what they leave, and what undoes them. The heap after a new object is legal by
-- `New`.
use Rattle.std.proofs.Common.{◌≡◌, ◌≢◌, ◌⊎◌, ℕ, ◌<◌, ◌≤◌, Bool, true, false, List, [], ◌∷◌, Option, Some, None, Result, Ok, Err, length, refl, sym, ap, subst, ◌∙◌, inl, inr, arith}
use Rattle.std.specs.Prelude.{cond, not, nat_le, nat_lt, is_none, IfOk, OnOk, IfErr, OnErr, slice_get, slice_set, is_some, IsSome, option_map, option_and_then}
use Rattle.std.specs.Option.{option_map_or}
use Rattle.heap_class.specs.declared.Kind.{Kind}
use Rattle.heap_class.specs.declared.ObjRef.{ObjRef}
use Rattle.heap_class.specs.declared.Refusal.{Refusal}
use Rattle.heap_class.specs.declared.Refusal.TheVariants.{NoMemory, NoClass, BadRegister, WrongKind, TooLarge, HeapFull}
use Rattle.heap_class.specs.Kinds.{is_reference}
use Rattle.heap_class.specs.Classes.{is_instance_class, slots_of, Class, is_array_class}
use Rattle.heap_class.specs.Refusals.{first_refusal, IsAnswered}
use Rattle.heap_class.proofs.Slots.{instance_class_is_in_table}
use Rattle.heap_region.specs.Pool.{alloc_refusal, is_fresh, new_place, RegionPool, freed, allocated, unallocated, blank_object}
use Rattle.heap_world.specs.State.{HeapState, is_register, register, pool_of, with_pool, register_index, with_register}
use Rattle.heap_world.specs.declared.Created.{Created}
use Rattle.heap_world.specs.Events.{is_full, new_refusal, after_new, IsNewObject, new_object, new_array_refusal, new_prim_refusal}
use Rattle.std.proofs.lemmas.Option.{option_and_then_some, slice_get_within}
use Rattle.std.proofs.lemmas.Result.{on_ok_weaker}
use Rattle.heap_class.proofs.Lists.{got_item_was_set, got_set_elsewhere, got_is_in}
use Rattle.heap_region.specs.Legal.{IsCellTable, IsRegionPool}
use Rattle.heap_class.specs.declared.ObjKind.{ObjKind}
use Rattle.heap_region.specs.Regions.{Object, UsedRegion, used_at, object_at, id_of}
use Rattle.heap_region.proofs.Lookups.{used_region_after_its_change, object_found_in_used_cell}
use Rattle.heap_mark.specs.MarkSteps.{is_marking, marked}
use Rattle.heap_world.specs.Legal.{IsLegal, HasKind, MayHold}
use Rattle.heap_region.proofs.Good.{pool_is_empty}
use Rattle.std.proofs.lemmas.Bool.{le-ltb}
use Rattle.heap_world.specs.HeapParts.{IsSoundHeap}
use Rattle.heap_world.proofs.Clauses.{legal_heap_has_clauses, clauses_make_heap_legal, HasClauses}
use Rattle.heap_world.proofs.New.{clauses_after_new_object}
use Rattle.heap_world.proofs.Words.{few_words}
use Rattle.heap_class.specs.declared.ObjKind.TheVariants.{Array, Prim}
use Rattle.heap_class.specs.Limits.{large_array_limit}
use Rattle.heap_world.proofs.FirstRefusals.{refusal_of_test_that_holds, refusal_of_later_tests, no_refusal_without_tests}
use Rattle.heap_class.proofs.ReferenceKinds.{kind_is_not_a_reference}
use Rattle.std.proofs.lemmas.List.{length-replicate}
use Rattle.heap_region.proofs.AllocatedRegions.{allocated_keeps}
use Rattle.heap_world.proofs.KeptParts.{length_allocated, length_unallocated, legal_state_of_room_is_sound}
use Rattle.heap_world.proofs.Shapes.{NamesLike, KeepsShape}

-- ---- room

full_or_room : (o : Option (ObjRef × Bool)) → option_map_or (λ p. p.1) o false ≡ true → is_none o ≡ false
full_or_room None h = cc
full_or_room (Some p) h = refl

-- a heap that has a fresh region isn't full
pub fresh_room : (n : ℕ) (w : HeapState) → is_fresh n (pool_of w) ≡ true → is_full n w ≡ false
unfolding is_fresh is_full
fresh_room n w h = full_or_room (new_place n (pool_of w)) h

-- why the regions refuse an object of a kind that exists
abbrev pub IsRefusedRoom : ℕ → HeapState → Refusal → Type 0
IsRefusedRoom n w e = ((e ≡ HeapFull) × (is_full n w ≡ true)) ⊎ ((e ≡ NoMemory) × (is_fresh n (pool_of w) ≡ true))

same_refusal : (a b : Refusal) → Some a ≡ Some b → b ≡ a
same_refusal a b h = cc

room_refused : (n : ℕ) (w : HeapState) (e : Refusal) → n ≤ large_array_limit → alloc_refusal n (pool_of w) ≡ Some e → (e ≡ HeapFull) × (is_full n w ≡ true)
unfolding alloc_refusal first_refusal is_full
room_refused n w e few = go (nat_lt large_array_limit n) (is_none (new_place n (pool_of w))) (grind arith)
  where
    go : (a b : Bool) → a ≡ false → cond a (Some TooLarge) (cond b (Some HeapFull) None) ≡ Some e → (e ≡ HeapFull) × (b ≡ true)
    go true b f h = cc
    go false true f h = (same_refusal HeapFull e h, refl)
    go false false f h = cc

pub alloc_answered : (n : ℕ) (w : HeapState) (e : Refusal) → n ≤ large_array_limit → (alloc_refusal n (pool_of w) ≡ Some e) ⊎ ((alloc_refusal n (pool_of w) ≡ None) × (is_fresh n (pool_of w) ≡ true) × (e ≡ NoMemory)) → IsRefusedRoom n w e
alloc_answered n w e few (inl h) = inl (room_refused n w e few h)
alloc_answered n w e few (inr h) = inr (h.2, h.1)

heap_with_place_not_full : (n : ℕ) (w : HeapState) (at : ObjRef) (fresh : Bool) → new_place n (pool_of w) ≡ Some (at, fresh) → is_full n w ≡ false
unfolding is_full
heap_with_place_not_full n w at fresh e = ap is_none e

pub room_by : (w v : HeapState) (n : ℕ) (at : ObjRef) (fresh : Bool) → w ≡ v → new_place n (pool_of w) ≡ Some (at, fresh) → is_full n v ≡ false
room_by w v n at fresh e place = ap (is_full n) (sym e) ∙ heap_with_place_not_full n w at fresh place

pub refusal_of_room_by_allocator : (w v : HeapState) (n room : ℕ) (kind : ObjKind) (e : Refusal) → IsSoundHeap w room → w ≡ v → HasKind v.classes kind n
    → (alloc_refusal n (pool_of w) ≡ Some e) ⊎ ((alloc_refusal n (pool_of w) ≡ None) × (is_fresh n (pool_of w) ≡ true) × (e ≡ NoMemory)) → IsRefusedRoom n v e
refusal_of_room_by_allocator w v n room kind e h same k answered = subst (λ (u : HeapState). IsRefusedRoom n u e) same
    (alloc_answered n w e (few_words w.classes h.legal.classes kind n (subst (λ (u : HeapState). HasKind u.classes kind n) (sym same) k)) answered)

-- ---- a call that makes an object

pub refused_object_is_not_made : (m r : ℕ) (kind : ObjKind) (n : ℕ) (refusal : Option Refusal) (w : HeapState) (e : Refusal) → refusal ≡ Some e → IsNewObject m r kind n refusal w w (Err e)
refused_object_is_not_made m r kind n refusal w e refused = record { answered = inl refused; made = tt; placed = tt; held = tt; in_register = tt; unchanged = refl }

pub answer_of_new_object : (m r : ℕ) (kind : ObjKind) (n : ℕ) (refusal : Option Refusal) (w v : HeapState) (result : Result Created Refusal) → IsAnswered refusal (is_fresh n (pool_of w)) result → OnOk result (v ≡ after_new m r kind n w) → IfOk result (λ c. new_place n (pool_of w) ≡ Some (c.at, c.fresh))
    → IfOk result (λ c. (c.id ≡ register v m r) × (c.old ≡ register w m r)) → is_register w m r ≡ true → OnErr result (v ≡ w) → IsNewObject m r kind n refusal w v result
answer_of_new_object m r kind n refusal w v result answered made placed held there unchanged = record { answered = answered; made = made; placed = placed; held = held; in_register = on_ok_weaker result (λ _. there) made; unchanged = unchanged }

-- ---- a new instance

pub new_no_register : (m r class : ℕ) (w : HeapState) → is_register w m r ≡ false → new_refusal m r class w ≡ Some BadRegister
unfolding new_refusal
new_no_register m r class w e = refusal_of_test_that_holds _ _ _ (ap not e)

pub new_no_class : (m r class : ℕ) (w : HeapState) → is_register w m r ≡ true → length w.classes ≤ class → new_refusal m r class w ≡ Some NoClass
unfolding new_refusal
new_no_class m r class w e h = refusal_of_later_tests _ _ _ _ (ap not e) (refusal_of_test_that_holds _ _ _ (grind arith))

pub new_wrong_kind : (m r class : ℕ) (w : HeapState) → is_register w m r ≡ true → class < length w.classes → is_instance_class w.classes class ≡ false → new_refusal m r class w ≡ Some WrongKind
unfolding new_refusal
new_wrong_kind m r class w e h k = refusal_of_later_tests _ _ _ _ (ap not e) (refusal_of_later_tests _ _ _ _ (grind arith) (refusal_of_test_that_holds _ _ _ (ap not k)))

new_by_room : (m r class : ℕ) (w : HeapState) (x : Option Refusal) → is_register w m r ≡ true → class < length w.classes → is_instance_class w.classes class ≡ true
    → first_refusal ((is_full (length (slots_of w.classes class)) w, HeapFull) ∷ []) ≡ x → new_refusal m r class w ≡ x
unfolding new_refusal
new_by_room m r class w x e h k f = refusal_of_later_tests _ _ _ _ (ap not e) (refusal_of_later_tests _ _ _ _ (grind arith) (refusal_of_later_tests _ _ _ _ (ap not k) f))

-- what a new instance answers, where there are its register and its class
pub new_answered : {A : Type 0} (m r class n : ℕ) (w : HeapState) (result : Result A Refusal) → is_register w m r ≡ true → is_instance_class w.classes class ≡ true → n ≡ length (slots_of w.classes class)
    → OnOk result (is_full n w ≡ false) → IfErr result (IsRefusedRoom n w) → IsAnswered (new_refusal m r class w) (is_fresh n (pool_of w)) result
new_answered m r class n w (Ok a) e k l room refused =
    new_by_room m r class w None e (instance_class_is_in_table w.classes class k) k (refusal_of_later_tests _ _ _ _ (subst (λ i. is_full i w ≡ false) l room) no_refusal_without_tests)
new_answered m r class n w (Err x) e k l room (inl p) =
    inl (new_by_room m r class w (Some x) e (instance_class_is_in_table w.classes class k) k (refusal_of_test_that_holds _ _ _ (subst (λ i. is_full i w ≡ true) l p.1) ∙ ap (λ y. Some y) (sym p.0)))
new_answered m r class n w (Err x) e k l room (inr p) =
    let fresh : is_fresh (length (slots_of w.classes class)) (pool_of w) ≡ true = subst (λ i. is_fresh i (pool_of w) ≡ true) l p.1 in
    inr (new_by_room m r class w None e (instance_class_is_in_table w.classes class k) k (refusal_of_later_tests _ _ _ _ (fresh_room (length (slots_of w.classes class)) w fresh) no_refusal_without_tests), p.1, p.0)

-- ---- an object array

array_class_is_among_classes : (cs : List Class) (k : ℕ) → is_array_class cs k ≡ true → k < length cs
unfolding is_array_class
array_class_is_among_classes cs k = go (slice_get cs k) refl
  where
    go : (p : Option Class) → slice_get cs k ≡ p → option_map_or (λ (c : Class). c.is_array) p false ≡ true → k < length cs
    go None e h = cc
    go (Some c) e h = slice_get_within cs k c e

pub array_no_register : (m r class len : ℕ) (w : HeapState) → is_register w m r ≡ false → new_array_refusal m r class len w ≡ Some BadRegister
unfolding new_array_refusal
array_no_register m r class len w e = refusal_of_test_that_holds _ _ _ (ap not e)

pub array_no_class : (m r class len : ℕ) (w : HeapState) → is_register w m r ≡ true → length w.classes ≤ class → new_array_refusal m r class len w ≡ Some NoClass
unfolding new_array_refusal
array_no_class m r class len w e h = refusal_of_later_tests _ _ _ _ (ap not e) (refusal_of_test_that_holds _ _ _ (grind arith))

pub array_wrong_kind : (m r class len : ℕ) (w : HeapState) → is_register w m r ≡ true → class < length w.classes → is_array_class w.classes class ≡ false → new_array_refusal m r class len w ≡ Some WrongKind
unfolding new_array_refusal
array_wrong_kind m r class len w e h k = refusal_of_later_tests _ _ _ _ (ap not e) (refusal_of_later_tests _ _ _ _ (grind arith) (refusal_of_test_that_holds _ _ _ (ap not k)))

array_by_size : (m r class len : ℕ) (w : HeapState) (x : Option Refusal) → is_register w m r ≡ true → is_array_class w.classes class ≡ true
    → first_refusal ((nat_lt w.limits.elements len, TooLarge) ∷ (is_full len w, HeapFull) ∷ []) ≡ x → new_array_refusal m r class len w ≡ x
unfolding new_array_refusal
array_by_size m r class len w x e k f = let h : class < length w.classes = array_class_is_among_classes w.classes class k in
    refusal_of_later_tests _ _ _ _ (ap not e) (refusal_of_later_tests _ _ _ _ (there class (length w.classes) h) (refusal_of_later_tests _ _ _ _ (ap not k) f))
  where
    there : (a b : ℕ) → a < b → nat_le b a ≡ false
    there a b h = grind arith

pub array_too_large : (m r class len : ℕ) (w : HeapState) → is_register w m r ≡ true → is_array_class w.classes class ≡ true → w.limits.elements < len → new_array_refusal m r class len w ≡ Some TooLarge
array_too_large m r class len w e k h = array_by_size m r class len w (Some TooLarge) e k (refusal_of_test_that_holds _ _ _ (grind arith))

array_by_room : (m r class len : ℕ) (w : HeapState) → is_register w m r ≡ true → HasKind w.classes (Array class) len → len ≤ w.limits.elements → (x : Option Refusal) → first_refusal ((is_full len w, HeapFull) ∷ []) ≡ x → new_array_refusal m r class len w ≡ x
array_by_room m r class len w e k few x f = array_by_size m r class len w x e k.0 (refusal_of_later_tests _ _ _ _ (le-ltb w.limits.elements len few) f)

-- ---- an array of values

pub prim_no_register : (m r : ℕ) (kind : Kind) (len : ℕ) (w : HeapState) → is_register w m r ≡ false → new_prim_refusal m r kind len w ≡ Some BadRegister
unfolding new_prim_refusal
prim_no_register m r kind len w e = refusal_of_test_that_holds _ _ _ (ap not e)

pub prim_reference : (m r : ℕ) (kind : Kind) (len : ℕ) (w : HeapState) → is_register w m r ≡ true → is_reference kind ≡ true → new_prim_refusal m r kind len w ≡ Some WrongKind
unfolding new_prim_refusal
prim_reference m r kind len w e k = refusal_of_later_tests _ _ _ _ (ap not e) (refusal_of_test_that_holds _ _ _ k)

prim_by_size : (m r : ℕ) (kind : Kind) (len : ℕ) (w : HeapState) (x : Option Refusal) → is_register w m r ≡ true → is_reference kind ≡ false
    → first_refusal ((nat_lt w.limits.elements len, TooLarge) ∷ (is_full len w, HeapFull) ∷ []) ≡ x → new_prim_refusal m r kind len w ≡ x
unfolding new_prim_refusal
prim_by_size m r kind len w x e k f = refusal_of_later_tests _ _ _ _ (ap not e) (refusal_of_later_tests _ _ _ _ k f)

pub prim_too_large : (m r : ℕ) (kind : Kind) (len : ℕ) (w : HeapState) → is_register w m r ≡ true → is_reference kind ≡ false → w.limits.elements < len → new_prim_refusal m r kind len w ≡ Some TooLarge
prim_too_large m r kind len w e k h = prim_by_size m r kind len w (Some TooLarge) e k (refusal_of_test_that_holds _ _ _ (grind arith))

prim_by_room : (m r : ℕ) (kind : Kind) (len : ℕ) (w : HeapState) → is_register w m r ≡ true → HasKind w.classes (Prim kind) len → len ≤ w.limits.elements → (x : Option Refusal) → first_refusal ((is_full len w, HeapFull) ∷ []) ≡ x → new_prim_refusal m r kind len w ≡ x
prim_by_room m r kind len w e k few x f = prim_by_size m r kind len w x e (kind_is_not_a_reference kind k.0) (refusal_of_later_tests _ _ _ _ (le-ltb w.limits.elements len few) f)

-- ---- what is allowed

pub array_allowed : (w v : HeapState) (m r class len room : ℕ) → IsSoundHeap w room → w ≡ v → is_register v m r ≡ true → is_array_class v.classes class ≡ true → len ≤ w.limits.elements → MayHold v m r (Array class) len
array_allowed w v m r class len room h same e k few = record {
  there = e;
  of_kind = (k, omega (arith, few, h.legal.sized.limits.elements));
  allowed = subst (λ (u : HeapState). len ≤ u.limits.elements) same few;
}

pub prim_allowed : (w v : HeapState) (m r : ℕ) (kind : Kind) (len room : ℕ) → IsSoundHeap w room → w ≡ v → is_register v m r ≡ true → is_reference kind ≡ false → len ≤ w.limits.elements → MayHold v m r (Prim kind) len
prim_allowed w v m r kind len room h same e k few = record {
  there = e;
  of_kind = (not_object kind k, omega (arith, few, h.legal.sized.limits.elements));
  allowed = subst (λ (u : HeapState). len ≤ u.limits.elements) same few;
}
  where
    not_object : (k : Kind) → is_reference k ≡ false → k ≢ Kind.Object
    not_object k e same = let yes : is_reference k ≡ true = ap is_reference same in cc

-- ---- what is answered where only room is left to ask for

room_answered : {A : Type 0} (len : ℕ) (w : HeapState) (refusal : Option Refusal) (result : Result A Refusal) → ((x : Option Refusal) → first_refusal ((is_full len w, HeapFull) ∷ []) ≡ x → refusal ≡ x)
    → OnOk result (is_full len w ≡ false) → IfErr result (IsRefusedRoom len w) → IsAnswered refusal (is_fresh len (pool_of w)) result
room_answered len w refusal (Ok a) by room refused = by None (refusal_of_later_tests _ _ _ _ room no_refusal_without_tests)
room_answered len w refusal (Err e) by room (inl p) = inl (by (Some e) (refusal_of_test_that_holds _ _ _ p.1 ∙ ap (λ y. Some y) (sym p.0)))
room_answered len w refusal (Err e) by room (inr p) = inr (by None (refusal_of_later_tests _ _ _ _ (fresh_room len w p.1) no_refusal_without_tests), p.1, p.0)

pub array_answered : {A : Type 0} (m r class len : ℕ) (w : HeapState) (result : Result A Refusal) → is_register w m r ≡ true → HasKind w.classes (Array class) len → len ≤ w.limits.elements
    → OnOk result (is_full len w ≡ false) → IfErr result (IsRefusedRoom len w) → IsAnswered (new_array_refusal m r class len w) (is_fresh len (pool_of w)) result
array_answered m r class len w result e k few room refused = room_answered len w _ result (array_by_room m r class len w e k few) room refused

pub prim_answered : {A : Type 0} (m r : ℕ) (kind : Kind) (len : ℕ) (w : HeapState) (result : Result A Refusal) → is_register w m r ≡ true → HasKind w.classes (Prim kind) len → len ≤ w.limits.elements
    → OnOk result (is_full len w ≡ false) → IfErr result (IsRefusedRoom len w) → IsAnswered (new_prim_refusal m r kind len w) (is_fresh len (pool_of w)) result
prim_answered m r kind len w result e k few room refused = room_answered len w _ result (prim_by_room m r kind len w e k few) room refused

-- ---- what a new object leaves

pub new_phase : (w : HeapState) (m r : ℕ) (kind : ObjKind) (n : ℕ) → (after_new m r kind n w).phase ≡ w.phase
unfolding after_new
new_phase w m r kind n = go (new_place n (pool_of w))
  where
    go : (p : Option (ObjRef × Bool)) → (option_map_or (λ (p : ObjRef × Bool). let s : RegionPool = allocated p.0 p.1 (new_object kind n w) (pool_of w) in with_register m r (id_of s.regions p.0) (with_pool s w)) p w).phase ≡ w.phase
    go None = refl
    go (Some p) = refl

pub new_object_keeps_shapes : (w : HeapState) (m r : ℕ) (kind : ObjKind) (n x : ℕ) → HasClauses w → KeepsShape w (after_new m r kind n w) x
unfolding after_new new_object
new_object_keeps_shapes w m r kind n x l o e = go (new_place n (pool_of w)) refl
  where
    go : (p : Option (ObjRef × Bool)) → new_place n (pool_of w) ≡ p
        → NamesLike (option_map_or (λ (p : ObjRef × Bool). let s : RegionPool = allocated p.0 p.1 (new_object kind n w) (pool_of w) in with_register m r (id_of s.regions p.0) (with_pool s w)) p w) o x
    go None f = (o, e, refl, refl)
    go (Some p) f = (
      o,
      allocated_keeps p.0 p.1 (new_object kind n w) (pool_of w) (ap (λ k. new_place k (pool_of w)) (length-replicate n 0) ∙ f)
          (λ u used head. ((l.cells p.0.region u used).free.each p.0.cell).0 (got_is_in u.free 0 p.0.cell head))
          (pool_is_empty (pool_of w) p.0 (clauses_make_heap_legal w l).regions) x o e,
      refl,
      refl,
    )

-- ---- the heap that holds it

state_after_object_was_allocated : (m r n : ℕ) (kind : ObjKind) (w : HeapState) (at : ObjRef) (fresh : Bool) → new_place n (pool_of w) ≡ Some (at, fresh)
    → after_new m r kind n w ≡ (let s : RegionPool = allocated at fresh (new_object kind n w) (pool_of w) in with_register m r (id_of s.regions at) (with_pool s w))
unfolding after_new
state_after_object_was_allocated m r n kind w at fresh e = ap (λ (q : Option (ObjRef × Bool)). option_map_or (λ p. let s : RegionPool = allocated p.0 p.1 (new_object kind n w) (pool_of w) in with_register m r (id_of s.regions p.0) (with_pool s w)) q w) e

blank_new : (kind : ObjKind) (n : ℕ) (w : HeapState) → blank_object kind n (is_marking w.phase) ≡ new_object kind n w
unfolding blank_object new_object
blank_new kind n w = refl

-- the parts of a heap after a new object
pub parts_of_made_heap : (m r n x : ℕ) (kind : ObjKind) (mark : Bool) (w : HeapState) (at : ObjRef) (fresh : Bool) (s : RegionPool) (rs : List ℕ) → mark ≡ is_marking w.phase → new_place n (pool_of w) ≡ Some (at, fresh)
    → s ≡ allocated at fresh (blank_object kind n mark) (pool_of w) → x ≡ id_of s.regions at → rs ≡ slice_set w.registers (register_index m r) x → record (with_pool s w) { registers = rs } ≡ after_new m r kind n w
parts_of_made_heap m r n x kind mark w at fresh s rs marked place e id g =
    ap (λ (xs : List ℕ). record (with_pool s w) { registers = xs }) g
    ∙ ap (λ y. with_register m r y (with_pool s w)) id
    ∙ ap (λ (t : RegionPool). with_register m r (id_of t.regions at) (with_pool t w)) (e ∙ ap (λ o. allocated at fresh o (pool_of w)) (ap (blank_object kind n) marked ∙ blank_new kind n w))
    ∙ sym (state_after_object_was_allocated m r n kind w at fresh place)

new_object_keeps_region_count : (m r n : ℕ) (kind : ObjKind) (w : HeapState) (at : ObjRef) (fresh : Bool) → new_place n (pool_of w) ≡ Some (at, fresh) → length (after_new m r kind n w).regions ≡ length w.regions
new_object_keeps_region_count m r n kind w at fresh e = ap (λ (v : HeapState). length v.regions) (state_after_object_was_allocated m r n kind w at fresh e) ∙ length_allocated at fresh (new_object kind n w) (pool_of w)

pub new_object_keeps_heap_sound : (m r n room : ℕ) (kind : ObjKind) (w : HeapState) (at : ObjRef) (fresh : Bool) → IsSoundHeap w room → HasKind w.classes kind n → new_place n (pool_of w) ≡ Some (at, fresh) → IsSoundHeap (after_new m r kind n w) room
new_object_keeps_heap_sound m r n room kind w at fresh h k e = legal_state_of_room_is_sound (after_new m r kind n w) w room h
    (clauses_make_heap_legal (after_new m r kind n w) (clauses_after_new_object w m r kind n (legal_heap_has_clauses w h.legal) k (heap_with_place_not_full n w at fresh e))) (new_object_keeps_region_count m r n kind w at fresh e)

pub parts_of_new_object_sound : (w v : HeapState) (m r n x room : ℕ) (kind : ObjKind) (mark : Bool) (at : ObjRef) (fresh : Bool) (s : RegionPool) (rs : List ℕ) → IsSoundHeap w room → w ≡ v → HasKind v.classes kind n → mark ≡ is_marking w.phase → new_place n (pool_of w) ≡ Some (at, fresh)
    → s ≡ allocated at fresh (blank_object kind n mark) (pool_of w) → x ≡ id_of s.regions at → rs ≡ slice_set w.registers (register_index m r) x → IsSoundHeap (record (with_pool s w) { registers = rs }) room
parts_of_new_object_sound w v m r n x room kind mark at fresh s rs h e k marked place f id g = subst (λ (u : HeapState). IsSoundHeap u room) (sym (parts_of_made_heap m r n x kind mark w at fresh s rs marked place f id g))
    (new_object_keeps_heap_sound m r n room kind w at fresh h (subst (λ (u : HeapState). HasKind u.classes kind n) (sym e) k) place)

pub parts_of_new_object_make_state : (w v : HeapState) (m r n x : ℕ) (kind : ObjKind) (mark : Bool) (at : ObjRef) (fresh : Bool) (s : RegionPool) (rs : List ℕ) → w ≡ v → mark ≡ is_marking w.phase → new_place n (pool_of w) ≡ Some (at, fresh)
    → s ≡ allocated at fresh (blank_object kind n mark) (pool_of w) → x ≡ id_of s.regions at → rs ≡ slice_set w.registers (register_index m r) x → record (with_pool s w) { registers = rs } ≡ after_new m r kind n v
parts_of_new_object_make_state w v m r n x kind mark at fresh s rs e marked place f id g = parts_of_made_heap m r n x kind mark w at fresh s rs marked place f id g ∙ ap (after_new m r kind n) e

-- ---- an object is undone

some_option_has_value : {A : Type 0} (p : Option A) → IsSome p → (x : A) × (p ≡ Some x)
some_option_has_value None h = absurd (not_none h)
  where
    not_none : false ≡ true → ⊥
    not_none e = cc
some_option_has_value (Some x) h = (x, refl)

-- a region that is in use after an object's cell was freed has another object
region_of_freed_has_another : (w : HeapState) (at : ObjRef) (o : Object) → object_at w.regions at ≡ Some o → IsRegionPool (freed at (pool_of w)) → (other : ObjRef) × (other.region ≡ at.region) × (other ≢ at) × IsSome (object_at w.regions other)
unfolding freed object_at
region_of_freed_has_another w at o there after = option_and_then_some _ (used_at w.regions at.region) o there found
  where
    emptied : UsedRegion → UsedRegion
    emptied u = record u { cells = slice_set u.cells at.cell None; free = at.cell ∷ u.free }

    found : (u : UsedRegion) → used_at w.regions at.region ≡ Some u → option_and_then (λ (x : Option Object). x) (slice_get u.cells at.cell) ≡ Some o
        → (other : ObjRef) × (other.region ≡ at.region) × (other ≢ at) × IsSome (object_at w.regions other)
    found u used refusal_of_test_that_holds = (record { region = at.region; cell = t.inhabited.0 }, refl, (λ e. apart (ap (λ (b : ObjRef). b.cell) e)), is_there)
      where
        t : IsCellTable (emptied u)
        t = after.tables at.region (emptied u) (used_region_after_its_change at.region emptied w.regions ∙ ap (option_map emptied) used)

        apart : t.inhabited.0 ≢ at.cell
        apart e = option_and_then_some _ (slice_get u.cells at.cell) o refusal_of_test_that_holds (λ x there y.
            let a : slice_get (slice_set u.cells at.cell None) at.cell ≡ Some None = got_item_was_set at.cell u.cells x None there in
            let b : slice_get (slice_set u.cells at.cell None) at.cell ≡ Some (Some t.inhabited.1) = ap (slice_get (slice_set u.cells at.cell None)) (sym e) ∙ t.inhabited.2 in cc)

        is_there : IsSome (object_at w.regions (record { region = at.region; cell = t.inhabited.0 }))
        is_there = ap is_some (object_found_in_used_cell w.regions (record { region = at.region; cell = t.inhabited.0 }) u t.inhabited.1 used
            (sym (got_set_elsewhere at.cell t.inhabited.0 u.cells None (λ e. apart (sym e))) ∙ t.inhabited.2))

pub another_object_stays_in_region : (w : HeapState) (m r old : ℕ) (at : ObjRef) (fresh : Bool) → IsSome (object_at w.regions at) → IsLegal (with_register m r old (with_pool (unallocated at fresh (pool_of w)) w)) → fresh ≡ false
    → (other : ObjRef) × (other.region ≡ at.region) × (other ≢ at) × IsSome (object_at w.regions other)
unfolding unallocated
another_object_stays_in_region w m r old at fresh there legal e = let p = some_option_has_value (object_at w.regions at) there in
    region_of_freed_has_another w at p.0 p.1 (subst (λ b. IsRegionPool (unallocated at b (pool_of w))) e legal.regions)

pub another_object_in_equal_heap : (w v : HeapState) (m r old : ℕ) (at : ObjRef) (fresh : Bool) → w ≡ v → IsSome (object_at v.regions at) → IsLegal (with_register m r old (with_pool (unallocated at fresh (pool_of v)) v)) → fresh ≡ false
    → (other : ObjRef) × (other.region ≡ at.region) × (other ≢ at) × IsSome (object_at w.regions other)
another_object_in_equal_heap w v m r old at fresh e there legal f = subst (λ (u : HeapState). (other : ObjRef) × (other.region ≡ at.region) × (other ≢ at) × IsSome (object_at u.regions other)) (sym e) (another_object_stays_in_region v m r old at fresh there legal f)

pub unmade_held : (w v : HeapState) (m r old room : ℕ) (at : ObjRef) (fresh : Bool) (s : RegionPool) (rs : List ℕ) → IsSoundHeap w room → w ≡ v → s ≡ unallocated at fresh (pool_of w)
    → IsLegal (with_register m r old (with_pool (unallocated at fresh (pool_of v)) v)) → rs ≡ slice_set w.registers (register_index m r) old → IsSoundHeap (record (with_pool s w) { registers = rs }) room
unmade_held w v m r old room at fresh s rs h e f l g = subst (λ (xs : List ℕ). IsSoundHeap (record (with_pool s w) { registers = xs }) room) (sym g) (subst (λ (t : RegionPool). IsSoundHeap (with_register m r old (with_pool t w)) room) (sym f)
    (legal_state_of_room_is_sound (with_register m r old (with_pool (unallocated at fresh (pool_of w)) w)) w room h
    (subst (λ (u : HeapState). IsLegal (with_register m r old (with_pool (unallocated at fresh (pool_of u)) u))) (sym e) l) (length_unallocated at fresh (pool_of w))))
