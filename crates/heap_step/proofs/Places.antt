-- Where the object stands that an event made or wrote to.
use Rattle.std.proofs.Common.{◌≡◌, ℕ, ◌<◌, Bool, false, length, Option, Some, None, sym, ap, subst, ◌∙◌}
use Rattle.std.specs.Prelude.{slice_get, slice_set, option_map, unwrap_or}
use Rattle.std.specs.Option.{option_map_or}
use Rattle.std.proofs.lemmas.List.{length-replicate, length-set}
use Rattle.std.proofs.lemmas.Option.{slice_get_within}
use Rattle.heap_class.specs.declared.Kind.{Kind}
use Rattle.heap_class.specs.declared.ObjRef.{ObjRef}
use Rattle.heap_class.specs.declared.ObjKind.{ObjKind}
use Rattle.heap_region.specs.Regions.{Object, id_of, object_at, object_of, ref_of, slot_kinds, with_word}
use Rattle.heap_region.specs.Pool.{RegionPool, new_place, allocated}
use Rattle.heap_region.proofs.AllocatedRegions.{IsNewCell, new_cell}
use Rattle.heap_region.proofs.FoundObjects.{object_in_taken_cell}
use Rattle.heap_region.proofs.ChangedLookups.{place_of_object_of_id}
use Rattle.heap_region.proofs.Lookups.{object_after_its_change}
use Rattle.heap_world.specs.State.{HeapState, pool_of, with_pool, with_register, place_of, slot_kind}
use Rattle.heap_world.specs.Legal.{IsLegal}
use Rattle.heap_world.specs.Events.{new_object, after_new, lacks_slot}
use Rattle.heap_world.proofs.Registers.{object_and_kind_of_slot}
use Rattle.heap_step.proofs.CreationUndo.{free_list_head_is_empty, pool_empty}
use Rattle.heap_world.proofs.Slot.{kind_that_is_not_none, slot_kinds_are_as_many}

-- ---- a new object

allocated_object_stands_at_place : (w : HeapState) → IsLegal w → (at : ObjRef) (fresh : Bool) (o : Object) → new_place (length o.words) (pool_of w) ≡ Some (at, fresh) → object_at (allocated at fresh o (pool_of w)).regions at ≡ Some o
allocated_object_stands_at_place w legal at fresh o place =
    let c : IsNewCell at fresh o (pool_of w) = new_cell at fresh o (pool_of w) place (free_list_head_is_empty w legal at) (pool_empty w legal at) in
    ap (λ (t : RegionPool). object_at t.regions at) c.is_taken ∙ object_in_taken_cell at o c.before c.region None c.used c.empty

-- the heap with the object at its place, and its id in the register
abbrev heap_with_object_in_register : HeapState → ℕ → ℕ → ObjRef → Bool → Object → HeapState
heap_with_object_in_register w m r at fresh o = let s : RegionPool = allocated at fresh o (pool_of w) in with_register m r (id_of s.regions at) (with_pool s w)

after_new_is_heap_made : (w : HeapState) (m r n : ℕ) (kind : ObjKind) (at : ObjRef) (fresh : Bool) → new_place n (pool_of w) ≡ Some (at, fresh) → after_new m r kind n w ≡ heap_with_object_in_register w m r at fresh (new_object kind n w)
unfolding after_new
after_new_is_heap_made w m r n kind at fresh place = ap (λ (p : Option (ObjRef × Bool)). option_map_or (λ (p : ObjRef × Bool). heap_with_object_in_register w m r p.0 p.1 (new_object kind n w)) p w) place

-- the new object stands at its place
pub new_object_stands_at_place : (w : HeapState) (m r n : ℕ) (kind : ObjKind) (at : ObjRef) (fresh : Bool) → IsLegal w → new_place n (pool_of w) ≡ Some (at, fresh) → object_at (after_new m r kind n w).regions at ≡ Some (new_object kind n w)
unfolding new_object
new_object_stands_at_place w m r n kind at fresh legal place =
    ap (λ (v : HeapState). object_at v.regions at) (after_new_is_heap_made w m r n kind at fresh place)
    ∙ allocated_object_stands_at_place w legal at fresh (new_object kind n w) (ap (λ k. new_place k (pool_of w)) (length-replicate n 0) ∙ place)

-- there are as many registers as before
pub new_registers : (w : HeapState) (m r n : ℕ) (kind : ObjKind) (at : ObjRef) (fresh : Bool) → new_place n (pool_of w) ≡ Some (at, fresh) → length (after_new m r kind n w).registers ≡ length w.registers
new_registers w m r n kind at fresh place = ap (λ (v : HeapState). length v.registers) (after_new_is_heap_made w m r n kind at fresh place) ∙ length-set w.registers _ _

-- ---- an object that is written to

ref_is_place_of_id : (w : HeapState) (x : ℕ) (at : ObjRef) → ref_of w.regions x ≡ Some at → at ≡ place_of w x
unfolding place_of
ref_is_place_of_id w x at e = sym (ap (λ (p : Option ObjRef). unwrap_or p (record { region = 0; cell = 0 })) e)

-- the object with a slot stands at the place of its id
pub slot_stands : (w : HeapState) (x slot : ℕ) → IsLegal w → lacks_slot w x slot ≡ false → (o : Object) × (object_at w.regions (place_of w x) ≡ Some o) × (slot < length o.words)
unfolding lacks_slot slot_kinds
slot_stands w x slot legal there = (o, here, within)
  where
    kind : (k : Kind) × (slot_kind w x slot ≡ Some k)
    kind = kind_that_is_not_none (slot_kind w x slot) there

    named : (o : Object) × (object_of w.regions x ≡ Some o) × (slice_get (slot_kinds w.classes o) slot ≡ Some kind.0)
    named = object_and_kind_of_slot w x slot kind.0 kind.1

    o : Object
    o = named.0

    found : (at : ObjRef) × (ref_of w.regions x ≡ Some at) × (object_at w.regions at ≡ Some o)
    found = place_of_object_of_id w.regions x o named.1

    here : object_at w.regions (place_of w x) ≡ Some o
    here = subst (λ (at : ObjRef). object_at w.regions at ≡ Some o) (ref_is_place_of_id w x found.0 found.1) found.2

    within : slot < length o.words
    within =
        let few : slot < length (slot_kinds w.classes o) = slice_get_within (slot_kinds w.classes o) slot kind.0 named.2 in
        subst (λ n. slot < n) (slot_kinds_are_as_many w.classes o.kind (length o.words) (legal.objects (place_of w x) o here).kind) few

-- and still stands there after a word of it is written
pub written_object_stands_at_place : (w : HeapState) (x slot word : ℕ) → IsLegal w → lacks_slot w x slot ≡ false → (o : Object) × (object_at (with_word (place_of w x) slot word w.regions) (place_of w x) ≡ Some o) × (slot < length o.words)
unfolding with_word
written_object_stands_at_place w x slot word legal there =
    let s = slot_stands w x slot legal there in
    let written : Object = record s.0 { words = slice_set s.0.words slot word } in
    (written, object_after_its_change (place_of w x) (λ (o : Object). record o { words = slice_set o.words slot word }) w.regions ∙ ap (option_map (λ (o : Object). record o { words = slice_set o.words slot word })) s.1, subst (λ n. slot < n) (sym (length-set s.0.words slot word)) s.2)
