-- A store with its barrier, and what undoes it.
use Rattle.std.proofs.Common.{◌≡◌, ◌⊎◌, ℕ, ◌-◌, ◌<◌, ◌≤◌, Bool, true, false, not, [], ◌∷◌, ◌++◌, length, take, Some, None, refl, sym, ap, subst, ◌∙◌, inr, arith, length-take}
use Rattle.std.specs.Prelude.{◌&&◌, ◌==◌, if◌then◌else◌, IfSome, IsTrue, slice_index}
use Rattle.heap_class.proofs.Refusals.{no_refusal_test_holds}
use Rattle.heap_class.specs.declared.ObjRef.{ObjRef}
use Rattle.heap_class.specs.declared.Refusal.{Refusal}
use Rattle.heap_class.specs.declared.Refusal.TheVariants.{NoMemory}
use Rattle.heap_region.specs.Regions.{object_at, ref_of, with_word}
use Rattle.heap_region.specs.Pool.{RegionPool}
use Rattle.heap_mark.specs.MarkSteps.{is_marking, logged}
use Rattle.heap_mark.specs.Marker.{MarkerState}
use Rattle.heap_world.specs.State.{HeapState, with_pool, marking_of, with_marking, is_register, register, place_of, slot_kind, word_of}
use Rattle.heap_world.specs.Legal.{IsLegal}
use Rattle.heap_world.specs.HeapParts.{IsSoundHeap}
use Rattle.heap_world.specs.Events.{lacks_slot, is_logged, without_last, with_slot, store_refusal, after_store}
use Rattle.heap_world.proofs.Clauses.{legal_heap_has_clauses, clauses_make_heap_legal}
use Rattle.heap_world.proofs.Registers.{second_register}
use Rattle.heap_world.proofs.WordWrites.{word_write_keeps_region_count}
use Rattle.heap_world.proofs.WriteEvents.{place_of_id_by_ref, clauses_after_store}
use Rattle.heap_world.proofs.KeptParts.{legal_state_of_room_is_sound}
use Rattle.heap_world.proofs.MarkerParts.{marker_of, with_marker}
use Rattle.heap_world.proofs.Slot.{HasSlot, kind_that_is_not_none, slot_by}

-- ---- what a store that isn't refused finds

pub source_there : (m target slot source : ℕ) (w : HeapState) → store_refusal m target slot source w ≡ None → is_register w m source ≡ true
unfolding store_refusal
source_there m target slot source w accepted = second_register _ _ (no_refusal_test_holds _ accepted).0

pub store_by : (w v : HeapState) (m target slot source room : ℕ) (at : ObjRef) → IsSoundHeap w room → w ≡ v → store_refusal m target slot source v ≡ None → ref_of v.regions (register v m target) ≡ Some at → HasSlot w (register v m target) slot at
unfolding store_refusal lacks_slot
store_by w v m target slot source room at h e accepted r =
    let k = kind_that_is_not_none (slot_kind v (register v m target) slot) (no_refusal_test_holds _ accepted).1.1.0 in
    slot_by w v (register v m target) slot room at k.0 h e r k.1

-- and what the slot holds
pub old_by : (w v : HeapState) (m target slot source old room : ℕ) (at : ObjRef) → IsSoundHeap w room → w ≡ v → store_refusal m target slot source v ≡ None → ref_of v.regions (register v m target) ≡ Some at
    → IfSome (object_at w.regions at) (λ o. old ≡ slice_index o.words slot) → old ≡ word_of v (register v m target) slot
old_by w v m target slot source old room at h e accepted r f = (store_by w v m target slot source room at h e accepted r).word old f ∙ ap (λ (u : HeapState). word_of u (register v m target) slot) e

-- ---- the log

-- what is put in the log is what the slot held
pub logged_word_is_old_word : (w v : HeapState) (m target slot old : ℕ) (b : Bool) → w ≡ v → old ≡ word_of v (register v m target) slot → b ≡ (is_marking w.phase && not (old == 0)) → b ≡ is_logged v (register v m target) slot
unfolding is_logged
logged_word_is_old_word w v m target slot old b e o f = f ∙ ap (λ y. is_marking w.phase && not (y == 0)) o
    ∙ ap (λ (u : HeapState). is_marking u.phase && not (word_of v (register v m target) slot == 0)) e

-- the log can't grow
pub store_refused_without_log_room : (w v : HeapState) (m target slot source old : ℕ) (x : Refusal) → w ≡ v → store_refusal m target slot source v ≡ None → old ≡ word_of v (register v m target) slot
    → (x ≡ NoMemory) × ((is_marking w.phase && not (old == 0)) ≡ true)
    → (store_refusal m target slot source v ≡ Some x) ⊎ ((store_refusal m target slot source v ≡ None) × (is_logged v (register v m target) slot ≡ true) × (x ≡ NoMemory))
store_refused_without_log_room w v m target slot source old x e accepted o p = inr (accepted, sym (logged_word_is_old_word w v m target slot old true e o (sym p.1)), p.0)

-- ---- the state after a store

parts_after_store : (v : HeapState) (m target slot source : ℕ) (at : ObjRef) → ref_of v.regions (register v m target) ≡ Some at
    → record v { regions = with_word at slot (register v m source) v.regions; log = if is_logged v (register v m target) slot then v.log ++ word_of v (register v m target) slot ∷ [] else v.log } ≡ after_store m target slot source v
unfolding after_store with_slot logged is_logged place_of
parts_after_store v m target slot source at r =
    ap (λ p. record v { regions = with_word p slot (register v m source) v.regions; log = if is_marking v.phase && not (old == 0) then v.log ++ old ∷ [] else v.log }) (sym (place_of_id_by_ref v x at r))
    ∙ go (is_marking v.phase) (old == 0)
  where
    x : ℕ
    x = register v m target

    old : ℕ
    old = word_of v x slot

    go : (b c : Bool) → record v { regions = with_word (place_of v x) slot (register v m source) v.regions; log = if b && not c then v.log ++ old ∷ [] else v.log }
        ≡ (let u : HeapState = with_marking (if b then (if c then marking_of v else record (marking_of v) { log = v.log ++ old ∷ [] }) else marking_of v) v in
        record u { regions = with_word (place_of u x) slot (register v m source) u.regions })
    go true true = refl
    go true false = refl
    go false c = refl

-- the heap with the marker after the barrier
with_log : (w : HeapState) (room old : ℕ) (b : Bool) → with_marker (if b then record (marker_of w room) { log = w.log ++ old ∷ [] } else marker_of w room) w ≡ record w { log = if b then w.log ++ old ∷ [] else w.log }
with_log w room old true = refl
with_log w room old false = refl

-- the fields after a store
pub store_made : (w v : HeapState) (m target slot source old word room : ℕ) (at : ObjRef) (b : Bool) (s : RegionPool) (k : MarkerState) → w ≡ v → ref_of v.regions (register v m target) ≡ Some at
    → old ≡ word_of v (register v m target) slot → word ≡ register v m source → b ≡ is_logged v (register v m target) slot → k ≡ (if b then record (marker_of w room) { log = w.log ++ old ∷ [] } else marker_of w room)
    → s ≡ record { regions = with_word at slot word w.regions; pool = w.pool; area_start = w.area_start } → with_marker k (with_pool s w) ≡ after_store m target slot source v
store_made w v m target slot source old word room at b s k e r o a l f g =
    ap (λ (t : RegionPool). with_marker k (with_pool t w)) g
    ∙ ap (λ (j : MarkerState). record (with_marker j w) { regions = with_word at slot word w.regions }) f
    ∙ ap (λ (u : HeapState). record u { regions = with_word at slot word w.regions }) (with_log w room old b)
    ∙ ap (λ y. record w { regions = with_word at slot y w.regions; log = if b then w.log ++ old ∷ [] else w.log }) a
    ∙ ap (λ y. record w { regions = with_word at slot (register v m source) w.regions; log = if b then w.log ++ y ∷ [] else w.log }) o
    ∙ ap (λ c. record w { regions = with_word at slot (register v m source) w.regions; log = if c then w.log ++ word_of v (register v m target) slot ∷ [] else w.log }) l
    ∙ ap (λ (u : HeapState). record u { regions = with_word at slot (register v m source) u.regions; log = if is_logged v (register v m target) slot then u.log ++ word_of v (register v m target) slot ∷ [] else u.log }) e
    ∙ parts_after_store v m target slot source at r

store_holds : (v : HeapState) (m target slot source room : ℕ) (at : ObjRef) → IsSoundHeap v room → store_refusal m target slot source v ≡ None → ref_of v.regions (register v m target) ≡ Some at → IsSoundHeap (after_store m target slot source v) room
store_holds v m target slot source room at h accepted r = legal_state_of_room_is_sound (after_store m target slot source v) v room h
    (clauses_make_heap_legal (after_store m target slot source v) (clauses_after_store v m target slot source (legal_heap_has_clauses v h.legal) accepted))
    (ap (λ (u : HeapState). length u.regions) (sym (parts_after_store v m target slot source at r)) ∙ word_write_keeps_region_count v.regions at slot (register v m source))

pub store_held : (w v : HeapState) (m target slot source old word room : ℕ) (at : ObjRef) (b : Bool) (s : RegionPool) (k : MarkerState) → IsSoundHeap w room → w ≡ v → store_refusal m target slot source v ≡ None
    → ref_of v.regions (register v m target) ≡ Some at → old ≡ word_of v (register v m target) slot → word ≡ register v m source → b ≡ is_logged v (register v m target) slot
    → k ≡ (if b then record (marker_of w room) { log = w.log ++ old ∷ [] } else marker_of w room)
    → s ≡ record { regions = with_word at slot word w.regions; pool = w.pool; area_start = w.area_start } → IsSoundHeap (with_marker k (with_pool s w)) k.room
store_held w v m target slot source old word room at b s k h e accepted r o a l f g =
    subst (λ n. IsSoundHeap (with_marker k (with_pool s w)) n) (sym (ap (λ (j : MarkerState). j.room) f ∙ go b))
    (subst (λ (u : HeapState). IsSoundHeap u room) (sym (store_made w v m target slot source old word room at b s k e r o a l f g))
    (store_holds v m target slot source room at (subst (λ (u : HeapState). IsSoundHeap u room) e h) accepted r))
  where
    go : (c : Bool) → (if c then record (marker_of w room) { log = w.log ++ old ∷ [] } else marker_of w room).room ≡ room
    go true = refl
    go false = refl

-- ---- a store is undone

without_log : (w : HeapState) (room : ℕ) (b : Bool) → with_marker (if b then record (marker_of w room) { log = take (length w.log - 1) w.log } else marker_of w room) w ≡ record w { log = if b then without_last w.log else w.log }
unfolding without_last
without_log w room true = refl
without_log w room false = refl

-- the entry isn't drained
pub log_entry_is_not_drained : (w v : HeapState) (slot word : ℕ) (at : ObjRef) (b : Bool) → w ≡ v → (IsTrue b → 0 < length v.log) → IsLegal (record v { regions = with_word at slot word v.regions; log = if b then without_last v.log else v.log }) → IsTrue b → w.drained < length w.log
unfolding without_last
log_entry_is_not_drained w v slot word at b e some l t = subst (λ (u : HeapState). u.drained < length u.log) (sym e) (go b t some l.drained_within)
  where
    go : (c : Bool) → IsTrue c → (IsTrue c → 0 < length v.log) → v.drained ≤ length (if c then take (length v.log - 1) v.log else v.log) → v.drained < length v.log
    go true h more within = let n = more h in omega (arith, within, n, length-take (length v.log - 1) v.log)
    go false h more within = cc

parts_after_store_undone : (w : HeapState) (slot word room : ℕ) (at : ObjRef) (b : Bool) (s : RegionPool) (k : MarkerState) → k ≡ (if b then record (marker_of w room) { log = take (length w.log - 1) w.log } else marker_of w room)
    → s ≡ record { regions = with_word at slot word w.regions; pool = w.pool; area_start = w.area_start } → with_marker k (with_pool s w) ≡ record w { regions = with_word at slot word w.regions; log = if b then without_last w.log else w.log }
parts_after_store_undone w slot word room at b s k f g =
    ap (λ (t : RegionPool). with_marker k (with_pool t w)) g
    ∙ ap (λ (j : MarkerState). record (with_marker j w) { regions = with_word at slot word w.regions }) f
    ∙ ap (λ (u : HeapState). record u { regions = with_word at slot word w.regions }) (without_log w room b)

pub store_undone_makes_state : (w v : HeapState) (slot word room : ℕ) (at : ObjRef) (b : Bool) (s : RegionPool) (k : MarkerState) → w ≡ v → k ≡ (if b then record (marker_of w room) { log = take (length w.log - 1) w.log } else marker_of w room)
    → s ≡ record { regions = with_word at slot word w.regions; pool = w.pool; area_start = w.area_start } → with_marker k (with_pool s w) ≡ record v { regions = with_word at slot word v.regions; log = if b then without_last v.log else v.log }
store_undone_makes_state w v slot word room at b s k e f g = parts_after_store_undone w slot word room at b s k f g
    ∙ ap (λ (u : HeapState). record u { regions = with_word at slot word u.regions; log = if b then without_last u.log else u.log }) e

pub store_undone_keeps_heap_sound : (w v : HeapState) (slot word room : ℕ) (at : ObjRef) (b : Bool) (s : RegionPool) (k : MarkerState) → IsSoundHeap w room → w ≡ v → k ≡ (if b then record (marker_of w room) { log = take (length w.log - 1) w.log } else marker_of w room)
    → s ≡ record { regions = with_word at slot word w.regions; pool = w.pool; area_start = w.area_start } → IsLegal (record v { regions = with_word at slot word v.regions; log = if b then without_last v.log else v.log })
    → IsSoundHeap (with_marker k (with_pool s w)) k.room
store_undone_keeps_heap_sound w v slot word room at b s k h e f g l =
    subst (λ n. IsSoundHeap (with_marker k (with_pool s w)) n) (sym (ap (λ (j : MarkerState). j.room) f ∙ go b))
    (subst (λ (u : HeapState). IsSoundHeap u room) (sym (parts_after_store_undone w slot word room at b s k f g))
    (legal_state_of_room_is_sound (record w { regions = with_word at slot word w.regions; log = if b then without_last w.log else w.log }) w room h
    (subst (λ (u : HeapState). IsLegal (record u { regions = with_word at slot word u.regions; log = if b then without_last u.log else u.log })) (sym e) l)
    (word_write_keeps_region_count w.regions at slot word)))
  where
    go : (c : Bool) → (if c then record (marker_of w room) { log = take (length w.log - 1) w.log } else marker_of w room).room ≡ room
    go true = refl
    go false = refl
