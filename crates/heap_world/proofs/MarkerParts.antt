-- The marker of a heap, what the heap holds gives it, and its work on what the heap holds.
use Rattle.std.proofs.Common.{ℕ, List, length, Option, sym, ap, subst, ◌≡◌, false, None, Result, Ok, Err, ◌∙◌}
use Rattle.std.specs.Prelude.{Contains, is_some, IsSome, IfSome, OnOk, OnErr}
use Rattle.heap_class.specs.declared.ObjKind.{ObjKind}
use Rattle.heap_class.specs.declared.ObjKind.TheVariants.{Instance, Array, Prim}
use Rattle.heap_class.specs.Classes.{Class}
use Rattle.heap_class.proofs.Slots.{instance_class_is_in_table}
use Rattle.heap_region.specs.Regions.{Object, object_of}
use Rattle.heap_region.proofs.ChangedLookups.{place_of_object_of_id}
use Rattle.heap_mark.specs.MarkSteps.{children_of, MarkState}
use Rattle.heap_mark.specs.Marker.{MarkerState, IsNullOrNames, IsGraySound, HasSlots, after_work}
use Rattle.heap_world.specs.State.{HeapState, pool_of, with_pool, with_marking}
use Rattle.heap_world.specs.Legal.{HasKind, IsLive, IsLegal}
use Rattle.heap_world.specs.HeapParts.{IsSoundHeap}
use Rattle.heap_class.specs.declared.Refusal.{Refusal}
use Rattle.heap_class.specs.Refusals.{IsAnswered}
use Rattle.heap_region.specs.Pool.{RegionPool}
use Rattle.heap_world.proofs.Clauses.{HasClauses, clauses_make_heap_legal}
use Rattle.heap_world.proofs.KeptParts.{legal_state_of_room_is_sound}

abbrev pub marker_of : HeapState → ℕ → MarkerState
marker_of w room = record { gray = w.gray; room = room; log = w.log; drained = w.drained; phase = w.phase }

abbrev pub with_marker : MarkerState → HeapState → HeapState
with_marker k w = record w { gray = k.gray; log = k.log; drained = k.drained; phase = k.phase }

-- ---- what the marker asks

live_id_names_object : (w : HeapState) (x : ℕ) → IsLive w x → IsSome (object_of w.regions x)
live_id_names_object w x a = ap is_some a.1

has_slots : (classes : List Class) (kind : ObjKind) (n : ℕ) → HasKind classes kind n → HasSlots classes kind n
has_slots classes (Instance k) n h = (instance_class_is_in_table classes k h.0, h.1)
has_slots classes (Array k) n h = tt
has_slots classes (Prim kind) n h = h.0

pub gray_sound : (w : HeapState) (room : ℕ) → IsSoundHeap w room → IsGraySound w.regions (marker_of w room)
gray_sound w room h = record { distinct = h.legal.gray_distinct; marked = h.legal.gray_marked; ids = h.ids }

pub roots_there : (w : HeapState) (room : ℕ) → IsSoundHeap w room → (x : ℕ) → Contains w.registers x → IsNullOrNames w.regions x
roots_there w room h x c n = live_id_names_object w x (h.legal.registers_live x c n)

pub log_entries_name_objects : (w : HeapState) (room : ℕ) → IsSoundHeap w room → (x : ℕ) → Contains w.log x → IsSome (object_of w.regions x)
log_entries_name_objects w room h x c = live_id_names_object w x (h.legal.log_live x c)

pub slots_there : (w : HeapState) (room : ℕ) → IsSoundHeap w room → (x : ℕ) → Contains w.gray x → IfSome (object_of w.regions x) (λ o. HasSlots w.classes o.kind (length o.words))
slots_there w room h x c = let a = h.legal.gray_live x c in let p = place_of_object_of_id w.regions x a.0 a.1 in
    subst (λ (q : Option Object). IfSome q (λ o. HasSlots w.classes o.kind (length o.words))) (sym a.1) (has_slots w.classes a.0.kind (length a.0.words) (h.legal.objects p.0 a.0 p.2).kind)

pub children_there : (w : HeapState) (room : ℕ) → IsSoundHeap w room → (x : ℕ) → Contains w.gray x → (y : ℕ) → Contains (children_of w.classes w.regions x) y → IsSome (object_of w.regions y)
children_there w room h x c y n = live_id_names_object w y (h.legal.slots_live x y (h.legal.gray_live x c) n)

-- ---- the marker's work is the heap's

pub parts_after_marker_work : (w : HeapState) (room : ℕ) (t : MarkState) (k : MarkerState) (s : RegionPool) → k ≡ after_work t (marker_of w room) → s ≡ record (pool_of w) { regions = t.regions } → with_marker k (with_pool s w) ≡ with_marking t w
parts_after_marker_work w room t k s e f = λ i. with_marker (e i) (with_pool (f i) w)

pub work_made : (w v : HeapState) (room : ℕ) (f : HeapState → MarkState) (k : MarkerState) (s : RegionPool) → w ≡ v → k ≡ after_work (f w) (marker_of w room) → s ≡ record (pool_of w) { regions = (f w).regions }
    → with_marker k (with_pool s w) ≡ with_marking (f v) v
work_made w v room f k s same e g = parts_after_marker_work w room (f w) k s e g ∙ ap (λ (u : HeapState). with_marking (f u) u) same

pub work_held : (w : HeapState) (room : ℕ) (t : MarkState) (k : MarkerState) (s : RegionPool) → IsSoundHeap w room → IsLegal (with_marking t w) → length t.regions ≡ length w.regions
    → k ≡ after_work t (marker_of w room) → s ≡ record (pool_of w) { regions = t.regions } → IsSoundHeap (with_marker k (with_pool s w)) k.room
work_held w room t k s h l n e f = subst (IsSoundHeap (with_marker k (with_pool s w))) (sym (ap (λ (j : MarkerState). j.room) e))
    (subst (λ (u : HeapState). IsSoundHeap u room) (sym (parts_after_marker_work w room t k s e f)) (legal_state_of_room_is_sound (with_marking t w) w room h l n))

unchanged_marker_keeps_heap_sound : (w : HeapState) (room : ℕ) (k : MarkerState) (s : RegionPool) → IsSoundHeap w room → k ≡ marker_of w room → s ≡ pool_of w → IsSoundHeap (with_marker k (with_pool s w)) k.room
unchanged_marker_keeps_heap_sound w room k s h e f = subst (λ (j : MarkerState). IsSoundHeap (with_marker j (with_pool s w)) j.room) (sym e) (subst (λ (p : RegionPool). IsSoundHeap (with_pool p w) room) (sym f) h)

-- a step that is refused, or leads to the state t
pub marker_step_keeps_heap_sound : {A : Type 0} (w : HeapState) (room : ℕ) (refusal : Option Refusal) (t : MarkState) (k : MarkerState) (s : RegionPool) (result : Result A Refusal) → IsSoundHeap w room → (refusal ≡ None → HasClauses (with_marking t w)) → length t.regions ≡ length w.regions
    → IsAnswered refusal false result → OnOk result (k ≡ after_work t (marker_of w room)) → OnOk result (s ≡ record (pool_of w) { regions = t.regions }) → OnErr result ((k ≡ marker_of w room) × (s ≡ pool_of w)) → IsSoundHeap (with_marker k (with_pool s w)) k.room
marker_step_keeps_heap_sound w room refusal t k s (Ok x) h l n a e f u = work_held w room t k s h (clauses_make_heap_legal (with_marking t w) (l a)) n e f
marker_step_keeps_heap_sound w room refusal t k s (Err x) h l n a e f u = unchanged_marker_keeps_heap_sound w room k s h u.0 u.1

pub marker_step_makes_state : {A : Type 0} (w v : HeapState) (room : ℕ) (f : HeapState → MarkState) (k : MarkerState) (s : RegionPool) (result : Result A Refusal) → w ≡ v → OnOk result (k ≡ after_work (f w) (marker_of w room)) → OnOk result (s ≡ record (pool_of w) { regions = (f w).regions })
    → OnOk result (with_marker k (with_pool s w) ≡ with_marking (f v) v)
marker_step_makes_state w v room f k s (Ok x) same e g = work_made w v room f k s same e g
marker_step_makes_state w v room f k s (Err x) same e g = e
