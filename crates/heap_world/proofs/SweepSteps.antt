-- The sweeper's steps on what a heap holds, and what undoes each.
use Rattle.std.proofs.Common.{◌≡◌, ℕ, Bool, true, false, List, [], length, Option, None, Result, Ok, Err, sym, ap, subst, ◌∙◌}
use Rattle.std.specs.Prelude.{OnOk, OnErr, if◌then◌else◌}
use Rattle.std.specs.Option.{option_map_or}
use Rattle.heap_class.specs.declared.Refusal.{Refusal}
use Rattle.heap_class.specs.Refusals.{IsAnswered}
use Rattle.heap_region.specs.Regions.{Object, UsedRegion, with_region}
use Rattle.heap_region.specs.Pool.{RegionPool, restored, released}
use Rattle.heap_region.specs.Legal.{IsRegionPool}
use Rattle.heap_region.proofs.UpdatedLists.{length_updated}
use Rattle.heap_region.proofs.References.{length_set}
use Rattle.heap_sweep.specs.declared.Reclaimed.TheVariants.{Swept}
use Rattle.heap_sweep.specs.Sweep.{dead_cells, sweep_refusal, swept_region, is_emptied, dead_at, swept, reclaimed, unswept}
use Rattle.heap_sweep.proofs.SweepUndo.{sweep_that_left_objects_undone}
use Rattle.heap_sweep.proofs.Ready.{pending_used, reclaimed_kept}
use Rattle.heap_world.specs.State.{HeapState, pool_of, with_pool}
use Rattle.heap_world.specs.Legal.{IsLegal}
use Rattle.heap_world.specs.HeapParts.{IsSoundHeap}
use Rattle.heap_world.specs.Events.{after_sweep}
use Rattle.heap_world.proofs.Clauses.{legal_heap_has_clauses, clauses_make_heap_legal}
use Rattle.heap_world.proofs.KeptParts.{legal_state_of_room_is_sound}
use Rattle.heap_world.proofs.Sweep.{sweep_legal}

-- ---- as many regions

sweep_keeps_region_count : (r : ℕ) (s : RegionPool) → length (swept r s).regions ≡ length s.regions
unfolding swept released with_region
sweep_keeps_region_count r s = go (is_emptied r s)
  where
    go : (b : Bool) → length (if b then released r s else record s { regions = with_region r swept_region s.regions }).regions ≡ length s.regions
    go true = length_set s.regions r _
    go false = length_updated r _ s.regions

length_restored : (r : ℕ) (u : UsedRegion) (s : RegionPool) → length (restored r u s).regions ≡ length s.regions
unfolding restored
length_restored r u s = length_set s.regions r _

-- ---- sweep

pub sweep_held : {A : Type 0} (w : HeapState) (room r : ℕ) (grows : Bool) (s : RegionPool) (result : Result A Refusal) → IsSoundHeap w room → IsAnswered (sweep_refusal r (pool_of w)) grows result
    → OnOk result (s ≡ swept r (pool_of w)) → OnErr result (s ≡ pool_of w) → IsSoundHeap (with_pool s w) room
unfolding after_sweep
sweep_held w room r grows s (Ok x) h accepted e same = subst (λ (t : RegionPool). IsSoundHeap (with_pool t w) room) (sym e)
    (legal_state_of_room_is_sound (after_sweep r w) w room h (clauses_make_heap_legal (after_sweep r w) (sweep_legal w r (legal_heap_has_clauses w h.legal) accepted)) (sweep_keeps_region_count r (pool_of w)))
sweep_held w room r grows s (Err x) h answered e same = subst (λ (t : RegionPool). IsSoundHeap (with_pool t w) room) (sym same) h

pub sweep_made : {A : Type 0} (w v : HeapState) (r : ℕ) (s : RegionPool) (result : Result A Refusal) → w ≡ v → OnOk result (s ≡ swept r (pool_of w)) → OnOk result (with_pool s w ≡ after_sweep r v)
unfolding after_sweep
sweep_made w v r s (Ok x) same e = ap (λ (t : RegionPool). with_pool t w) e ∙ ap (after_sweep r) same
sweep_made w v r s (Err x) same e = e

-- ---- a sweep that left objects is undone

-- the heap was swept so
abbrev pub IsSweptHeap : ℕ → List (ℕ × Object) → HeapState → Type 0
IsSweptHeap r dead v = (before : HeapState) × IsLegal before × (sweep_refusal r (pool_of before) ≡ None) × (is_emptied r (pool_of before) ≡ false) × (dead ≡ dead_at r (pool_of before)) × (v ≡ after_sweep r before)

pool_after_the_sweep : (w v : HeapState) (r : ℕ) (dead : List (ℕ × Object)) → w ≡ v → (p : IsSweptHeap r dead v) → pool_of w ≡ swept r (pool_of p.0)
unfolding after_sweep
pool_after_the_sweep w v r dead same p = ap (λ (u : HeapState). pool_of u) (same ∙ p.5)

dead_reclaimed : (v : HeapState) (r : ℕ) (dead : List (ℕ × Object)) → (p : IsSweptHeap r dead v) → Swept r dead ≡ reclaimed r (pool_of p.0)
dead_reclaimed v r dead p = ap (Swept r) p.4 ∙ sym (reclaimed_kept r (pool_of p.0) p.3)

pub regions_before_the_sweep : (w v : HeapState) (r : ℕ) (dead : List (ℕ × Object)) → w ≡ v → IsSweptHeap r dead v
    → (before : RegionPool) × IsRegionPool before × (k : ℕ) × (sweep_refusal k before ≡ None) × (Swept r dead ≡ reclaimed k before) × (pool_of w ≡ swept k before)
regions_before_the_sweep w v r dead same p = (pool_of p.0, p.1.regions, r, p.2, dead_reclaimed v r dead p, pool_after_the_sweep w v r dead same p)

-- wherever such a sweep led from t to s, t is what it came from
abbrev pub IsPutBack : RegionPool → RegionPool → List (ℕ × Object) → ℕ → Type 0
IsPutBack s t dead r = (before : RegionPool) (k : ℕ) → IsRegionPool before → sweep_refusal k before ≡ None → Swept r dead ≡ reclaimed k before → s ≡ swept k before → t ≡ before

dead_put_back_give_pool : (w v : HeapState) (r : ℕ) (dead : List (ℕ × Object)) (s : RegionPool) → w ≡ v → (p : IsSweptHeap r dead v) → IsPutBack (pool_of w) s dead r → s ≡ pool_of p.0
dead_put_back_give_pool w v r dead s same p back = back (pool_of p.0) r p.1.regions p.2 (dead_reclaimed v r dead p) (pool_after_the_sweep w v r dead same p)

-- the heap before the sweep, by its regions and its pool
heap_before_sweep_by_pool : (w v : HeapState) (r : ℕ) (dead : List (ℕ × Object)) → w ≡ v → (p : IsSweptHeap r dead v) → with_pool (pool_of p.0) w ≡ p.0
unfolding after_sweep
heap_before_sweep_by_pool w v r dead same p = ap (with_pool (pool_of p.0)) (same ∙ p.5)

pub unsweep_held : (w v : HeapState) (room r : ℕ) (dead : List (ℕ × Object)) (s : RegionPool) → IsSoundHeap w room → w ≡ v → IsSweptHeap r dead v → IsPutBack (pool_of w) s dead r → IsSoundHeap (with_pool s w) room
unsweep_held w v room r dead s h same p back = subst (λ (t : RegionPool). IsSoundHeap (with_pool t w) room) (sym (dead_put_back_give_pool w v r dead s same p back))
    (legal_state_of_room_is_sound (with_pool (pool_of p.0) w) w room h (subst IsLegal (sym (heap_before_sweep_by_pool w v r dead same p)) p.1)
    (sym (sweep_keeps_region_count r (pool_of p.0)) ∙ sym (ap (λ (t : RegionPool). length t.regions) (pool_after_the_sweep w v r dead same p))))

swept_pool_unswept : (v : HeapState) (r : ℕ) (dead : List (ℕ × Object)) → (p : IsSweptHeap r dead v) → unswept r dead (swept r (pool_of p.0)) ≡ pool_of p.0
unfolding dead_at
swept_pool_unswept v r dead p = let u = pending_used r (pool_of p.0) p.2 in
    ap (λ (ds : List (ℕ × Object)). unswept r ds (swept r (pool_of p.0))) (p.4 ∙ ap (λ (x : Option UsedRegion). option_map_or dead_cells x []) u.1)
    ∙ sweep_that_left_objects_undone r (pool_of p.0) u.0 u.1 u.2 p.3

pub unsweep_made : (w v : HeapState) (r : ℕ) (dead : List (ℕ × Object)) (s : RegionPool) → w ≡ v → IsSweptHeap r dead v → IsPutBack (pool_of w) s dead r → with_pool s w ≡ with_pool (unswept r dead (pool_of v)) v
unsweep_made w v r dead s same p back =
    ap (λ (t : RegionPool). with_pool t w) (dead_put_back_give_pool w v r dead s same p back ∙ sym (swept_pool_unswept v r dead p) ∙ ap (unswept r dead) (sym (pool_after_the_sweep w v r dead same p)))
    ∙ ap (λ (u : HeapState). with_pool (unswept r dead (pool_of u)) u) same

-- a sweep that is undone gives the heap before it
pub unsweep_back : (w v : HeapState) (r : ℕ) (dead : List (ℕ × Object)) (s : RegionPool) → w ≡ v → IsPutBack (pool_of w) s dead r → (p : IsSweptHeap r dead v) → with_pool s w ≡ p.0
unsweep_back w v r dead s same back p = ap (λ (t : RegionPool). with_pool t w) (dead_put_back_give_pool w v r dead s same p back) ∙ heap_before_sweep_by_pool w v r dead same p

-- ---- a sweep that left none is undone

pub unreclaim_held : (w v : HeapState) (room r : ℕ) (u : UsedRegion) (s : RegionPool) → IsSoundHeap w room → w ≡ v → IsLegal (with_pool (restored r u (pool_of v)) v) → s ≡ restored r u (pool_of w) → IsSoundHeap (with_pool s w) room
unreclaim_held w v room r u s h same l e = subst (λ (t : RegionPool). IsSoundHeap (with_pool t w) room) (sym e)
    (legal_state_of_room_is_sound (with_pool (restored r u (pool_of w)) w) w room h (subst (λ (x : HeapState). IsLegal (with_pool (restored r u (pool_of x)) x)) (sym same) l) (length_restored r u (pool_of w)))
