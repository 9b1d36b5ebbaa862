-- A heap is legal as it begins.
use Rattle.std.proofs.Common.{◌≡◌, ℕ, zero, suc, ◌+◌, ◌-◌, ◌*◌, ◌≤◌, ◌<◌, false, List, [], replicate, refl, sym, ap, subst, ◌∙◌, Option, Some, None, arith}
use Rattle.std.specs.Prelude.{slice_get, slice_index_or, option_and_then, nat_eq}
use Rattle.std.specs.List.{range_with_len, IsDistinct, AllByRecursion}
use Rattle.heap_class.specs.declared.ObjRef.{ObjRef}
use Rattle.heap_region.specs.Regions.{Object, UsedRegion, Empty, used_part, used_at, object_at}
use Rattle.heap_class.specs.Classes.{Class}
use Rattle.heap_region.specs.Pool.{RegionPool, opening_pool}
use Rattle.heap_mark.specs.Marker.{MarkerState, idle_marker}
use Rattle.heap_world.specs.State.{HeapState, opening_state}
use Rattle.heap_world.specs.declared.Limits.{Limits}
use Rattle.heap_world.specs.Limits.{AreHeapSettings, AreLimits}
use Rattle.heap_world.specs.HeapParts.{heap_of_parts, IsSoundHeap}
use Rattle.heap_region.specs.Regions.{object_of, ref_of}
use Rattle.heap_region.proofs.Areas.{area_of_empty_regions}
use Rattle.heap_region.proofs.Spares.{NamesSpare}
use Rattle.heap_region.proofs.Tables.{no_blank_region_in_use}
use Rattle.heap_region.specs.Limits.{region_limit}
use Rattle.heap_world.specs.Limits.{mutator_limit}
use Rattle.heap_world.specs.Legal.{IsLegal}
use Rattle.std.proofs.lemmas.List.FromFn.{length-range_with_len}
use Rattle.std.proofs.lemmas.List.{length-replicate}
use Rattle.heap_region.proofs.References.{empty_list_has_no_member}

no_opening_region_is_used : (n r : ℕ) → option_and_then used_part (slice_get (replicate n Empty) r) ≡ None
no_opening_region_is_used zero r = refl
no_opening_region_is_used (suc n) zero = refl
no_opening_region_is_used (suc n) (suc r) = no_opening_region_is_used n r

-- no object is there
no_object_in_opening_regions : (n : ℕ) (at : ObjRef) (o : Object) → object_at (replicate n Empty) at ≡ Some o → ⊥
unfolding object_at used_at
no_object_in_opening_regions n at o h = let e : option_and_then used_part (slice_get (replicate n Empty) at.region) ≡ None = no_opening_region_is_used n at.region in cc

no_used_region_at_opening : (n r : ℕ) (u : UsedRegion) → used_at (replicate n Empty) r ≡ Some u → ⊥
unfolding used_at
no_used_region_at_opening n r u h = let e : option_and_then used_part (slice_get (replicate n Empty) r) ≡ None = no_opening_region_is_used n r in cc

all_zero : (n k d : ℕ) → k < n → slice_index_or (replicate n 0) k d ≡ 0
all_zero zero k d h = absurd (omega arith)
all_zero (suc n) zero d h = refl
all_zero (suc n) (suc k) d h = all_zero n k d (omega arith)

-- what a range has, and nothing twice
pub range_index : (a n k d : ℕ) → k < n → slice_index_or (range_with_len a n) k d ≡ a + k
range_index a zero k d h = absurd (omega arith)
range_index a (suc n) zero d h = omega arith
range_index a (suc n) (suc k) d h = range_index (a + 1) n k d (omega arith) ∙ omega arith

opening_region_is_empty : (n r : ℕ) → r < n → slice_get (replicate n Empty) r ≡ Some Empty
opening_region_is_empty zero r h = absurd (omega arith)
opening_region_is_empty (suc n) zero h = refl
opening_region_is_empty (suc n) (suc r) h = opening_region_is_empty n r (omega arith)

number_below_range_is_apart : (a b n : ℕ) → a < b → AllByRecursion (λ y. nat_eq a y ≡ false) (range_with_len b n)
number_below_range_is_apart a b zero h = tt
number_below_range_is_apart a b (suc n) h = (grind arith, number_below_range_is_apart a (b + 1) n (omega arith))

pub range_distinct : (a n : ℕ) → IsDistinct nat_eq (range_with_len a n)
unfolding IsDistinct
range_distinct a zero = tt
range_distinct a (suc n) = (number_below_range_is_apart a (a + 1) n (omega arith), range_distinct (a + 1) n)

pool_names : (n start : ℕ) → start ≤ n → NamesSpare start (range_with_len 0 start) (replicate n Empty)
pool_names n start le = record {
  distinct = range_distinct 0 start;
  each = λ r. (
    λ c. (
        let lt : r < start = omega (arith, c.1, length-range_with_len 0 start, range_index 0 start c.0 r (omega (arith, c.1, length-range_with_len 0 start)), c.2) in
        (lt, opening_region_is_empty n r (omega (arith, lt, le)))),
    λ e. (r, omega (arith, e.0, length-range_with_len 0 start), range_index 0 start r r e.0 ∙ omega arith),
  );
}

no_id_names_at_opening : (n x : ℕ) (o : Object) → object_of (replicate n Empty) x ≡ Some o → ⊥
unfolding object_of
no_id_names_at_opening n x o = go (ref_of (replicate n Empty) x)
  where
    go : (r : Option ObjRef) → option_and_then (object_at (replicate n Empty)) r ≡ Some o → ⊥
    go None h = cc
    go (Some at) h = no_object_in_opening_regions n at o h

-- with as many regions and mutators as there may be
pub begins_legal : (limits : Limits) (n m : ℕ) → AreLimits limits → 1 ≤ n → n ≤ region_limit → 1 ≤ m → m ≤ mutator_limit → IsLegal (opening_state limits n m)
unfolding opening_state IsDistinct
begins_legal limits n m few n1 n_few m1 m_few = record {
  sized = record { limits = few; regions = (omega (arith, length-replicate n Empty), omega (arith, length-replicate n Empty)); area = ap (λ k. k - limits.area) (sym (length-replicate n Empty)); mutators = (m, m1, m_few, length-replicate {A = ℕ} (8 * m) 0) };
  classes = tt;
  regions = record { tables = λ r u h. absurd (no_used_region_at_opening n r u h); pool = pool_names n (n - limits.area) (omega arith); area = area_of_empty_regions n (n - limits.area) (omega arith) (no_blank_region_in_use n) };
  objects = λ at o h. absurd (no_object_in_opening_regions n at o h);
  registers_live = λ x c other. absurd (other (sym c.2 ∙ all_zero (8 * m) c.0 x (omega (arith, c.1, length-replicate {A = ℕ} (8 * m) 0))));
  slots_live = λ x y live names. absurd (no_id_names_at_opening n x live.0 live.1);
  gray_live = λ x c. absurd (empty_list_has_no_member x c);
  log_live = λ x c. absurd (empty_list_has_no_member x c);
  gray_distinct = tt;
  gray_marked = λ x c. absurd (empty_list_has_no_member x c);
  marked_live = λ at o h. absurd (no_object_in_opening_regions n at o h);
  drained_within = omega arith;
  swept_live = λ at o h. absurd (no_object_in_opening_regions n at o h);
  idle = λ e. record { gray = refl; log = refl; drained = refl; unmarked = λ at o h. absurd (no_object_in_opening_regions n at o h) };
  tricolour = λ e. cc;
}

-- the fields of a heap as it begins
pub parts_of_opening_state : (limits limits' : Limits) (n m k room : ℕ) (classes : List Class) (pool : RegionPool) (registers : List ℕ) (marker : MarkerState) → limits ≡ limits' → classes ≡ [] → pool ≡ opening_pool n limits'.area → registers ≡ replicate k 0 → k ≡ 8 * m → marker ≡ idle_marker room
    → heap_of_parts limits classes pool registers marker ≡ opening_state limits' n m
unfolding opening_state opening_pool
parts_of_opening_state limits limits' n m k room classes pool registers marker z a b c d e = λ i. heap_of_parts (z i) (a i) (b i) ((c ∙ ap (λ j. replicate j 0) d) i) (e i)

pub opening_state_is_sound : (limits : Limits) (n m keep room : ℕ) (w : HeapState) → w ≡ opening_state limits n m → AreLimits limits → AreHeapSettings n m keep → room ≡ 256 * n → IsSoundHeap w room
unfolding opening_state
opening_state_is_sound limits n m keep room w e few s r = subst (λ (v : HeapState). IsSoundHeap v room) (sym e)
    (record { legal = begins_legal limits n m few s.regions_within.0 s.regions_within.1 s.mutators_within.0 s.mutators_within.1; ids = omega (arith, r, length-replicate n Empty) })
