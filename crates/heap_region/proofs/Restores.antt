-- Regions that come back into use, and what a call must know of them.
use Rattle.std.proofs.Common.{◌≡◌, ℕ, ◌<◌, ◌∷◌, Some, ap, inl, inr, arith}
use Rattle.std.specs.Prelude.{slice_get, if◌then◌else◌}
use Rattle.std.proofs.lemmas.Bool.{cases_lt, lt-ltb}
use Rattle.heap_region.specs.Regions.{UsedRegion, Empty, used_at, cell_size_for, regions_for}
use Rattle.heap_region.specs.Pool.{RegionPool, released}
use Rattle.heap_region.specs.Legal.{IsRegionPool, MayRestore}
use Rattle.heap_region.proofs.Areas.{below_area_is_small, first_run_lies_in_area, run_where_object_left}
use Rattle.heap_region.proofs.BlockSizes.{cell_size_at_most_1024, regions_for_size, regions_for_some, regions_hold_words, size_for_large, size_for_small}
use Rattle.heap_region.proofs.Good.{pool_head_is_empty, run_begins_with_empty_region}
use Rattle.heap_region.proofs.Places.{IsSpare}

-- a region that may come into use is empty
pub restorable_is_empty : (s : RegionPool) (r : ℕ) (u : UsedRegion) → IsRegionPool s → MayRestore s r u → slice_get s.regions r ≡ Some Empty
restorable_is_empty s r u legal may =
    elim (cases_lt r s.area_start) [
      | inl lt ↦ (pool_head_is_empty s r legal (may.head lt)).1
      | inr le ↦ run_begins_with_empty_region s r (regions_for u.cell_size) legal le (regions_for_some u.cell_size (omega (arith, may.large le))) (may.run le)
    ]

-- a region that became empty may come back
pub released_may_be_restored : (s : RegionPool) (r : ℕ) (u : UsedRegion) → IsRegionPool s → used_at s.regions r ≡ Some u → MayRestore (released r s) r u
unfolding released
released_may_be_restored s r u legal used =
    record {
      head = λ lt. ap (λ b. slice_get (if b then r ∷ s.pool else s.pool) 0) (lt-ltb r s.area_start lt);
      small = λ lt. below_area_is_small s.regions s.area_start r u legal.area used lt;
      large = λ le. (legal.area.large r u used).0 le;
      run = λ le. run_where_object_left s.regions s.area_start r u legal.area used;
    }

-- a region for a new object may come into use
pub spare_may_be_restored : (n : ℕ) (s : RegionPool) (r : ℕ) (u : UsedRegion) → IsRegionPool s → IsSpare n s r → u.cell_size ≡ cell_size_for n → MayRestore s r u
spare_may_be_restored n s r u legal (inl h) size =
    let lt : r < s.area_start = (pool_head_is_empty s r legal h.1).0 in
    record {
      head = λ _. h.1;
      small = λ _. omega (arith, size, cell_size_at_most_1024 (cell_size_for n) (size_for_small n h.0).0);
      large = λ le. absurd (omega (arith, lt, le));
      run = λ le. absurd (omega (arith, lt, le));
    }
spare_may_be_restored n s r u legal (inr h) size =
    let f = first_run_lies_in_area (regions_for n) s r h.1 in
    record {
      head = λ lt. absurd (omega (arith, lt, f.0));
      small = λ lt. absurd (omega (arith, lt, f.0));
      large = λ _. omega (arith, size, size_for_large n h.0, (regions_hold_words n).0, h.0);
      run = λ _. rw (size, regions_for_size n h.0) f.1;
    }
