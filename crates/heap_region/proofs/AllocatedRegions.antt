-- What is found after an allocation.
use Rattle.std.proofs.Common.{◌≡◌, ℕ, zero, suc, ◌<◌, Bool, true, false, length, replicate, Option, Some, None, inl, inr, refl, ap, ◌∙◌, arith}
use Rattle.std.specs.Prelude.{◌⊎◌, slice_get, option_and_then}
use Rattle.std.proofs.lemmas.List.{length-replicate}
use Rattle.heap_class.specs.declared.ObjRef.{ObjRef}
use Rattle.heap_region.specs.Regions.{Object, UsedRegion, Empty, used_at, object_at, object_of, cell_count, cell_size_for}
use Rattle.heap_region.specs.Pool.{RegionPool, fresh_region, new_place, taken, restored, allocated}
use Rattle.heap_region.proofs.BlockSizes.{has_cell}
use Rattle.heap_region.proofs.FoundObjects.{named_object_stays_after_taking, restored_there, fresh_region_brings_no_object}
use Rattle.heap_region.proofs.Places.{IsNextFree, IsNextFresh, new_place_is, HeadIsEmpty, PoolIsEmpty}

first_cell : (n : ℕ) → 0 < n → slice_get (replicate {A = Option Object} n None) 0 ≡ Some None
first_cell zero h = absurd (omega arith)
first_cell (suc n) h = refl

-- The cell that a new object takes: `before` is the regions as they are then, with a fresh one where one was needed.
pub record IsNewCell (at : ObjRef) (fresh : Bool) (o : Object) (s : RegionPool) : Type 0 where
  pub before : RegionPool
  pub region : UsedRegion
  pub is_taken : allocated at fresh o s ≡ taken at o before
  pub used : used_at before.regions at.region ≡ Some region
  pub empty : slice_get region.cells at.cell ≡ Some None
  pub size : region.cell_size ≡ cell_size_for (length o.words)
  pub found : (x : ℕ) → object_of before.regions x ≡ object_of s.regions x
  pub cells : (used_at s.regions at.region ≡ Some region) ⊎ (length region.cells ≡ cell_count region.cell_size)

-- each accepted allocation has one
pub new_cell : (at : ObjRef) (fresh : Bool) (o : Object) (s : RegionPool) → new_place (length o.words) s ≡ Some (at, fresh) → HeadIsEmpty s at → PoolIsEmpty s at → IsNewCell at fresh o s
unfolding allocated fresh_region
new_cell at fresh o s place head pool = go fresh (new_place_is (length o.words) s at fresh place)
  where
    size : ℕ
    size = cell_size_for (length o.words)

    go : (b : Bool) → ((b ≡ false) × IsNextFree (length o.words) s.regions at) ⊎ ((b ≡ true) × IsNextFresh (length o.words) s at) → IsNewCell at b o s
    go true (inl e) = cc
    go true (inr e) = record {
      before = restored at.region (fresh_region size) s;
      region = fresh_region size;
      is_taken = refl;
      used = restored_there at.region (fresh_region size) s Empty (pool (length o.words) e.1.0);
      empty = ap (slice_get (replicate {A = Option Object} (cell_count size) None)) e.1.1 ∙ first_cell (cell_count size) (has_cell (length o.words));
      size = refl;
      found = λ x. fresh_region_brings_no_object at.region size x s (pool (length o.words) e.1.0);
      cells = inr (length-replicate (cell_count size) None);
    }
    go false (inl e) = record { before = s; region = e.1.0; is_taken = refl; used = e.1.1; empty = head e.1.0 e.1.1 e.1.3; size = e.1.2; found = λ x. refl; cells = inl e.1.1 }
    go false (inr e) = cc

-- a new object leaves what each id names
pub allocated_keeps : (at : ObjRef) (fresh : Bool) (o : Object) (s : RegionPool) → new_place (length o.words) s ≡ Some (at, fresh) → HeadIsEmpty s at → PoolIsEmpty s at
    → (x : ℕ) (p : Object) → object_of s.regions x ≡ Some p → object_of (allocated at fresh o s).regions x ≡ Some p
unfolding object_at
allocated_keeps at fresh o s place head pool x p found =
    let c : IsNewCell at fresh o s = new_cell at fresh o s place head pool in
    ap (λ (t : RegionPool). object_of t.regions x) c.is_taken
    ∙ named_object_stays_after_taking at o c.before x p (ap (option_and_then (λ (u : UsedRegion). option_and_then (λ (o : Option Object). o) (slice_get u.cells at.cell))) c.used ∙ ap (option_and_then (λ (o : Option Object). o)) c.empty) (c.found x ∙ found)
