-- Which regions wait to be swept after a step of a cycle.
use Rattle.std.proofs.Common.{◌≡◌, ◌∙◌, ℕ, zero, suc, ◌+◌, Bool, true, false, cond, List, [], ◌∷◌, drop, Option, Some, None, refl, ap, subst, arith}
use Rattle.std.specs.Prelude.{fold, slice_get, slice_set, option_and_then}
use Rattle.std.specs.Option.{option_map_or}
use Rattle.std.specs.List.{filter_map, cons_option, enumerate_from}
use Rattle.heap_class.specs.declared.ObjRef.{ObjRef}
use Rattle.heap_world.specs.Regions.{Region, UsedRegion, Empty, InUse, used_part, used_at, in_used, ref_of, updated, with_mark, with_object, with_region}
use Rattle.heap_world.specs.Pool.{RegionPool, released}
use Rattle.heap_mark.specs.MarkSteps.{MarkState, is_white, pending_regions, shaded, with_mark_of}
use Rattle.heap_mark.proofs.Finishes.{pending_number}
use Rattle.heap_world.specs.Sweep.{is_emptied, swept, swept_region}

-- the numbers of the regions that wait, of which the first has number n
abbrev waiting_numbers : ℕ → List Region → List ℕ
waiting_numbers n regions = filter_map pending_number (enumerate_from n regions)

-- ---- marks

-- f leaves whether a region waits
waiting_numbers_kept : (f : UsedRegion → UsedRegion) → ((u : UsedRegion) → (f u).pending ≡ u.pending) → (r n : ℕ) (regions : List Region) → waiting_numbers n (updated r (in_used f) regions) ≡ waiting_numbers n regions
unfolding updated in_used
waiting_numbers_kept f h r n [] = refl
waiting_numbers_kept f h zero n (Empty ∷ xs) = refl
waiting_numbers_kept f h zero n (InUse u ∷ xs) = ap (λ (b : Bool). cons_option (cond b (Some n) None) (waiting_numbers (n + 1) xs)) (h u)
waiting_numbers_kept f h (suc r) n (Empty ∷ xs) = waiting_numbers_kept f h r (n + 1) xs
waiting_numbers_kept f h (suc r) n (InUse u ∷ xs) = ap (λ (l : List ℕ). cons_option (cond u.pending (Some n) None) l) (waiting_numbers_kept f h r (n + 1) xs)

marked_same : (b : Bool) (at : ObjRef) (regions : List Region) → pending_regions (with_mark b at regions) ≡ pending_regions regions
unfolding pending_regions with_mark with_object with_region
marked_same b at regions = waiting_numbers_kept _ (λ u. refl) at.region 0 regions

mark_same : (b : Bool) (x : ℕ) (regions : List Region) → pending_regions (with_mark_of b x regions) ≡ pending_regions regions
unfolding with_mark_of
mark_same b x regions = go (ref_of regions x)
  where
    go : (o : Option ObjRef) → pending_regions (option_map_or (λ at. with_mark b at regions) o regions) ≡ pending_regions regions
    go None = refl
    go (Some at) = marked_same b at regions

one_shaded : (s : MarkState) (x : ℕ) → pending_regions (shaded s x).regions ≡ pending_regions s.regions
unfolding shaded
one_shaded s x = go (is_white s.regions x)
  where
    go : (b : Bool) → pending_regions (cond b (record s { regions = with_mark_of true x s.regions; gray = x ∷ s.gray }) s).regions ≡ pending_regions s.regions
    go true = mark_same true x s.regions
    go false = refl

-- shading objects leaves which regions wait
pub all_shaded : (xs : List ℕ) (s : MarkState) → pending_regions (fold shaded s xs).regions ≡ pending_regions s.regions
all_shaded [] s = refl
all_shaded (x ∷ xs) s = all_shaded xs (shaded s x) ∙ one_shaded s x

-- ---- the first that waits

abbrev region_waits : Option UsedRegion → Bool
region_waits o = option_map_or (λ (u : UsedRegion). u.pending) o false

abbrev IsFirstAt : ℕ → ℕ → List Region → Type 0
IsFirstAt n r regions = (k : ℕ) × (r ≡ n + k) × (region_waits (option_and_then used_part (slice_get regions k)) ≡ true)

one_on : (n r : ℕ) (x : Region) (xs : List Region) → IsFirstAt (n + 1) r xs → IsFirstAt n r (x ∷ xs)
one_on n r x xs i = (suc i.0, omega (arith, i.1), i.2)

first_at : (n r : ℕ) (regions : List Region) → slice_get (waiting_numbers n regions) 0 ≡ Some r → IsFirstAt n r regions
first_at n r [] e = cc
first_at n r (Empty ∷ xs) e = one_on n r Empty xs (first_at (n + 1) r xs e)
first_at n r (InUse u ∷ xs) e = go u.pending refl (first_at (n + 1) r xs) e
  where
    go : (b : Bool) → u.pending ≡ b → (slice_get (waiting_numbers (n + 1) xs) 0 ≡ Some r → IsFirstAt (n + 1) r xs) → slice_get (cons_option (cond b (Some n) None) (waiting_numbers (n + 1) xs)) 0 ≡ Some r → IsFirstAt n r (InUse u ∷ xs)
    go true h others e = let same : n ≡ r = cc in (0, omega (arith, same), h)
    go false h others e = one_on n r (InUse u) xs (others e)

-- the first region that waits is one that waits
pub first_waits : (regions : List Region) (r : ℕ) → slice_get (pending_regions regions) 0 ≡ Some r → region_waits (used_at regions r) ≡ true
unfolding pending_regions used_at
first_waits regions r e =
    let i = first_at 0 r regions e in
    let same : i.0 ≡ r = omega (arith, i.1) in
    subst (λ (k : ℕ). region_waits (option_and_then used_part (slice_get regions k)) ≡ true) same i.2

-- ---- sweeps

-- f leaves a region that doesn't wait instead of the first that waits
taken_out : (f : Region → Region) → ((n : ℕ) (x : Region) → pending_number (n, f x) ≡ None) → (n r k : ℕ) (regions : List Region) → slice_get (waiting_numbers n regions) 0 ≡ Some r → r ≡ n + k → waiting_numbers n (updated k f regions) ≡ drop 1 (waiting_numbers n regions)
unfolding updated
taken_out f h n r k [] e is = cc
taken_out f h n r zero (Empty ∷ xs) e is = let i = first_at (n + 1) r xs e in absurd (omega (arith, i.1, is))
taken_out f h n r zero (InUse u ∷ xs) e is = go u.pending e
  where
    go : (b : Bool) → slice_get (cons_option (cond b (Some n) None) (waiting_numbers (n + 1) xs)) 0 ≡ Some r
        → cons_option (pending_number (n, f (InUse u))) (waiting_numbers (n + 1) xs) ≡ drop 1 (cons_option (cond b (Some n) None) (waiting_numbers (n + 1) xs))
    go true e = ap (λ (o : Option ℕ). cons_option o (waiting_numbers (n + 1) xs)) (h n (InUse u))
    go false e = let i = first_at (n + 1) r xs e in absurd (omega (arith, i.1, is))
taken_out f h n r (suc k) (Empty ∷ xs) e is = taken_out f h (n + 1) r k xs e (omega (arith, is))
taken_out f h n r (suc k) (InUse u ∷ xs) e is = go u.pending (λ first. taken_out f h (n + 1) r k xs first (omega (arith, is))) e
  where
    go : (b : Bool) → (slice_get (waiting_numbers (n + 1) xs) 0 ≡ Some r → waiting_numbers (n + 1) (updated k f xs) ≡ drop 1 (waiting_numbers (n + 1) xs)) → slice_get (cons_option (cond b (Some n) None) (waiting_numbers (n + 1) xs)) 0 ≡ Some r
        → cons_option (cond b (Some n) None) (waiting_numbers (n + 1) (updated k f xs)) ≡ drop 1 (cons_option (cond b (Some n) None) (waiting_numbers (n + 1) xs))
    go true others e = let same : n ≡ r = cc in absurd (omega (arith, same, is))
    go false others e = others e

in_use_out : (n : ℕ) (x : Region) → pending_number (n, in_used swept_region x) ≡ None
unfolding in_used swept_region
in_use_out n Empty = refl
in_use_out n (InUse u) = refl

set_out : (regions : List Region) (r : ℕ) → slice_set regions r Empty ≡ updated r (λ (x : Region). Empty) regions
unfolding updated
set_out [] r = refl
set_out (x ∷ xs) zero = refl
set_out (x ∷ xs) (suc r) = ap (λ (l : List Region). x ∷ l) (set_out xs r)

-- the first region that waits doesn't after its sweep, and the others do as before
pub first_swept : (s : RegionPool) (r : ℕ) → slice_get (pending_regions s.regions) 0 ≡ Some r → pending_regions (swept r s).regions ≡ drop 1 (pending_regions s.regions)
unfolding pending_regions swept released with_region
first_swept s r e = go (is_emptied r s)
  where
    go : (b : Bool) → waiting_numbers 0 (cond b (released r s) (record s { regions = updated r (in_used swept_region) s.regions })).regions ≡ drop 1 (waiting_numbers 0 s.regions)
    go true = ap (waiting_numbers 0) (set_out s.regions r) ∙ taken_out (λ (x : Region). Empty) (λ n x. refl) 0 r r s.regions e (omega arith)
    go false = taken_out (in_used swept_region) in_use_out 0 r r s.regions e (omega arith)
