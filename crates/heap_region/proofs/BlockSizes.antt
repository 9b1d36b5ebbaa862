-- Sizes of cells: how many cells there are of each, and how many words they take together.
use Rattle.std.proofs.Common.{◌≡◌, ◌⊎◌, ℕ, zero, suc, ◌+◌, ◌*◌, ◌/◌, ◌<◌, ◌≤◌, Bool, true, false, cond, Some, None, get_or, refl, sym, ap, subst, ◌∙◌, inl, inr, arith}
use Rattle.std.specs.Prelude.{Contains, nat_le, unwrap_or}
use Rattle.std.proofs.lemmas.Bool.{cases_lt, cond-true, cond-false, le-leb, lt-leb}
use Rattle.heap_region.specs.Limits.{cell_sizes, heap_words, region_words}
use Rattle.heap_region.specs.Regions.{IsRunSize, block_words, cell_count, cell_size_for, regions_for}
use Rattle.heap_region.specs.Layout.{IsCellSize, IsBlockSize}

pub cell_size_at_most_1024 : (size : ℕ) → IsCellSize size → size ≤ 1024
cell_size_at_most_1024 size (inl e) = omega arith
cell_size_at_most_1024 size (inr (inl e)) = omega arith
cell_size_at_most_1024 size (inr (inr (inl e))) = omega arith
cell_size_at_most_1024 size (inr (inr (inr (inl e)))) = omega arith
cell_size_at_most_1024 size (inr (inr (inr (inr e)))) = omega arith

pub size_positive : (size : ℕ) → IsBlockSize size → 4 ≤ size
size_positive size (inl (inl e)) = omega arith
size_positive size (inl (inr (inl e))) = omega arith
size_positive size (inl (inr (inr (inl e)))) = omega arith
size_positive size (inl (inr (inr (inr (inl e))))) = omega arith
size_positive size (inl (inr (inr (inr (inr e))))) = omega arith
size_positive size (inr r) = omega (arith, r.1, r.3)

pub block_size_at_most_heap : (size : ℕ) → IsBlockSize size → size ≤ heap_words
block_size_at_most_heap size (inl c) = omega (arith, cell_size_at_most_1024 size c)
block_size_at_most_heap size (inr r) = omega (arith, r.2, r.3)

-- cells that a region holds
pub block_of_region : (size : ℕ) → size ≤ 1024 → (block_words size ≡ 1024) × (cell_count size ≡ 1024 / size)
unfolding block_words cell_count
block_of_region size le = (cond-true (nat_le size 1024) 1024 size (le-leb size 1024 le), cond-true (nat_le size 1024) (1024 / size) 1 (le-leb size 1024 le))

-- a cell that takes several regions
pub block_of_run : (size : ℕ) → 1024 < size → (block_words size ≡ size) × (cell_count size ≡ 1)
unfolding block_words cell_count
block_of_run size lt = (cond-false (nat_le size 1024) 1024 size (lt-leb size 1024 lt), cond-false (nat_le size 1024) (1024 / size) 1 (lt-leb size 1024 lt))

pub run_size_is_larger_than_region : (size : ℕ) → IsRunSize size → 1024 < size
run_size_is_larger_than_region size r = omega (arith, r.1, r.3)

-- the number of cells that have all words of a region
cells_of_region : (n size : ℕ) → IsCellSize size → n * size ≡ 1024 → n ≡ 1024 / size
cells_of_region n size (inl e) h = rw e (let g : n * 4 ≡ 1024 = ap (λ x. n * x) (sym e) ∙ h in omega arith)
cells_of_region n size (inr (inl e)) h = rw e (let g : n * 16 ≡ 1024 = ap (λ x. n * x) (sym e) ∙ h in omega arith)
cells_of_region n size (inr (inr (inl e))) h = rw e (let g : n * 64 ≡ 1024 = ap (λ x. n * x) (sym e) ∙ h in omega arith)
cells_of_region n size (inr (inr (inr (inl e)))) h = rw e (let g : n * 256 ≡ 1024 = ap (λ x. n * x) (sym e) ∙ h in omega arith)
cells_of_region n size (inr (inr (inr (inr e)))) h = rw e (let g : n * 1024 ≡ 1024 = ap (λ x. n * x) (sym e) ∙ h in omega arith)

one_cell_of_its_words : (n size : ℕ) → 0 < size → n * size ≡ size → n ≡ 1
one_cell_of_its_words zero size some h = absurd (omega (arith, some, h))
one_cell_of_its_words (suc zero) size some h = refl
one_cell_of_its_words (suc (suc n)) size some h = absurd (omega (arith, some, h))

pub count_cells : (n size : ℕ) → IsBlockSize size → n * size ≡ block_words size → n ≡ cell_count size
count_cells n size (inl c) h =
    let b = block_of_region size (cell_size_at_most_1024 size c) in
    cells_of_region n size c (h ∙ b.0) ∙ sym b.1
count_cells n size (inr r) h =
    let b = block_of_run size (run_size_is_larger_than_region size r) in
    one_cell_of_its_words n size (omega (arith, r.1, r.3)) (h ∙ b.0) ∙ sym b.1

region_cells_fill : (size : ℕ) → IsCellSize size → (1024 / size * size ≡ 1024) × (0 < 1024 / size) × (1024 / size ≤ 256)
region_cells_fill size (inl e) = rw e (refl, omega arith, omega arith)
region_cells_fill size (inr (inl e)) = rw e (refl, omega arith, omega arith)
region_cells_fill size (inr (inr (inl e))) = rw e (refl, omega arith, omega arith)
region_cells_fill size (inr (inr (inr (inl e)))) = rw e (refl, omega arith, omega arith)
region_cells_fill size (inr (inr (inr (inr e)))) = rw e (refl, omega arith, omega arith)

-- as many cells as there are take all words, and are 1 to 256
pub cells_fill : (size : ℕ) → IsBlockSize size → (cell_count size * size ≡ block_words size) × (0 < cell_count size) × (cell_count size ≤ 256)
cells_fill size (inl c) =
    let b = block_of_region size (cell_size_at_most_1024 size c) in
    rw (b.0, b.1) (region_cells_fill size c)
cells_fill size (inr r) =
    let b = block_of_run size (run_size_is_larger_than_region size r) in
    rw (b.0, b.1) (omega arith, omega arith, omega arith)

pub block_words_at_most_heap : (size : ℕ) → IsBlockSize size → block_words size ≤ heap_words
block_words_at_most_heap size (inl c) = omega (arith, (block_of_region size (cell_size_at_most_1024 size c)).0)
block_words_at_most_heap size (inr r) = omega (arith, (block_of_run size (run_size_is_larger_than_region size r)).0, block_size_at_most_heap size (inr r))

pub few_cells : (size n : ℕ) → IsBlockSize size → n * size ≡ block_words size → n ≤ 256
few_cells size n sized covers = omega (arith, count_cells n size sized covers, (cells_fill size sized).2)

cell_size_is_listed : (n : ℕ) → IsCellSize n → Contains cell_sizes n
cell_size_is_listed n (inl e) = rw e (0, omega arith, refl)
cell_size_is_listed n (inr (inl e)) = rw e (1, omega arith, refl)
cell_size_is_listed n (inr (inr (inl e))) = rw e (2, omega arith, refl)
cell_size_is_listed n (inr (inr (inr (inl e)))) = rw e (3, omega arith, refl)
cell_size_is_listed n (inr (inr (inr (inr e)))) = rw e (4, omega arith, refl)

pub block_size_is_listed : (n : ℕ) → IsBlockSize n → Contains cell_sizes n ⊎ IsRunSize n
block_size_is_listed n (inl c) = inl (cell_size_is_listed n c)
block_size_is_listed n (inr r) = inr r

listed_size_is_cell_size : (n : ℕ) → Contains cell_sizes n → IsCellSize n
listed_size_is_cell_size n c = subst IsCellSize c.2 (at_index c.0 c.1)
  where
    at_index : (k : ℕ) → k < 5 → IsCellSize (get_or cell_sizes k n)
    at_index zero h = inl refl
    at_index (suc zero) h = inr (inl refl)
    at_index (suc (suc zero)) h = inr (inr (inl refl))
    at_index (suc (suc (suc zero))) h = inr (inr (inr (inl refl)))
    at_index (suc (suc (suc (suc zero)))) h = inr (inr (inr (inr refl)))
    at_index (suc (suc (suc (suc (suc k))))) h = absurd (omega (arith, h))

-- a listed size has at least four words, and 1 to 256 cells
pub listed_size_bounds : (n : ℕ) → Contains cell_sizes n ⊎ IsRunSize n → (4 ≤ n) × (cell_count n ≤ 256)
listed_size_bounds n listed = go listed
  where
    of_block : IsBlockSize n → (4 ≤ n) × (cell_count n ≤ 256)
    of_block b = (size_positive n b, (cells_fill n b).2)

    go : Contains cell_sizes n ⊎ IsRunSize n → (4 ≤ n) × (cell_count n ≤ 256)
    go (inl c) = of_block (inl (listed_size_is_cell_size n c))
    go (inr r) = of_block (inr r)

-- ---- the size for an object

-- the words that whole regions hold
pub regions_hold_words : (n : ℕ) → (n ≤ 1024 * regions_for n) × (1024 * regions_for n ≤ n + 1023)
unfolding regions_for
regions_hold_words n = (omega arith, omega arith)

-- the regions of a large object
pub regions_for_large : (n : ℕ) → 1024 < n → n ≤ heap_words → IsRunSize (region_words * regions_for n)
regions_for_large n lt few =
    let h = regions_hold_words n in
    (regions_for n, omega (arith, h.0, h.1, lt), omega (arith, h.0, h.1, few), refl)

-- cells of a region's size or less take one region
pub one_region_for_small : (n : ℕ) → 4 ≤ n → n ≤ 1024 → regions_for n ≡ 1
unfolding regions_for
one_region_for_small n least le = omega (arith, least, le)

pub regions_for_small_at_most_one : (n : ℕ) → n ≤ 1024 → regions_for n ≤ 1
unfolding regions_for
regions_for_small_at_most_one n le = omega (arith, le)

pub regions_for_some : (n : ℕ) → 4 ≤ n → 1 ≤ regions_for n
unfolding regions_for
regions_for_some n least = omega (arith, least)

-- whole regions take themselves
pub regions_for_whole_regions : (k : ℕ) → regions_for (1024 * k) ≡ k
unfolding regions_for
regions_for_whole_regions k = omega arith

-- the least size for a large object
pub size_for_large : (n : ℕ) → 1024 < n → cell_size_for n ≡ 1024 * regions_for n
unfolding cell_size_for
size_for_large n lt = go (nat_le n 4) (nat_le n 16) (nat_le n 64) (nat_le n 256) (nat_le n 1024) refl refl refl refl refl
  where
    go : (a b c d e : Bool) → nat_le n 4 ≡ a → nat_le n 16 ≡ b → nat_le n 64 ≡ c → nat_le n 256 ≡ d → nat_le n 1024 ≡ e
        → unwrap_or (cond a (Some 4) (cond b (Some 16) (cond c (Some 64) (cond d (Some 256) (cond e (Some 1024) None))))) (1024 * regions_for n) ≡ 1024 * regions_for n
    go true b c d e p q r s t = let le : n ≤ 4 = grind (arith, p) in absurd (omega (arith, le, lt))
    go false true c d e p q r s t = let le : n ≤ 16 = grind (arith, q) in absurd (omega (arith, le, lt))
    go false false true d e p q r s t = let le : n ≤ 64 = grind (arith, r) in absurd (omega (arith, le, lt))
    go false false false true e p q r s t = let le : n ≤ 256 = grind (arith, s) in absurd (omega (arith, le, lt))
    go false false false false true p q r s t = let le : n ≤ 1024 = grind (arith, t) in absurd (omega (arith, le, lt))
    go false false false false false p q r s t = refl

-- the least size for any other is one of the five, and holds it
pub size_for_small : (n : ℕ) → n ≤ 1024 → IsCellSize (cell_size_for n) × (n ≤ cell_size_for n)
unfolding cell_size_for
size_for_small n few = go (nat_le n 4) (nat_le n 16) (nat_le n 64) (nat_le n 256) (nat_le n 1024) refl refl refl refl refl
  where
    Held : ℕ → Type 0
    Held size = IsCellSize size × (n ≤ size)

    go : (a b c d e : Bool) → nat_le n 4 ≡ a → nat_le n 16 ≡ b → nat_le n 64 ≡ c → nat_le n 256 ≡ d → nat_le n 1024 ≡ e
        → Held (unwrap_or (cond a (Some 4) (cond b (Some 16) (cond c (Some 64) (cond d (Some 256) (cond e (Some 1024) None))))) (1024 * regions_for n))
    go true b c d e p q r s t = (inl refl, grind (arith, p))
    go false true c d e p q r s t = (inr (inl refl), grind (arith, q))
    go false false true d e p q r s t = (inr (inr (inl refl)), grind (arith, r))
    go false false false true e p q r s t = (inr (inr (inr (inl refl))), grind (arith, s))
    go false false false false true p q r s t = (inr (inr (inr (inr refl))), few)
    go false false false false false p q r s t = let lt : 1024 < n = grind (arith, t) in absurd (omega (arith, few, lt))

-- n slots are more than a region has words, or not
pub small_or_large : (n : ℕ) → (n ≤ 1024) ⊎ (1024 < n)
small_or_large n = elim (cases_lt 1024 n) [ inl lt ↦ inr lt | inr le ↦ inl le ]

pub cell_size_holds_words : (n : ℕ) → n ≤ cell_size_for n
cell_size_holds_words n =
    elim (small_or_large n) [
      | inl le ↦ (size_for_small n le).1
      | inr lt ↦ omega (arith, size_for_large n lt, (regions_hold_words n).0)
    ]

pub sized_for : (n : ℕ) → n ≤ heap_words → IsBlockSize (cell_size_for n)
sized_for n few =
    elim (small_or_large n) [
      | inl le ↦ inl (size_for_small n le).0
      | inr lt ↦ inr (rw (size_for_large n lt) (regions_for_large n lt few))
    ]

-- the regions that an object's cell takes
pub regions_for_size : (n : ℕ) → 1024 < n → regions_for (cell_size_for n) ≡ regions_for n
regions_for_size n lt = ap regions_for (size_for_large n lt) ∙ regions_for_whole_regions (regions_for n)

-- a region has a cell of each size
pub has_cell : (n : ℕ) → 0 < cell_count (cell_size_for n)
has_cell n =
    elim (small_or_large n) [
      | inl le ↦ (cells_fill (cell_size_for n) (inl (size_for_small n le).0)).1
      | inr lt ↦ (let h = regions_hold_words n in let large : 1024 < cell_size_for n = omega (arith, size_for_large n lt, h.0, lt) in omega (arith, (block_of_run (cell_size_for n) large).1))
    ]
