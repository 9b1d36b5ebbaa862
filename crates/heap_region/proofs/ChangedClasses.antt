-- The lowest region of each class after one region changed its class.
use Rattle.std.proofs.Common.{◌≡◌, ◌≢◌, ℕ, ◌<◌, ◌≤◌, List, length, get_or, set, replicate, sym, ap, subst, ◌∙◌, inl, inr, arith, length-set}
use Rattle.std.proofs.lemmas.Bool.{cases_eq, cases_lt}
use Rattle.std.proofs.lemmas.List.{get_or-set_same, get_or-set_other, get_or-replicate, length-replicate}
use Rattle.heap_region.specs.Limits.{region_limit}
use Rattle.heap_region.specs.Table.{IsLowest, AreLowest}

-- n is the lowest region of class k, or past the last, where one region isn't looked at
pub record IsAlmost (t : List ℕ) (region k n : ℕ) : Type 0 where
  pub high : n ≤ length t
  pub before : (j : ℕ) → j < n → j ≢ region → get_or t j 0 ≢ k
  pub there : n < length t → get_or t n 0 ≡ k

-- a class whose lowest region isn't the one that changed
unchanged_lowest_region_is_almost : (t : List ℕ) (region class k n : ℕ) → IsLowest t k 0 n → n ≢ region → IsAlmost (set t region class) region k n
unchanged_lowest_region_is_almost t region class k n low ne = record {
  high = omega (arith, low.high, length-set t region class);
  before = λ j lt other e. low.before j (omega arith) lt (sym (get_or-set_other t region j class 0 other) ∙ e);
  there = λ lt. get_or-set_other t region n class 0 ne ∙ low.there (omega (arith, lt, length-set t region class));
}

-- the class that the region had, where it was the lowest, and the next was searched
next_lowest_region_is_almost : (t : List ℕ) (region class k next : ℕ) → IsLowest t k 0 region → IsLowest (set t region class) k region next → IsAlmost (set t region class) region k next
next_lowest_region_is_almost t region class k next low found = record {
  high = found.high;
  before = λ j lt other e. elim (cases_lt j region) [
    | inl below ↦ low.before j (omega arith) below (sym (get_or-set_other t region j class 0 other) ∙ e)
    | inr past ↦ found.before j past lt e
  ];
  there = found.there;
}

-- the region isn't of the class
lowest_when_region_of_other_class : (t : List ℕ) (region k n : ℕ) → IsAlmost t region k n → get_or t region 0 ≢ k → IsLowest t k 0 n
lowest_when_region_of_other_class t region k n almost ne = record {
  low = omega arith;
  high = almost.high;
  before = λ j _ lt e. elim (cases_eq j region) [
    | inl same ↦ ne (ap (λ i. get_or t i 0) (sym same) ∙ e)
    | inr other ↦ almost.before j lt other e
  ];
  there = almost.there;
}

-- the region is of the class, and is lower
changed_region_is_new_lowest : (t : List ℕ) (region k n : ℕ) → IsAlmost t region k n → region < n → get_or t region 0 ≡ k → IsLowest t k 0 region
changed_region_is_new_lowest t region k n almost lt is = record {
  low = omega arith;
  high = omega (arith, lt, almost.high);
  before = λ j _ l e. almost.before j (omega (arith, l, lt)) (λ same. absurd (omega (arith, same, l))) e;
  there = λ _. is;
}

-- the region isn't lower
lowest_stays_below_changed_region : (t : List ℕ) (region k n : ℕ) → IsAlmost t region k n → n ≤ region → IsLowest t k 0 n
lowest_stays_below_changed_region t region k n almost le = record {
  low = omega arith;
  high = almost.high;
  before = λ j _ l e. almost.before j l (λ same. absurd (omega (arith, same, l, le))) e;
  there = almost.there;
}

-- ---- all classes but 0

-- each class has its lowest region, where one region isn't looked at
abbrev pub AreAlmost : List ℕ → ℕ → List ℕ → Type 0
AreAlmost t region lowest = (k : ℕ) → 1 ≤ k → k < 256 → IsAlmost t region k (get_or lowest k 0)

-- a class whose lowest region changed is the one that the region had
class_whose_lowest_region_changed : (t lowest : List ℕ) (region was k : ℕ) → IsLowest t k 0 (get_or lowest k 0) → region < length t → get_or t region 0 ≡ was → get_or lowest k 0 ≡ region → k ≡ was
class_whose_lowest_region_changed t lowest region was k low within is e =
    sym (low.there (omega (arith, e, within))) ∙ (ap (λ i. get_or t i 0) e ∙ is)

pub lowest_regions_kept_almost : (t lowest : List ℕ) (region was class : ℕ) → AreLowest t lowest → region < length t → get_or t region 0 ≡ was → get_or lowest was 0 ≢ region → AreAlmost (set t region class) region lowest
lowest_regions_kept_almost t lowest region was class low within is ne k some lt =
    unchanged_lowest_region_is_almost t region class k (get_or lowest k 0) (low k some lt)
    (λ e. ne (ap (λ i. get_or lowest i 0) (sym (class_whose_lowest_region_changed t lowest region was k (low k some lt) within is e)) ∙ e))

pub lowest_regions_almost_after_search : (t lowest : List ℕ) (region was class next : ℕ) → AreLowest t lowest → region < length t → get_or t region 0 ≡ was → was < 256 → length lowest ≡ 256 → get_or lowest was 0 ≡ region → (1 ≤ was → IsLowest (set t region class) was region next) → AreAlmost (set t region class) region (set lowest was next)
lowest_regions_almost_after_search t lowest region was class next low within is few sized at found k some lt =
    elim (cases_eq k was) [
      | inl same ↦ (let more : 1 ≤ was = omega (arith, same, some) in rw (same, get_or-set_same lowest was next 0 (omega (arith, few, sized))) (next_lowest_region_is_almost t region class was next (subst (λ n. IsLowest t was 0 n) at (low was more few)) (found more)))
      | inr other ↦ rw (get_or-set_other lowest was k next 0 other) (unchanged_lowest_region_is_almost t region class k (get_or lowest k 0) (low k some lt) (λ e. other (class_whose_lowest_region_changed t lowest region was k (low k some lt) within is e)))
    ]

pub changed_region_becomes_lowest : (t lowest : List ℕ) (region class : ℕ) → AreAlmost (set t region class) region lowest → region < length t → class < 256 → length lowest ≡ 256 → region < get_or lowest class 0 → AreLowest (set t region class) (set lowest class region)
changed_region_becomes_lowest t lowest region class almost within few sized under k some lt =
    let here = get_or-set_same t region class 0 within in
    elim (cases_eq k class) [
      | inl same ↦ (let more : 1 ≤ class = omega (arith, same, some) in rw (same, get_or-set_same lowest class region 0 (omega (arith, few, sized))) (changed_region_is_new_lowest (set t region class) region class (get_or lowest class 0) (almost class more few) under here))
      | inr other ↦ rw (get_or-set_other lowest class k region 0 other) (lowest_when_region_of_other_class (set t region class) region k (get_or lowest k 0) (almost k some lt) (λ e. other (sym e ∙ here)))
    ]

pub lowest_regions_stay_after_change : (t lowest : List ℕ) (region class : ℕ) → AreAlmost (set t region class) region lowest → region < length t → get_or lowest class 0 ≤ region → AreLowest (set t region class) lowest
lowest_regions_stay_after_change t lowest region class almost within over k some lt =
    let here = get_or-set_same t region class 0 within in
    elim (cases_eq k class) [
      | inl same ↦ lowest_stays_below_changed_region (set t region class) region k (get_or lowest k 0) (almost k some lt) (rw same over)
      | inr other ↦ lowest_when_region_of_other_class (set t region class) region k (get_or lowest k 0) (almost k some lt) (λ e. other (sym e ∙ here))
    ]

-- ---- a new table

pub length_of_zero_classes : (count : ℕ) → length (replicate {A = ℕ} count 0) ≡ count
length_of_zero_classes count = length-replicate {A = ℕ} count 0

zero_class_at_each_place : (count j : ℕ) → j < count → get_or (replicate {A = ℕ} count 0) j 0 ≡ 0
zero_class_at_each_place count j lt = get_or-replicate {A = ℕ} count j 0 0 lt

-- class 0 has each region, the others have none
pub opened_table_has_lowest_regions : (count : ℕ) → AreLowest (replicate count 0) (replicate 256 count)
opened_table_has_lowest_regions count k some lt =
    rw (get_or-replicate 256 k count 0 lt) (record {
      low = omega arith;
      high = omega (arith, length_of_zero_classes count);
      before = λ j _ l e. absurd (omega (arith, some, sym e ∙ zero_class_at_each_place count j l));
      there = λ l. absurd (omega (arith, l, length_of_zero_classes count));
    })

pub class_table_stays_short : (t : List ℕ) (region class : ℕ) → length t ≤ region_limit → length (set t region class) ≤ region_limit
class_table_stays_short t region class few = omega (arith, few, length-set t region class)
