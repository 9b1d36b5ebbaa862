-- The area: the runs of regions that no object takes, and how objects come and go in it.
use Rattle.std.proofs.Common.{◌≡◌, ◌≢◌, ◌⊎◌, ◌↔◌, ℕ, zero, suc, ◌+◌, ◌-◌, ◌<◌, ◌≤◌, Bool, true, false, not, cond, ◌&&◌, List, length, [], ◌∷◌, set, replicate, Option, Some, None, refl, sym, ap, ◌∙◌, inl, inr, arith, length-set}
use Rattle.std.specs.Prelude.{find, nat_le, nat_lt, slice_get, option_and_then}
use Rattle.std.specs.List.{enumerate_from, list_any, range_with_len}
use Rattle.std.proofs.lemmas.Bool.{and_from, and_parts, both_ways, cases_Bool, cases_eq, cases_lt, le-leb, le-ltb, lt-leb, lt-ltb, or_from, or_left, or_parts, or_right}
use Rattle.std.proofs.lemmas.List.{length-replicate}
use Rattle.heap_class.proofs.Lists.{got_set_elsewhere}
use Rattle.heap_region.specs.Regions.{UsedRegion, Region, Empty, InUse, used_part, used_at, regions_for}
use Rattle.heap_region.specs.Pool.{RegionPool, overlaps, is_run, first_run}
use Rattle.heap_region.specs.Legal.{IsArea, MayRestore}
use Rattle.heap_region.proofs.Lookups.{used_region_stands_in_list}
use Rattle.heap_region.proofs.BlockSizes.{regions_for_small_at_most_one}

-- ---- the first of a range for which a test is true

pub found_in_range : (p : ℕ → Bool) (a n r : ℕ) → find p (range_with_len a n) ≡ Some r → (a ≤ r) × (r < a + n) × (p r ≡ true)
found_in_range p a zero r h = cc
found_in_range p a (suc n) r h = go (p a) refl h (found_in_range p (a + 1) n r)
  where
    go : (b : Bool) → p a ≡ b → cond b (Some a) (find p (range_with_len (a + 1) n)) ≡ Some r → (find p (range_with_len (a + 1) n) ≡ Some r → (a + 1 ≤ r) × (r < a + 1 + n) × (p r ≡ true)) → (a ≤ r) × (r < a + suc n) × (p r ≡ true)
    go true e d rest = let same : a ≡ r = cc in (omega (arith, same), omega (arith, same), ap p (sym same) ∙ e)
    go false e d rest = let f = rest d in (omega (arith, f.0), omega (arith, f.1), f.2)

pub range_has_first : (p : ℕ → Bool) (a n r : ℕ) → a ≤ r → r < a + n → p r ≡ true → ((j : ℕ) → a ≤ j → j < r → p j ≡ false) → find p (range_with_len a n) ≡ Some r
range_has_first p a zero r low high is before = absurd (omega (arith, low, high))
range_has_first p a (suc n) r low high is before =
    elim (cases_eq a r) [
      | inl e ↦ ap (λ b. cond b (Some a) (find p (range_with_len (a + 1) n))) (ap p e ∙ is) ∙ ap Some e
      | inr ne ↦ ap (λ b. cond b (Some a) (find p (range_with_len (a + 1) n))) (before a (omega arith) (omega (arith, low, ne))) ∙ range_has_first p (a + 1) n r (omega (arith, low, ne)) (omega (arith, high)) is (λ j le lt. before j (omega (arith, le)) lt)
    ]

pub range_has_none : (p : ℕ → Bool) (a n : ℕ) → ((j : ℕ) → a ≤ j → j < a + n → p j ≡ false) → find p (range_with_len a n) ≡ None
range_has_none p a zero never = refl
range_has_none p a (suc n) never =
    ap (λ b. cond b (Some a) (find p (range_with_len (a + 1) n))) (never a (omega arith) (omega arith))
    ∙ range_has_none p (a + 1) n (λ j le lt. never j (omega (arith, le)) (omega (arith, lt)))

-- ---- a test of each item with its number

none_of_numbered : {A : Type 0} (f : ℕ × A → Bool) (n : ℕ) (xs : List A) → list_any f (enumerate_from n xs) ≡ false → (i : ℕ) (x : A) → slice_get xs i ≡ Some x → f (n + i, x) ≡ false
none_of_numbered f n [] h i x e = cc
none_of_numbered f n (y ∷ xs) h zero x e =
    let same : y ≡ x = cc in
    let here : n + 0 ≡ n = omega arith in
    rw (here, ← same) (or_parts (f (n, y)) (list_any f (enumerate_from (n + 1) xs)) h).0
none_of_numbered f n (y ∷ xs) h (suc i) x e =
    let here : n + suc i ≡ n + 1 + i = omega arith in
    rw here (none_of_numbered f (n + 1) xs (or_parts (f (n, y)) (list_any f (enumerate_from (n + 1) xs)) h).1 i x e)

one_of_numbered : {A : Type 0} (f : ℕ × A → Bool) (n : ℕ) (xs : List A) (i : ℕ) (x : A) → slice_get xs i ≡ Some x → f (n + i, x) ≡ true → list_any f (enumerate_from n xs) ≡ true
one_of_numbered f n [] i x e h = cc
one_of_numbered f n (y ∷ xs) zero x e h =
    let same : y ≡ x = cc in
    let here : n + 0 ≡ n = omega arith in
    let yes : f (n, y) ≡ true = rw same (rw here at h) in
    or_left (f (n, y)) (list_any f (enumerate_from (n + 1) xs)) yes
one_of_numbered f n (y ∷ xs) (suc i) x e h =
    let here : n + suc i ≡ n + 1 + i = omega arith in
    or_right (f (n, y)) (list_any f (enumerate_from (n + 1) xs)) (one_of_numbered f (n + 1) xs i x e (rw here at h))

no_numbered : {A : Type 0} (f : ℕ × A → Bool) (n : ℕ) (xs : List A) → ((i : ℕ) (x : A) → slice_get xs i ≡ Some x → f (n + i, x) ≡ false) → list_any f (enumerate_from n xs) ≡ false
no_numbered f n [] h = refl
no_numbered f n (y ∷ xs) h =
    let here : n + 0 ≡ n = omega arith in
    or_from (f (n, y)) (list_any f (enumerate_from (n + 1) xs)) (rw here at (h 0 y refl))
    (no_numbered f (n + 1) xs (λ i x e. (let next : n + suc i ≡ n + 1 + i = omega arith in rw next at (h (suc i) x e))))

-- ---- runs

-- the object of a region takes none of the k regions from r on
abbrev pub IsClearOf : ℕ → ℕ → ℕ → UsedRegion → Type 0
IsClearOf r k q u = (q + regions_for u.cell_size ≤ r) ⊎ (r + k ≤ q)

clear_or_overlaps : (r k q : ℕ) (u : UsedRegion) → (nat_lt q (r + k) && nat_lt r (q + regions_for u.cell_size)) ≡ false → IsClearOf r k q u
clear_or_overlaps r k q u h =
    elim (cases_lt q (r + k)) [
      | inl lt ↦ elim (cases_lt r (q + regions_for u.cell_size)) [
        | inl under ↦ absurd (both_ways (nat_lt q (r + k) && nat_lt r (q + regions_for u.cell_size)) h (and_from (nat_lt q (r + k)) (nat_lt r (q + regions_for u.cell_size)) (lt-ltb q (r + k) lt) (lt-ltb r (q + regions_for u.cell_size) under)))
        | inr past ↦ inl past
      ]
      | inr past ↦ inr past
    ]

clear_does_not_overlap : (r k q : ℕ) (u : UsedRegion) → IsClearOf r k q u → (nat_lt q (r + k) && nat_lt r (q + regions_for u.cell_size)) ≡ false
clear_does_not_overlap r k q u (inl past) = go (nat_lt q (r + k)) (nat_lt r (q + regions_for u.cell_size)) (le-ltb r (q + regions_for u.cell_size) past)
  where
    go : (a b : Bool) → b ≡ false → (a && b) ≡ false
    go true b e = e
    go false b e = refl
clear_does_not_overlap r k q u (inr past) = ap (λ b. b && nat_lt r (q + regions_for u.cell_size)) (le-ltb q (r + k) past)

-- a run is there, and no object takes a region of it
pub run_is_clear : (k : ℕ) (regions : List Region) (r : ℕ) → is_run k regions r ≡ true → (r + k ≤ length regions) × ((q : ℕ) (u : UsedRegion) → used_at regions q ≡ Some u → IsClearOf r k q u)
unfolding is_run overlaps
run_is_clear k regions r h =
    let parts = and_parts (nat_le (r + k) (length regions)) (not (list_any (overlaps r k) (enumerate_from 0 regions))) h in
    let none : list_any (overlaps r k) (enumerate_from 0 regions) ≡ false = of_not (list_any (overlaps r k) (enumerate_from 0 regions)) parts.1 in
    (grind (arith, parts.0), λ q u used. (let from : 0 + q ≡ q = omega arith in clear_or_overlaps r k q u (rw from at (none_of_numbered (overlaps r k) 0 regions none q (InUse u) (used_region_stands_in_list regions q u used)))))
  where
    of_not : (b : Bool) → not b ≡ true → b ≡ false
    of_not true e = cc
    of_not false e = refl

-- regions that are there and that no object takes are a run
pub clear_is_run : (k : ℕ) (regions : List Region) (r : ℕ) → r + k ≤ length regions → ((q : ℕ) (u : UsedRegion) → used_at regions q ≡ Some u → IsClearOf r k q u) → is_run k regions r ≡ true
unfolding is_run overlaps used_at
clear_is_run k regions r there clear =
    and_from (nat_le (r + k) (length regions)) (not (list_any (overlaps r k) (enumerate_from 0 regions))) (le-leb (r + k) (length regions) there)
    (ap not (no_numbered (overlaps r k) 0 regions each))
  where
    each : (q : ℕ) (x : Region) → slice_get regions q ≡ Some x → overlaps r k (0 + q, x) ≡ false
    each q Empty e = refl
    each q (InUse u) e = let from : 0 + q ≡ q = omega arith in rw from (clear_does_not_overlap r k q u (clear q u (ap (option_and_then used_part) e)))

-- regions that aren't all there are no run
pub past_the_end_is_no_run : (k : ℕ) (regions : List Region) (r : ℕ) → length regions < r + k → is_run k regions r ≡ false
unfolding is_run
past_the_end_is_no_run k regions r lt = ap (λ b. b && not (list_any (overlaps r k) (enumerate_from 0 regions))) (lt-leb (r + k) (length regions) lt)

-- the first region of a run is empty
pub first_of_run_is_empty : (k : ℕ) (regions : List Region) (r : ℕ) → 1 ≤ k → is_run k regions r ≡ true → ((u : UsedRegion) → used_at regions r ≡ Some u → 1 ≤ regions_for u.cell_size) → slice_get regions r ≡ Some Empty
unfolding used_at
first_of_run_is_empty k regions r some run spans =
    let clear = run_is_clear k regions r run in
    go (slice_get regions r) refl (omega (arith, clear.0, some)) clear.1
  where
    go : (x : Option Region) → slice_get regions r ≡ x → r < length regions → ((q : ℕ) (u : UsedRegion) → used_at regions q ≡ Some u → IsClearOf r k q u) → slice_get regions r ≡ Some Empty
    go None e lt clear = absurd (there regions r lt e)
      where
        there : (ys : List Region) (i : ℕ) → i < length ys → slice_get ys i ≡ None → ⊥
        there [] i lt e = omega (arith, lt)
        there (y ∷ ys) zero lt e = cc
        there (y ∷ ys) (suc i) lt e = there ys i (omega (arith, lt)) e
    go (Some Empty) e lt clear = e
    go (Some (InUse u)) e lt clear =
        let used : used_at regions r ≡ Some u = ap (option_and_then used_part) e in
        elim (clear r u used) [
          | inl past ↦ absurd (omega (arith, past, spans u used))
          | inr past ↦ absurd (omega (arith, past, some))
        ]

-- nor are regions of which an object takes one
pub taken_region_is_in_no_run : (k : ℕ) (regions : List Region) (r q : ℕ) (u : UsedRegion) → used_at regions q ≡ Some u → q < r + k → r < q + regions_for u.cell_size → is_run k regions r ≡ false
taken_region_is_in_no_run k regions r q u used low high =
    elim (cases_Bool (is_run k regions r)) [
      | inl is ↦ elim ((run_is_clear k regions r is).1 q u used) [
        | inl past ↦ absurd (omega (arith, past, high))
        | inr past ↦ absurd (omega (arith, past, low))
      ]
      | inr is ↦ is
    ]

-- the first run is in the area, and is one
pub first_run_lies_in_area : (k : ℕ) (s : RegionPool) (r : ℕ) → first_run k s ≡ Some r → (s.area_start ≤ r) × (is_run k s.regions r ≡ true)
unfolding first_run
first_run_lies_in_area k s r h =
    let f = found_in_range (is_run k s.regions) s.area_start (length s.regions - s.area_start) r h in
    (f.0, f.2)

-- ---- objects come and go

-- each region in use was in use with the same size of cells
abbrev pub KeepsSizes : List Region → List Region → Type 0
KeepsSizes old new = (r : ℕ) (u : UsedRegion) → used_at new r ≡ Some u → (v : UsedRegion) × (used_at old r ≡ Some v) × (v.cell_size ≡ u.cell_size)

-- an area stays one where no object comes
pub area_kept : (old new : List Region) (start : ℕ) → length new ≡ length old → KeepsSizes old new → IsArea old start → IsArea new start
area_kept old new start len keeps area =
    record {
      within = rw len area.within;
      large = λ r u used. (let v = keeps r u used in rw (← v.2) (area.large r v.0 v.1));
      there = λ r u used. (let v = keeps r u used in rw (len, ← v.2) (area.there r v.0 v.1));
      apart = λ r u used q w also lt. (let v = keeps r u used in let x = keeps q w also in rw (← v.2) (area.apart r v.0 v.1 q x.0 x.1 lt));
    }

-- the region that is set
used_where_set : (regions : List Region) (r : ℕ) (x : Region) (u : UsedRegion) → used_at (set regions r x) r ≡ Some u → used_part x ≡ Some u
unfolding used_at
used_where_set [] r x u used = cc
used_where_set (y ∷ ys) zero x u used = used
used_where_set (y ∷ ys) (suc r) x u used = used_where_set ys r x u used

-- another
used_elsewhere : (regions : List Region) (r q : ℕ) (x : Region) → r ≢ q → used_at (set regions r x) q ≡ used_at regions q
unfolding used_at
used_elsewhere regions r q x ne = ap (option_and_then used_part) (got_set_elsewhere r q regions x ne)

-- a region in use where another became empty
pub used_after_removal : (regions : List Region) (r q : ℕ) (u : UsedRegion) → used_at (set regions r Empty) q ≡ Some u → (r ≢ q) × (used_at regions q ≡ Some u)
used_after_removal regions r q u used =
    elim (cases_eq r q) [
      | inl e ↦ (let here : used_at (set regions r Empty) r ≡ Some u = ap (used_at (set regions r Empty)) e ∙ used in let bad = used_where_set regions r Empty u here in absurd (cc))
      | inr ne ↦ (ne, sym (used_elsewhere regions r q Empty ne) ∙ used)
    ]

-- a region becomes empty
pub area_after_removal : (regions : List Region) (start r : ℕ) → IsArea regions start → IsArea (set regions r Empty) start
area_after_removal regions start r area =
    area_kept regions (set regions r Empty) start (length-set regions r Empty) (λ q u used. (u, (used_after_removal regions r q u used).1, refl)) area

-- objects below the area take one region
pub below_area_is_small : (regions : List Region) (start q : ℕ) (u : UsedRegion) → IsArea regions start → used_at regions q ≡ Some u → q < start → u.cell_size ≤ 1024
below_area_is_small regions start q u area used lt =
    elim (cases_lt 1024 u.cell_size) [
      | inl large ↦ absurd (omega (arith, lt, (area.large q u used).1 large))
      | inr le ↦ le
    ]

-- a region comes into use
module _ (s : RegionPool) (r : ℕ) (u : UsedRegion) (area : IsArea s.regions s.area_start) (may : MayRestore s r u) where
  clear_below : r < s.area_start → (q : ℕ) (v : UsedRegion) → used_at s.regions q ≡ Some v → r ≢ q → IsClearOf r (regions_for u.cell_size) q v
  clear_below lt q v used ne =
      elim (cases_lt q r) [
        | inl before ↦ inl (omega (arith, before, regions_for_small_at_most_one v.cell_size (below_area_is_small s.regions s.area_start q v area used (omega (arith, before, lt)))))
        | inr after ↦ inr (omega (arith, after, ne, regions_for_small_at_most_one u.cell_size (may.small lt)))
      ]

  clear_around : (q : ℕ) (v : UsedRegion) → used_at s.regions q ≡ Some v → r ≢ q → IsClearOf r (regions_for u.cell_size) q v
  clear_around q v used ne =
      elim (cases_lt r s.area_start) [
        | inl lt ↦ clear_below lt q v used ne
        | inr le ↦ (run_is_clear (regions_for u.cell_size) s.regions r (may.run le)).1 q v used
      ]

  stands_within : r + regions_for u.cell_size ≤ length s.regions
  stands_within =
      elim (cases_lt r s.area_start) [
        | inl lt ↦ omega (arith, lt, area.within, regions_for_small_at_most_one u.cell_size (may.small lt))
        | inr le ↦ (run_is_clear (regions_for u.cell_size) s.regions r (may.run le)).0
      ]

  is_large : (s.area_start ≤ r) ↔ (1024 < u.cell_size)
  is_large = (
    may.large,
    λ large. elim (cases_lt r s.area_start) [
      | inl lt ↦ absurd (omega (arith, large, may.small lt))
      | inr le ↦ le
    ],
  )

  -- the regions then
  abbrev pub regions_after_arrival : List Region
  regions_after_arrival = set s.regions r (InUse u)

  -- a region in use is the new one, or was in use
  was_or_is : (q : ℕ) (v : UsedRegion) → used_at regions_after_arrival q ≡ Some v → ((r ≡ q) × (u ≡ v)) ⊎ ((r ≢ q) × (used_at s.regions q ≡ Some v))
  was_or_is q v used =
      elim (cases_eq r q) [
        | inl e ↦ inl (e, (let here : used_at regions_after_arrival r ≡ Some v = ap (used_at regions_after_arrival) e ∙ used in let same = used_where_set s.regions r (InUse u) v here in cc))
        | inr ne ↦ inr (ne, sym (used_elsewhere s.regions r q (InUse u) ne) ∙ used)
      ]

  pub area_after_arrival : IsArea regions_after_arrival s.area_start
  area_after_arrival =
      record {
        within = rw (length-set s.regions r (InUse u)) area.within;
        large = λ q v used. elim (was_or_is q v used) [
          | inl same ↦ rw (← same.0, ← same.1) is_large
          | inr old ↦ area.large q v old.1
        ];
        there = λ q v used. rw (length-set s.regions r (InUse u)) (elim (was_or_is q v used) [
          | inl same ↦ rw (← same.0, ← same.1) stands_within
          | inr old ↦ area.there q v old.1
        ]);
        apart = λ q v used p w also lt. elim (was_or_is q v used) [
          | inl same ↦ elim (was_or_is p w also) [
            | inl twice ↦ absurd (omega (arith, same.0, twice.0, lt))
            | inr old ↦ first_is_new q v same p w old lt
          ]
          | inr first ↦ elim (was_or_is p w also) [
            | inl same ↦ second_is_new q v first p w same lt
            | inr old ↦ area.apart q v first.1 p w old.1 lt
          ]
        ];
      }
    where
      first_is_new : (q : ℕ) (v : UsedRegion) → (r ≡ q) × (u ≡ v) → (p : ℕ) (w : UsedRegion) → (r ≢ p) × (used_at s.regions p ≡ Some w) → q < p → q + regions_for v.cell_size ≤ p
      first_is_new q v same p w old lt = rw (← same.0, ← same.1) (elim (clear_around p w old.1 old.0) [
        | inl before ↦ absurd (omega (arith, before, lt, same.0))
        | inr after ↦ after
      ])

      second_is_new : (q : ℕ) (v : UsedRegion) → (r ≢ q) × (used_at s.regions q ≡ Some v) → (p : ℕ) (w : UsedRegion) → (r ≡ p) × (u ≡ w) → q < p → q + regions_for v.cell_size ≤ p
      second_is_new q v old p w same lt = rw (← same.0) (elim (clear_around q v old.1 old.0) [
        | inl before ↦ before
        | inr after ↦ absurd (omega (arith, after, lt, same.0))
      ])

-- the regions of a run, where one object left
pub run_where_object_left : (regions : List Region) (start r : ℕ) (u : UsedRegion) → IsArea regions start → used_at regions r ≡ Some u → is_run (regions_for u.cell_size) (set regions r Empty) r ≡ true
run_where_object_left regions start r u area used =
    clear_is_run (regions_for u.cell_size) (set regions r Empty) r (rw (length-set regions r Empty) (area.there r u used)) clear
  where
    clear : (q : ℕ) (v : UsedRegion) → used_at (set regions r Empty) q ≡ Some v → IsClearOf r (regions_for u.cell_size) q v
    clear q v also =
        let old = used_after_removal regions r q v also in
        elim (cases_lt q r) [
          | inl before ↦ inl (area.apart q v old.1 r u used before)
          | inr after ↦ inr (area.apart r u used q v old.1 (omega (arith, after, old.0)))
        ]

-- no regions in use, no object takes any
pub area_of_empty_regions : (n start : ℕ) → start ≤ n → ((q : ℕ) → used_at (replicate n Empty) q ≡ None) → IsArea (replicate n Empty) start
area_of_empty_regions n start le none =
    record {
      within = rw (length-replicate n Empty) le;
      large = λ r u used. absurd (clash (sym (none r) ∙ used));
      there = λ r u used. absurd (clash (sym (none r) ∙ used));
      apart = λ r u used q v also lt. absurd (clash (sym (none r) ∙ used));
    }
  where
    clash : {u : UsedRegion} → ◌≡◌ {A = Option UsedRegion} None (Some u) → ⊥
    clash e = cc
