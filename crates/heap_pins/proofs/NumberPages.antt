-- Numbers in groups: one is read or written, and a group is made.
use Rattle.std.proofs.Common.{◌≡◌, ◌≢◌, ◌⊎◌, ℕ, zero, suc, ◌+◌, ◌*◌, ◌/◌, ◌%◌, ◌<◌, ◌≤◌, List, [], ◌∷◌, ◌++◌, length, length-set, set, get_or, replicate, inl, inr, refl, sym, ap, ◌∙◌, arith}
use Rattle.std.proofs.lemmas.List.{ext_get_or, length-append, length-replicate, get_or-set_same, get_or-set_other, get_or_past}
use Rattle.std.proofs.lemmas.List.FromFn.{get_or-map-range_with_len, length-map-range_with_len}
use Rattle.heap_region.proofs.ChangedLookups.{same_or_not}
use Rattle.heap_pins.specs.Numbers.{ArePages, region_number, number_on, region_numbers}
use Rattle.heap_pins.specs.Slots.{count_used}
use Rattle.heap_pins.proofs.SlotTables.{used_number_counts, used_numbers_are_few, zero_in_zeros, zeros_are_not_used}

-- ---- one number

pub numbers_are_as_many : (pages numbers : List ℕ) (count : ℕ) → length (region_numbers pages numbers count) ≡ count
unfolding region_numbers
numbers_are_as_many pages numbers count = length-map-range_with_len (region_number pages numbers) 0 count

pub number_is_read : (pages numbers : List ℕ) (count r : ℕ) → r < count → get_or (region_numbers pages numbers count) r 0 ≡ region_number pages numbers r
unfolding region_numbers
number_is_read pages numbers count r lt = get_or-map-range_with_len (region_number pages numbers) 0 count r r 0 lt (omega arith)

-- a group that isn't made has zeros alone
pub number_on_no_page : (numbers : List ℕ) (s k : ℕ) → s ≡ 0 → number_on numbers s k ≡ 0
unfolding number_on
number_on_no_page numbers zero k e = refl
number_on_no_page numbers (suc p) k e = absurd (omega (arith, e))

-- where the numbers of a group begin
pub number_on_page : (numbers : List ℕ) (s k start : ℕ) → 256 * s ≡ start + 256 → number_on numbers s k ≡ get_or numbers (start + k) 0
unfolding number_on
number_on_page numbers zero k start e = absurd (omega (arith, e))
number_on_page numbers (suc p) k start e = ap (λ i. get_or numbers i 0) (let g : 256 * p + k ≡ start + k = omega (arith, e) in g)

-- tables of as many regions whose numbers are alike are the same
pub same_numbers : (pages numbers others more : List ℕ) (count : ℕ) → ((r : ℕ) → region_number others more r ≡ region_number pages numbers r) → region_numbers others more count ≡ region_numbers pages numbers count
same_numbers pages numbers others more count each = ext_get_or 0 (region_numbers others more count) (region_numbers pages numbers count)
    (numbers_are_as_many others more count ∙ sym (numbers_are_as_many pages numbers count))
    (λ r lt. let less : r < count = omega (arith, lt, numbers_are_as_many others more count) in
    number_is_read others more count r less ∙ each r ∙ sym (number_is_read pages numbers count r less))

-- ---- a number is written

module _ (pages numbers : List ℕ) (capacity r start v : ℕ) (t : ArePages pages numbers capacity) (at : 256 * get_or pages (r / 256) 0 ≡ start + 256) where
  abbrev place : ℕ
  place = start + r % 256

  place_is_there : place < length numbers
  place_is_there = omega (arith, t.within (r / 256), at)

  number_written : region_number pages (set numbers place v) r ≡ v
  number_written = number_on_page (set numbers place v) (get_or pages (r / 256) 0) (r % 256) start at ∙ get_or-set_same numbers place v 0 place_is_there

  -- a group whose number isn't written at this place
  other_page_stays : (s k : ℕ) → (256 * s ≢ start + 256) ⊎ (k ≢ r % 256) → k < 256 → number_on (set numbers place v) s k ≡ number_on numbers s k
  unfolding number_on
  other_page_stays zero k apart below = refl
  other_page_stays (suc p) k apart below = get_or-set_other numbers place (256 * p + k) v 0 (different apart)
    where
      different : (256 * suc p ≢ start + 256) ⊎ (k ≢ r % 256) → 256 * p + k ≢ place
      different (inl ne) e = ne (omega (arith, e, below, page_count))
        where
          page_count : 256 * get_or pages (r / 256) 0 ≡ start + 256
          page_count = at
      different (inr ne) e = ne (omega (arith, e, below, at))

  other_number_stays : (q : ℕ) → q ≢ r → region_number pages (set numbers place v) q ≡ region_number pages numbers q
  other_number_stays q ne = other_page_stays (get_or pages (q / 256) 0) (q % 256) (go (same_or_not (q / 256) (r / 256))) (omega arith)
    where
      go : (q / 256 ≡ r / 256) ⊎ (q / 256 ≢ r / 256) → (256 * get_or pages (q / 256) 0 ≢ start + 256) ⊎ (q % 256 ≢ r % 256)
      go (inl same) = inr (λ e. ne (omega (arith, same, e)))
      go (inr other) = inl (λ e. elim (t.apart (q / 256) (r / 256) (omega (arith, e, at))) [
        | inl z ↦ omega (arith, z, at)
        | inr same ↦ other same
      ])

  pub number_is_written : (count : ℕ) → r < count → region_numbers pages (set numbers place v) count ≡ set (region_numbers pages numbers count) r v
  number_is_written count lt = ext_get_or 0 (region_numbers pages (set numbers place v) count) (set (region_numbers pages numbers count) r v)
      (numbers_are_as_many pages (set numbers place v) count ∙ sym (length-set (region_numbers pages numbers count) r v ∙ numbers_are_as_many pages numbers count))
      (λ q less. each q (omega (arith, less, numbers_are_as_many pages (set numbers place v) count)) (same_or_not q r))
    where
      each : (q : ℕ) → q < count → (q ≡ r) ⊎ (q ≢ r) → get_or (region_numbers pages (set numbers place v) count) q 0 ≡ get_or (set (region_numbers pages numbers count) r v) q 0
      each q less (inl same) =
          number_is_read pages (set numbers place v) count q less ∙ ap (region_number pages (set numbers place v)) same ∙ number_written
          ∙ sym (ap (λ j. get_or (set (region_numbers pages numbers count) r v) j 0) same ∙ get_or-set_same (region_numbers pages numbers count) r v 0 (omega (arith, lt, numbers_are_as_many pages numbers count)))
      each q less (inr ne) =
          number_is_read pages (set numbers place v) count q less ∙ other_number_stays q ne ∙ sym (number_is_read pages numbers count q less)
          ∙ sym (get_or-set_other (region_numbers pages numbers count) r q v 0 ne)

  pub written_pages_are_pages : ArePages pages (set numbers place v) capacity
  written_pages_are_pages = record {
    few = t.few;
    room = t.room;
    count = length-set numbers place v ∙ t.count;
    within = λ p. omega (arith, t.within p, length-set numbers place v);
    apart = t.apart;
  }

-- ---- a group is made

-- the numbers of the groups made end where the next group begins
pub page_numbers_follow : (pages numbers : List ℕ) (capacity : ℕ) → ArePages pages numbers capacity → 256 * (length numbers / 256 + 1) ≡ length numbers + 256
page_numbers_follow pages numbers capacity t = omega (arith, t.count)

zeros_behind : (numbers : List ℕ) (n c : ℕ) → get_or (numbers ++ replicate n 0) c 0 ≡ get_or numbers c 0
zeros_behind [] n c = zero_in_zeros n c
zeros_behind (x ∷ numbers) n zero = refl
zeros_behind (x ∷ numbers) n (suc c) = zeros_behind numbers n c

module _ (pages numbers : List ℕ) (capacity page : ℕ) (t : ArePages pages numbers capacity) (lt : page < length pages) (none : get_or pages page 0 ≡ 0) where
  -- there is room for it
  pub room_for_page : length numbers + 256 ≤ capacity
  room_for_page = omega (arith, t.room, t.count, used_number_counts pages page 0 lt none, used_numbers_are_few (set pages page 1), length-set pages page 1)

  pub page_number_is_small : length numbers / 256 + 1 ≤ 65536
  page_number_is_small = omega (arith, room_for_page, t.few, t.count, used_number_counts pages page 0 lt none, used_numbers_are_few (set pages page 1), length-set pages page 1)

  module _ (s : ℕ) (is : 256 * s ≡ length numbers + 256) where
    abbrev made : List ℕ
    made = set pages page s

    abbrev more : List ℕ
    more = numbers ++ replicate 256 0

    on_old_page : (x k : ℕ) → number_on more x k ≡ number_on numbers x k
    unfolding number_on
    on_old_page zero k = refl
    on_old_page (suc p) k = zeros_behind numbers 256 (256 * p + k)

    pub numbers_stay : (r : ℕ) → region_number made more r ≡ region_number pages numbers r
    numbers_stay r = on_old_page (get_or made (r / 256) 0) (r % 256) ∙ go (same_or_not (r / 256) page)
      where
        go : (r / 256 ≡ page) ⊎ (r / 256 ≢ page) → number_on numbers (get_or made (r / 256) 0) (r % 256) ≡ region_number pages numbers r
        go (inl same) =
            number_on_page numbers (get_or made (r / 256) 0) (r % 256) (length numbers) (ap (λ n. 256 * n) (ap (λ j. get_or made j 0) same ∙ get_or-set_same pages page s 0 lt) ∙ is)
            ∙ get_or_past numbers (length numbers + r % 256) 0 (omega arith)
            ∙ sym (number_on_no_page numbers (get_or pages (r / 256) 0) (r % 256) (ap (λ j. get_or pages j 0) same ∙ none))
        go (inr ne) = ap (λ n. number_on numbers n (r % 256)) (get_or-set_other pages page (r / 256) s 0 ne)

    count_of_used : length numbers + 256 ≡ 256 * count_used made
    count_of_used = elim_number s is
      where
        elim_number : (n : ℕ) → 256 * n ≡ length numbers + 256 → length numbers + 256 ≡ 256 * count_used (set pages page n)
        elim_number zero e = absurd (omega (arith, e))
        elim_number (suc p) e = omega (arith, t.count, used_number_counts pages page p lt none)

    pub made_pages_are_pages : ArePages made more capacity
    made_pages_are_pages = record {
      few = omega (arith, t.few, length-set pages page s);
      room = omega (arith, t.room, length-set pages page s);
      count = longer ∙ count_of_used;
      within = λ p. within p (same_or_not p page);
      apart = λ p q same. apart p q (same_or_not p page) (same_or_not q page) same;
    }
      where
        longer : length more ≡ length numbers + 256
        longer = length-append numbers (replicate 256 0) ∙ ap (λ n. length numbers + n) (length-replicate {A = ℕ} 256 0)

        there : (p : ℕ) → p ≡ page → get_or made p 0 ≡ s
        there p same = ap (λ j. get_or made j 0) same ∙ get_or-set_same pages page s 0 lt

        elsewhere : (p : ℕ) → p ≢ page → get_or made p 0 ≡ get_or pages p 0
        elsewhere p ne = get_or-set_other pages page p s 0 ne

        within : (p : ℕ) → (p ≡ page) ⊎ (p ≢ page) → 256 * get_or made p 0 ≤ length more
        within p (inl same) = omega (arith, there p same, is, longer)
        within p (inr ne) = omega (arith, elsewhere p ne, t.within p, longer)

        apart : (p q : ℕ) → (p ≡ page) ⊎ (p ≢ page) → (q ≡ page) ⊎ (q ≢ page) → get_or made p 0 ≡ get_or made q 0 → (get_or made q 0 ≡ 0) ⊎ (p ≡ q)
        apart p q (inl a) (inl b) same = inr (a ∙ sym b)
        apart p q (inl a) (inr b) same = absurd (omega (arith, there p a, elsewhere q b, same, is, t.within q))
        apart p q (inr a) (inl b) same = absurd (omega (arith, elsewhere p a, there q b, same, is, t.within p))
        apart p q (inr a) (inr b) same = elim (t.apart p q (sym (elsewhere p a) ∙ same ∙ elsewhere q b)) [
          | inl z ↦ inl (elsewhere q b ∙ z)
          | inr e ↦ inr e
        ]

-- ---- the start

pub no_pages_are_pages : (n capacity : ℕ) → n ≤ 65536 → 256 * n ≤ capacity → ArePages (replicate n 0) [] capacity
no_pages_are_pages n capacity few room = record {
  few = omega (arith, few, length-replicate {A = ℕ} n 0);
  room = omega (arith, room, length-replicate {A = ℕ} n 0);
  count = let e : 0 ≡ count_used (replicate n 0) = sym (zeros_are_not_used n) in omega (arith, e);
  within = λ p. omega (arith, zero_in_zeros n p);
  apart = λ p q same. inl (zero_in_zeros n q);
}

pub numbers_are_zeros_at_first : (n count : ℕ) → region_numbers (replicate n 0) [] count ≡ replicate count 0
numbers_are_zeros_at_first n count = ext_get_or 0 (region_numbers (replicate n 0) [] count) (replicate count 0)
    (numbers_are_as_many (replicate n 0) [] count ∙ sym (length-replicate {A = ℕ} count 0))
    (λ r lt. number_is_read (replicate n 0) [] count r (omega (arith, lt, numbers_are_as_many (replicate n 0) [] count))
    ∙ number_on_no_page [] (get_or (replicate n 0) (r / 256) 0) (r % 256) (zero_in_zeros n (r / 256)) ∙ sym (zero_in_zeros count r))
