-- What a change of headers leaves of their counts.
use Rattle.std.proofs.Common.{◌≡◌, ℕ, zero, suc, ◌+◌, ◌<◌, ◌≤◌, Bool, true, false, not, cond, List, [], ◌∷◌, length, map, Option, Some, None, is_some, IsSome, IfSome, option_map, get_or, set, refl, sym, ap, ap₂, ◌∙◌, arith, replicate, length-set}
use Rattle.std.specs.Prelude.{count_by}
use Rattle.std.proofs.lemmas.List.{length-map, length-replicate}
use Rattle.std.proofs.lemmas.List.Sums.{sum_by-cons, sum_by-set, count_by-le-length}
use Rattle.heap_region.specs.Layout.{header_bit, header_live, with_bit}
use Rattle.heap_region.specs.TurnedHeaders.{turned_header, turned_back_header, header_unmarked, header_dead, live_counted, mark_counted, one_if, IsCounted}
use Rattle.heap_region.specs.declared.cell.Bit.{Bit}
use Rattle.heap_region.specs.declared.cell.Bit.TheVariants.{Live, Mark}
use Rattle.heap_region.specs.declared.cell.Header.{Header}
use Rattle.heap_region.proofs.Cells.{cell_with_header_is_listed}
use Rattle.heap_region.specs.declared.counts.Counts.{Counts}

-- ---- a header is written

header_count_after_set : (q : Option Header → Bool) (hs : List (Option Header)) (cell : ℕ) (x : Option Header) → cell < length hs → count_by q (set hs cell x) + one_if (q (get_or hs cell None)) ≡ count_by q hs + one_if (q x)
header_count_after_set q hs cell x lt = sum_by-set (λ x. cond (q x) 1 0) hs cell x None lt

-- a header that is there is counted
counted_header_is_at_least_one : (q : Option Header → Bool) (hs : List (Option Header)) (cell : ℕ) → cell < length hs → q None ≡ false → one_if (q (get_or hs cell None)) ≤ count_by q hs
counted_header_is_at_least_one q hs cell lt none = omega (arith, header_count_after_set q hs cell None lt, ap one_if none)

-- each count is at most 2^24
pub record AreFew (c : Counts) : Type 0 where
  pub objects : c.objects ≤ 16777216
  pub unmarked : c.unmarked ≤ 16777216
  pub dead : c.dead ≤ 16777216

pub counts_of_headers_are_few : (hs : List (Option Header)) (c : Counts) → IsCounted hs c → AreFew c
counts_of_headers_are_few hs c is = record {
  objects = omega (arith, is.objects, is.few, count_by-le-length is_some hs);
  unmarked = omega (arith, is.unmarked, is.few, count_by-le-length header_unmarked hs);
  dead = omega (arith, is.dead, is.few, count_by-le-length header_dead hs);
}

-- a cell counts where it is counted
pub record AreMore (c : Counts) (was : Option Header) : Type 0 where
  pub objects : one_if (is_some was) ≤ c.objects
  pub unmarked : one_if (header_unmarked was) ≤ c.unmarked
  pub dead : one_if (header_dead was) ≤ c.dead

pub counts_include_this_header : (hs : List (Option Header)) (c : Counts) (cell : ℕ) (was : Option Header) → cell < length hs → was ≡ get_or hs cell None → IsCounted hs c → AreMore c was
counts_include_this_header hs c cell was lt is counted = rw is (record {
  objects = omega (arith, counted.objects, counted_header_is_at_least_one is_some hs cell lt refl);
  unmarked = omega (arith, counted.unmarked, counted_header_is_at_least_one header_unmarked hs cell lt refl);
  dead = omega (arith, counted.dead, counted_header_is_at_least_one header_dead hs cell lt refl);
})

-- the counts d are the counts c without the old header and with the new one
pub record Differ (c d : Counts) (old new : Option Header) : Type 0 where
  pub objects : d.objects + one_if (is_some old) ≡ c.objects + one_if (is_some new)
  pub unmarked : d.unmarked + one_if (header_unmarked old) ≡ c.unmarked + one_if (header_unmarked new)
  pub dead : d.dead + one_if (header_dead old) ≡ c.dead + one_if (header_dead new)

pub counts_after_header_set : (hs : List (Option Header)) (c d : Counts) (cell : ℕ) (was x : Option Header) → cell < length hs → was ≡ get_or hs cell None → IsCounted hs c → Differ c d was x → IsCounted (set hs cell x) d
counts_after_header_set hs c d cell was x lt is counted differ =
    let differ = rw is at differ in
    record {
      objects = omega (arith, header_count_after_set is_some hs cell x lt, counted.objects, differ.objects);
      unmarked = omega (arith, header_count_after_set header_unmarked hs cell x lt, counted.unmarked, differ.unmarked);
      dead = omega (arith, header_count_after_set header_dead hs cell x lt, counted.dead, differ.dead);
      few = omega (arith, counted.few, length-set hs cell x);
    }

-- ---- a bit is written

-- the bit that a header has is counted
pub bit_is_counted : (hs : List (Option Header)) (c : Counts) (cell : ℕ) (bit : Bit) (was : Bool) → IsSome (get_or hs cell None) → IsCounted hs c → IfSome (get_or hs cell None) (λ h. was ≡ header_bit bit h) → (mark_counted bit was ≤ c.unmarked) × (live_counted bit was ≤ c.dead)
bit_is_counted hs c cell bit was some counted told = go bit (get_or hs cell None) some (counts_include_this_header hs c cell (get_or hs cell None) (cell_with_header_is_listed hs cell some) refl counted) told
  where
    go : (bit : Bit) (x : Option Header) → IsSome x → AreMore c x → IfSome x (λ h. was ≡ header_bit bit h) → (mark_counted bit was ≤ c.unmarked) × (live_counted bit was ≤ c.dead)
    go bit None some more h = absurd (cc)
    go Live (Some o) some more h = (omega arith, omega (arith, more.dead, ap (λ b. one_if (not b)) h))
    go Mark (Some o) some more h = (omega (arith, more.unmarked, ap (λ b. one_if (not b)) h), omega arith)

-- the counts after a bit was written
pub bit_differs : (x : Option Header) (bit : Bit) (was on : Bool) (c d : Counts) → IsSome x → IfSome x (λ h. was ≡ header_bit bit h) → d.objects ≡ c.objects → d.unmarked + mark_counted bit was ≡ c.unmarked + mark_counted bit on → d.dead + live_counted bit was ≡ c.dead + live_counted bit on → Differ c d x (option_map (with_bit bit on) x)
bit_differs None bit was on c d some h objects unmarked dead = absurd (cc)
bit_differs (Some o) Live was on c d some h objects unmarked dead = record {
  objects = omega (arith, objects);
  unmarked = omega (arith, unmarked);
  dead = omega (arith, dead, ap (λ b. one_if (not b)) h);
}
bit_differs (Some o) Mark was on c d some h objects unmarked dead = record {
  objects = omega (arith, objects);
  unmarked = omega (arith, unmarked, ap (λ b. one_if (not b)) h);
  dead = omega (arith, dead);
}

-- ---- a turn

-- a count of all, where the cells are told one by one
mapped_headers_have_equal_counts : (p q : Option Header → Bool) (f : Header → Header) → p None ≡ q None → ((h : Header) → p (Some (f h)) ≡ q (Some h)) → (hs : List (Option Header)) → count_by p (map (option_map f) hs) ≡ count_by q hs
mapped_headers_have_equal_counts p q f none is [] = refl
mapped_headers_have_equal_counts p q f none is (x ∷ hs) =
    sum_by-cons (λ (x : Option Header). cond (p x) 1 0) (option_map f x) (map (option_map f) hs)
    ∙ (ap₂ (λ (b : Bool) (n : ℕ). cond b 1 0 + n) (go x) (mapped_headers_have_equal_counts p q f none is hs)
    ∙ sym (sum_by-cons (λ (x : Option Header). cond (q x) 1 0) x hs))
  where
    go : (x : Option Header) → p (option_map f x) ≡ q x
    go None = none
    go (Some h) = is h

-- those of which the test holds and those of which it doesn't are all
passing_and_failing_make_all : (p q : Option Header → Bool) → p None ≡ false → q None ≡ false → ((h : Header) → p (Some h) ≡ not (q (Some h))) → (hs : List (Option Header)) → count_by p hs + count_by q hs ≡ count_by is_some hs
passing_and_failing_make_all p q no_p no_q is [] = refl
passing_and_failing_make_all p q no_p no_q is (x ∷ hs) =
    let of_p = sum_by-cons (λ (x : Option Header). cond (p x) 1 0) x hs in
    let of_q = sum_by-cons (λ (x : Option Header). cond (q x) 1 0) x hs in
    let of_all = sum_by-cons (λ (x : Option Header). cond (is_some x) 1 0) x hs in
    omega (arith, of_p, of_q, of_all, passing_and_failing_make_all p q no_p no_q is hs, go x)
  where
    both : (b c : Bool) → b ≡ not c → one_if b + one_if c ≡ 1
    both true true e = cc
    both true false e = refl
    both false true e = refl
    both false false e = cc

    go : (x : Option Header) → one_if (p x) + one_if (q x) ≡ one_if (is_some x)
    go None = rw (no_p, no_q) refl
    go (Some h) = both (p (Some h)) (q (Some h)) (is h)

abbrev is_marked : Option Header → Bool
is_marked None = false
is_marked (Some h) = h.mark

not_not_is_itself : (b : Bool) → b ≡ not (not b)
not_not_is_itself true = refl
not_not_is_itself false = refl

pub dead_among : (hs : List (Option Header)) (c : Counts) → IsCounted hs c → c.dead ≤ c.objects
dead_among hs c is = omega (arith, is.dead, is.objects, passing_and_failing_make_all header_live header_dead refl refl (λ h. not_not_is_itself h.live) hs)

pub live_among : (hs : List (Option Header)) (c : Counts) → IsCounted hs c → count_by header_live hs + c.dead ≡ c.objects
live_among hs c is = omega (arith, is.dead, is.objects, passing_and_failing_make_all header_live header_dead refl refl (λ h. not_not_is_itself h.live) hs)

pub unmarked_among : (hs : List (Option Header)) (c : Counts) → IsCounted hs c → c.unmarked ≤ c.objects
unmarked_among hs c is = omega (arith, is.unmarked, is.objects, passing_and_failing_make_all is_marked header_unmarked refl refl (λ h. not_not_is_itself h.mark) hs)

pub counts_of_turned_headers : (hs : List (Option Header)) (c d : Counts) → IsCounted hs c → d.objects ≡ c.objects → d.unmarked + c.dead ≡ c.objects → d.dead ≡ c.unmarked → IsCounted (map (option_map turned_header) hs) d
counts_of_turned_headers hs c d is objects unmarked dead = record {
  objects = omega (arith, mapped_headers_have_equal_counts is_some is_some turned_header refl (λ h. refl) hs, objects, is.objects);
  unmarked = omega (arith, mapped_headers_have_equal_counts header_unmarked header_live turned_header refl (λ h. sym (not_not_is_itself h.live)) hs, passing_and_failing_make_all header_live header_dead refl refl (λ h. not_not_is_itself h.live) hs, unmarked, is.dead, is.objects);
  dead = omega (arith, mapped_headers_have_equal_counts header_dead header_unmarked turned_header refl (λ h. refl) hs, dead, is.unmarked);
  few = omega (arith, is.few, length-map hs (option_map turned_header));
}

pub counted_turned_back : (hs : List (Option Header)) (c d : Counts) → IsCounted hs c → d.objects ≡ c.objects → d.unmarked ≡ c.dead → d.dead + c.unmarked ≡ c.objects → IsCounted (map (option_map turned_back_header) hs) d
counted_turned_back hs c d is objects unmarked dead = record {
  objects = omega (arith, mapped_headers_have_equal_counts is_some is_some turned_back_header refl (λ h. refl) hs, objects, is.objects);
  unmarked = omega (arith, mapped_headers_have_equal_counts header_unmarked header_dead turned_back_header refl (λ h. refl) hs, unmarked, is.dead);
  dead = omega (arith, mapped_headers_have_equal_counts header_dead is_marked turned_back_header refl (λ h. sym (not_not_is_itself h.mark)) hs, passing_and_failing_make_all is_marked header_unmarked refl refl (λ h. not_not_is_itself h.mark) hs, dead, is.unmarked, is.objects);
  few = omega (arith, is.few, length-map hs (option_map turned_back_header));
}

-- ---- free cells

no_header_counted_in_blank : (q : Option Header → Bool) → q None ≡ false → (n : ℕ) → count_by q (replicate n None) ≡ 0
no_header_counted_in_blank q none zero = refl
no_header_counted_in_blank q none (suc n) =
    let first = sum_by-cons (λ (x : Option Header). cond (q x) 1 0) None (replicate n None) in
    omega (arith, first, ap one_if none, no_header_counted_in_blank q none n)

pub vacant_counted : (n : ℕ) (c : Counts) → IsCounted [] c → n ≤ 256 → IsCounted (replicate n None) c
vacant_counted n c is few = record {
  objects = is.objects ∙ sym (no_header_counted_in_blank is_some refl n);
  unmarked = is.unmarked ∙ sym (no_header_counted_in_blank header_unmarked refl n);
  dead = is.dead ∙ sym (no_header_counted_in_blank header_dead refl n);
  few = omega (arith, few, length-replicate {A = Option Header} n None);
}
