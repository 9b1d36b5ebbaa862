-- The table of what is kept: an item is added or written.
use Rattle.std.proofs.Common.{◌≡◌, ◌≢◌, ◌⊎◌, ℕ, zero, suc, Bool, true, false, ◌+◌, ◌<◌, ◌≤◌, List, [], ◌∷◌, ◌++◌, length, length-set, map, set, get_or, replicate, Option, Some, None, refl, sym, ap, subst, ◌∙◌, arith}
use mathlib.Core.Logic.{inl, inr}
use Rattle.std.specs.Prelude.{◌==◌, is_some, not, slice_get}
use Rattle.std.proofs.lemmas.Bool.{cases_lt, eqb-true}
use Rattle.std.proofs.lemmas.List.{ext_get_or, length-append, get_or-set_same, get_or-set_other, get_or_past, length-map, length-replicate, map-set, set-get_or}
use Rattle.std.proofs.Math.ListN.{get_or-map}
use Rattle.heap_region.proofs.References.{get_set_other}
use Rattle.heap_class.specs.declared.ObjRef.{ObjRef}
use Rattle.heap_region.specs.RegionCopies.{Frozen}
use Rattle.heap_region.proofs.ChangedLookups.{same_or_not}
use Rattle.heap_pins.specs.declared.kept.KeptRegion.{KeptRegion}
use Rattle.heap_pins.specs.KeptRegions.{IsRevivedTable, KeptContents, blank, byte_revived, nothing_kept}
use Rattle.heap_pins.specs.Pin.{byte_in}
use Rattle.heap_pins.specs.Slots.{AreRevived, AreSlots, IsItemRevived, IsSlotFor, IsTable, bytes_in, copy_in, count_used, item_at, item_bytes, item_copy}

-- ---- how many numbers are used

pub used_number_counts : (slots : List ℕ) (r x : ℕ) → r < length slots → get_or slots r 0 ≡ 0 → count_used (set slots r (suc x)) ≡ suc (count_used slots)
unfolding count_used
used_number_counts [] r x lt e = absurd (omega (arith, lt))
used_number_counts (zero ∷ slots) zero x lt e = refl
used_number_counts (suc y ∷ slots) zero x lt e = absurd (omega (arith, e))
used_number_counts (zero ∷ slots) (suc r) x lt e = used_number_counts slots r x (omega (arith, lt)) e
used_number_counts (suc y ∷ slots) (suc r) x lt e = ap suc (used_number_counts slots r x (omega (arith, lt)) e)

pub used_numbers_are_few : (slots : List ℕ) → count_used slots ≤ length slots
unfolding count_used
used_numbers_are_few [] = omega arith
used_numbers_are_few (zero ∷ slots) = omega (arith, used_numbers_are_few slots)
used_numbers_are_few (suc y ∷ slots) = omega (arith, used_numbers_are_few slots)

pub zeros_are_not_used : (n : ℕ) → count_used (replicate n 0) ≡ 0
unfolding count_used
zeros_are_not_used zero = refl
zeros_are_not_used (suc n) = zeros_are_not_used n

-- where a region has no item, there is room for one
pub free_number_leaves_room : (slots : List ℕ) (kept : List KeptRegion) (room r : ℕ) → AreSlots slots kept room → r < length slots → get_or slots r 0 ≡ 0 → length kept < room
free_number_leaves_room slots kept room r t lt e =
    omega (arith, used_number_counts slots r 0 lt e, used_numbers_are_few (set slots r (suc 0)), length-set slots r (suc 0), t.count, t.room)

-- and its number is small
pub free_number_is_small : (slots : List ℕ) (kept : List KeptRegion) (room r : ℕ) → AreSlots slots kept room → r < length slots → get_or slots r 0 ≡ 0 → length kept < 65536
free_number_is_small slots kept room r t lt e =
    omega (arith, used_number_counts slots r 0 lt e, used_numbers_are_few (set slots r (suc 0)), length-set slots r (suc 0), t.count, t.few)

-- ---- items

item_on_the_left : (kept more : List KeptRegion) (i : ℕ) → i < length kept → slice_get (kept ++ more) i ≡ slice_get kept i
item_on_the_left [] more i lt = absurd (omega (arith, lt))
item_on_the_left (k ∷ kept) more zero lt = refl
item_on_the_left (k ∷ kept) more (suc i) lt = item_on_the_left kept more i (omega (arith, lt))

old_item_stays : (kept : List KeptRegion) (k : KeptRegion) (s : ℕ) → s ≤ length kept → item_at (kept ++ k ∷ []) s ≡ item_at kept s
unfolding item_at
old_item_stays kept k zero le = refl
old_item_stays kept k (suc i) le = item_on_the_left kept (k ∷ []) i (omega (arith, le))

item_at_the_end : (kept : List KeptRegion) (k : KeptRegion) → slice_get (kept ++ k ∷ []) (length kept) ≡ Some k
item_at_the_end [] k = refl
item_at_the_end (x ∷ kept) k = item_at_the_end kept k

added_item_is_found : (kept : List KeptRegion) (k : KeptRegion) → item_at (kept ++ k ∷ []) (suc (length kept)) ≡ Some k
unfolding item_at
added_item_is_found kept k = item_at_the_end kept k

item_of_zero : (kept : List KeptRegion) → item_at kept 0 ≡ None
unfolding item_at
item_of_zero kept = refl

item_of_next : (kept : List KeptRegion) (i : ℕ) → item_at kept (suc i) ≡ slice_get kept i
unfolding item_at
item_of_next kept i = refl

item_set_there : (kept : List KeptRegion) (i : ℕ) (y : KeptRegion) → i < length kept → slice_get (set kept i y) i ≡ Some y
item_set_there [] i y lt = absurd (omega (arith, lt))
item_set_there (k ∷ kept) zero y lt = refl
item_set_there (k ∷ kept) (suc i) y lt = item_set_there kept i y (omega (arith, lt))

written_item_is_found : (kept : List KeptRegion) (i : ℕ) (y : KeptRegion) → i < length kept → item_at (set kept i y) (suc i) ≡ Some y
unfolding item_at
written_item_is_found kept i y lt = item_set_there kept i y lt

other_item_stays : (kept : List KeptRegion) (i : ℕ) (y : KeptRegion) (s : ℕ) → s ≢ suc i → item_at (set kept i y) s ≡ item_at kept s
unfolding item_at
other_item_stays kept i y zero ne = refl
other_item_stays kept i y (suc j) ne = get_set_other kept i j y (λ e. ne (ap suc e))

-- ---- what is seen through the numbers

-- g of each region's item
abbrev pub seen_by : {T : Type 0} → (Option KeptRegion → T) → List KeptRegion → List ℕ → List T
seen_by g kept slots = map (λ s. g (item_at kept s)) slots

pub item_of_region : {T : Type 0} (g : Option KeptRegion → T) (kept : List KeptRegion) (slots : List ℕ) (r : ℕ) → get_or (seen_by g kept slots) r (g None) ≡ g (item_at kept (get_or slots r 0))
item_of_region g kept slots r = ap (λ x. get_or (seen_by g kept slots) r (g x)) (sym (item_of_zero kept)) ∙ get_or-map (λ s. g (item_at kept s)) slots r 0

seen_are_same : {T : Type 0} (g : Option KeptRegion → T) (kept more : List KeptRegion) (slots others : List ℕ) → length slots ≡ length others → ((r : ℕ) → g (item_at kept (get_or slots r 0)) ≡ g (item_at more (get_or others r 0))) → seen_by g kept slots ≡ seen_by g more others
seen_are_same g kept more slots others same each = ext_get_or (g None) (seen_by g kept slots) (seen_by g more others)
    (length-map slots (λ s. g (item_at kept s)) ∙ same ∙ sym (length-map others (λ s. g (item_at more s))))
    (λ r lt. item_of_region g kept slots r ∙ each r ∙ sym (item_of_region g more others r))

-- ---- an item is added

module _ (slots : List ℕ) (kept : List KeptRegion) (room r : ℕ) (k : KeptRegion) (t : AreSlots slots kept room) (lt : r < length slots) (e : get_or slots r 0 ≡ 0) where
  abbrev pub added : List ℕ
  added = set slots r (length kept + 1)

  number_there : (q : ℕ) → q ≡ r → get_or added q 0 ≡ length kept + 1
  number_there q same = ap (λ j. get_or added j 0) same ∙ get_or-set_same slots r (length kept + 1) 0 lt

  number_elsewhere : (q : ℕ) → q ≢ r → get_or added q 0 ≡ get_or slots q 0
  number_elsewhere q ne = get_or-set_other slots r q (length kept + 1) 0 ne

  one_more : length (kept ++ k ∷ []) ≡ length kept + 1
  one_more = length-append kept (k ∷ [])

  pub added_slots_are_slots : AreSlots added (kept ++ k ∷ []) room
  added_slots_are_slots = record {
    few = omega (arith, length-set slots r (length kept + 1), t.few);
    room = omega (arith, length-set slots r (length kept + 1), t.room);
    count = one_more ∙ (let z : length kept + 1 ≡ suc (length kept) = omega arith in z) ∙ ap suc t.count ∙ sym (used_number_counts slots r (length kept) lt e)
        ∙ ap (λ n. count_used (set slots r n)) (let z : suc (length kept) ≡ length kept + 1 = omega arith in z);
    within = λ q. elim (same_or_not q r) [
      | inl s ↦ omega (arith, number_there q s, one_more)
      | inr ne ↦ omega (arith, number_elsewhere q ne, one_more, t.within q)
    ];
    apart = λ p q same. go p q same (same_or_not p r) (same_or_not q r);
  }
    where
      left : (p q : ℕ) → q ≢ r → (get_or slots q 0 ≡ 0) ⊎ (p ≡ q) → (get_or added q 0 ≡ 0) ⊎ (p ≡ q)
      left p q ne (inl z) = inl (number_elsewhere q ne ∙ z)
      left p q ne (inr s) = inr s

      go : (p q : ℕ) → get_or added p 0 ≡ get_or added q 0 → (p ≡ r) ⊎ (p ≢ r) → (q ≡ r) ⊎ (q ≢ r) → (get_or added q 0 ≡ 0) ⊎ (p ≡ q)
      go p q same (inl a) (inl b) = inr (a ∙ sym b)
      go p q same (inl a) (inr nb) = absurd (omega (arith, same, number_there p a, number_elsewhere q nb, t.within q))
      go p q same (inr na) (inl b) = absurd (omega (arith, same, number_there q b, number_elsewhere p na, t.within p))
      go p q same (inr na) (inr nb) = left p q nb (t.apart p q (sym (number_elsewhere p na) ∙ same ∙ number_elsewhere q nb))

  pub added_item_shows_nothing : {T : Type 0} (g : Option KeptRegion → T) → g (Some k) ≡ g None → seen_by g (kept ++ k ∷ []) added ≡ seen_by g kept slots
  added_item_shows_nothing g nothing = seen_are_same g (kept ++ k ∷ []) kept added slots (length-set slots r (length kept + 1)) (λ q. elim (same_or_not q r) [
    | inl s ↦ ap (λ n. g (item_at (kept ++ k ∷ []) n)) (number_there q s ∙ (let z : length kept + 1 ≡ suc (length kept) = omega arith in z))
        ∙ ap g (added_item_is_found kept k) ∙ nothing ∙ sym (ap g (ap (item_at kept) (ap (λ j. get_or slots j 0) s ∙ e) ∙ item_of_zero kept))
    | inr ne ↦ ap (λ n. g (item_at (kept ++ k ∷ []) n)) (number_elsewhere q ne) ∙ ap g (old_item_stays kept k (get_or slots q 0) (t.within q))
  ])

-- the number of a region without an item leads to a new one then, in which nothing is
pub item_is_added : (slots : List ℕ) (kept : List KeptRegion) (room r : ℕ) (k : KeptRegion) → AreSlots slots kept room → r < length slots → get_or slots r 0 ≡ 0 → k.copy ≡ None → k.cells ≡ blank
    → IsSlotFor slots kept (set slots r (length kept + 1)) (kept ++ k ∷ []) r (length kept)
item_is_added slots kept room r k t lt e none zeros = record {
  slot = get_or-set_same slots r (length kept + 1) 0 lt ∙ (let z : length kept + 1 ≡ suc (length kept) = omega arith in z);
  within = omega (arith, length-append kept (k ∷ []));
  count = length-set slots r (length kept + 1);
  copies = added_item_shows_nothing slots kept room r k t lt e item_copy none;
  cells = added_item_shows_nothing slots kept room r k t lt e item_bytes zeros;
}

-- a region's item was there
pub item_was_there : (slots : List ℕ) (kept : List KeptRegion) (room r i : ℕ) → AreSlots slots kept room → get_or slots r 0 ≡ suc i → IsSlotFor slots kept slots kept r i
item_was_there slots kept room r i t e = record { slot = e; within = omega (arith, t.within r, e); count = refl; copies = refl; cells = refl }

-- ---- an item is written

pub written_slots_are_slots : (slots : List ℕ) (kept : List KeptRegion) (room i : ℕ) (y : KeptRegion) → AreSlots slots kept room → AreSlots slots (set kept i y) room
written_slots_are_slots slots kept room i y t = record {
  few = t.few;
  room = t.room;
  count = length-set kept i y ∙ t.count;
  within = λ q. omega (arith, t.within q, length-set kept i y);
  apart = t.apart;
}

pub written_item_is_seen : {T : Type 0} (g : Option KeptRegion → T) (slots : List ℕ) (kept : List KeptRegion) (room r i : ℕ) (y : KeptRegion) → AreSlots slots kept room → r < length slots → get_or slots r 0 ≡ suc i → i < length kept
    → seen_by g (set kept i y) slots ≡ set (seen_by g kept slots) r (g (Some y))
written_item_is_seen g slots kept room r i y t lt e there = ext_get_or (g None) (seen_by g (set kept i y) slots) (set (seen_by g kept slots) r (g (Some y)))
    (length-map slots (λ s. g (item_at (set kept i y) s)) ∙ sym (length-set (seen_by g kept slots) r (g (Some y)) ∙ length-map slots (λ s. g (item_at kept s))))
    (λ q less. item_of_region g (set kept i y) slots q ∙ go q (same_or_not q r))
  where
    go : (q : ℕ) → (q ≡ r) ⊎ (q ≢ r) → g (item_at (set kept i y) (get_or slots q 0)) ≡ get_or (set (seen_by g kept slots) r (g (Some y))) q (g None)
    go q (inl s) = ap (λ n. g (item_at (set kept i y) n)) (ap (λ j. get_or slots j 0) s ∙ e) ∙ ap g (written_item_is_found kept i y there)
        ∙ sym (ap (λ j. get_or (set (seen_by g kept slots) r (g (Some y))) j (g None)) s ∙ get_or-set_same (seen_by g kept slots) r (g (Some y)) (g None) (omega (arith, lt, length-map slots (λ s. g (item_at kept s)))))
    go q (inr ne) = ap g (other_item_stays kept i y (get_or slots q 0) (λ same. elsewhere (t.apart q r (same ∙ sym e))))
        ∙ sym (get_or-set_other (seen_by g kept slots) r q (g (Some y)) (g None) ne ∙ item_of_region g kept slots q)
      where
        elsewhere : (get_or slots r 0 ≡ 0) ⊎ (q ≡ r) → ⊥
        elsewhere (inl z) = omega (arith, z, e)
        elsewhere (inr s) = ne s

-- where what is seen of the item stays, all that is seen stays
pub unseen_change_shows_nothing : {T : Type 0} (g : Option KeptRegion → T) (slots : List ℕ) (kept : List KeptRegion) (room r i : ℕ) (y x : KeptRegion) → AreSlots slots kept room → r < length slots → get_or slots r 0 ≡ suc i → i < length kept → slice_get kept i ≡ Some x
    → g (Some y) ≡ g (Some x) → seen_by g (set kept i y) slots ≡ seen_by g kept slots
unseen_change_shows_nothing g slots kept room r i y x t lt e there is same =
    written_item_is_seen g slots kept room r i y t lt e there
    ∙ ap (set (seen_by g kept slots) r) (same ∙ sym (item_of_region g kept slots r ∙ ap (λ n. g (item_at kept n)) e ∙ ap g (item_of_next kept i ∙ is)))
    ∙ set-get_or (seen_by g kept slots) r (g None)

-- ---- the start

pub zero_in_zeros : (n c : ℕ) → get_or {A = ℕ} (replicate n 0) c 0 ≡ 0
zero_in_zeros zero c = refl
zero_in_zeros (suc n) zero = refl
zero_in_zeros (suc n) (suc c) = zero_in_zeros n c

pub no_slots_are_slots : (n room : ℕ) → n ≤ 65536 → n ≤ room → AreSlots (replicate n 0) [] room
no_slots_are_slots n room few fits = record {
  few = omega (arith, few, length-replicate {A = ℕ} n 0);
  room = omega (arith, fits, length-replicate {A = ℕ} n 0);
  count = sym (zeros_are_not_used n);
  within = λ r. omega (arith, zero_in_zeros n r);
  apart = λ q r same. inl (zero_in_zeros n r);
}

seen_in_nothing : {T : Type 0} (g : Option KeptRegion → T) (n : ℕ) → seen_by g [] (replicate n 0) ≡ replicate n (g None)
unfolding item_at
seen_in_nothing g zero = refl
seen_in_nothing g (suc n) = ap (λ l. g None ∷ l) (seen_in_nothing g n)

pub nothing_is_kept_at_first : (n : ℕ) → record { copies = map (copy_in []) (replicate n 0); cells = map (bytes_in []) (replicate n 0) } ≡ nothing_kept n
nothing_is_kept_at_first n = λ i. record { copies = seen_in_nothing item_copy n i; cells = seen_in_nothing item_bytes n i }

-- ---- all objects are made live

revived_item : (kept more : List KeptRegion) (s : ℕ) → AreRevived kept more → IsItemRevived (item_at kept s) (item_at more s)
unfolding item_at
revived_item kept more zero h = record { copy = refl; count = refl; bytes = λ c. refl }
revived_item kept more (suc i) h = h.each i

pub bytes_of_region : (kept : List KeptRegion) (slots : List ℕ) (r : ℕ) → r < length slots → get_or (map (bytes_in kept) slots) r [] ≡ bytes_in kept (get_or slots r 0)
bytes_of_region kept slots r lt = any_default (map (bytes_in kept) slots) r [] blank (omega (arith, lt, length-map slots (bytes_in kept))) ∙ item_of_region item_bytes kept slots r
  where
    any_default : (xs : List (List ℕ)) (i : ℕ) (x y : List ℕ) → i < length xs → get_or xs i x ≡ get_or xs i y
    any_default [] i x y lt = absurd (omega (arith, lt))
    any_default (z ∷ xs) zero x y lt = refl
    any_default (z ∷ xs) (suc i) x y lt = any_default xs i x y (omega (arith, lt))

no_bytes_past_the_list : (kept : List KeptRegion) (slots : List ℕ) (r : ℕ) → length slots ≤ r → get_or (map (bytes_in kept) slots) r [] ≡ []
no_bytes_past_the_list kept slots r le = get_or_past (map (bytes_in kept) slots) r [] (omega (arith, le, length-map slots (bytes_in kept)))

-- ---- what is kept of one region

abbrev pub contents_of : List KeptRegion → List ℕ → KeptContents
contents_of kept slots = record { copies = map (copy_in kept) slots; cells = map (bytes_in kept) slots }

-- a number is 0 if it isn't other than 0
pub zero_by_flag : (n : ℕ) → not (n == 0) ≡ false → n ≡ 0
zero_by_flag n is = go (n == 0) refl is
  where
    go : (b : Bool) → (n == 0) ≡ b → not b ≡ false → n ≡ 0
    go true e h = eqb-true n 0 e
    go false e h = cc

-- a region without an item
pub nothing_is_kept_of_region : (kept : List KeptRegion) (slots : List ℕ) (r : ℕ) → r < length slots → get_or slots r 0 ≡ 0 → (get_or (map (copy_in kept) slots) r None ≡ None) × (get_or (map (bytes_in kept) slots) r [] ≡ blank)
nothing_is_kept_of_region kept slots r lt e = (
  item_of_region item_copy kept slots r ∙ ap item_copy (ap (item_at kept) e ∙ item_of_zero kept),
  bytes_of_region kept slots r lt ∙ ap item_bytes (ap (item_at kept) e ∙ item_of_zero kept),
)

-- a region with one
pub item_is_kept_of_region : (kept : List KeptRegion) (slots : List ℕ) (r i : ℕ) (x : KeptRegion) → r < length slots → get_or slots r 0 ≡ suc i → slice_get kept i ≡ Some x → (get_or (map (copy_in kept) slots) r None ≡ x.copy) × (get_or (map (bytes_in kept) slots) r [] ≡ x.cells)
item_is_kept_of_region kept slots r i x lt e is = (
  item_of_region item_copy kept slots r ∙ ap item_copy (ap (item_at kept) e ∙ item_of_next kept i ∙ is),
  bytes_of_region kept slots r lt ∙ ap item_bytes (ap (item_at kept) e ∙ item_of_next kept i ∙ is),
)

-- an item is written
pub item_is_written : (old : List ℕ) (before : List KeptRegion) (slots : List ℕ) (kept : List KeptRegion) (room r i : ℕ) (y : KeptRegion) → AreSlots slots kept room → r < length slots → IsSlotFor old before slots kept r i
    → contents_of (set kept i y) slots ≡ record { copies = set (map (copy_in before) old) r y.copy; cells = set (map (bytes_in before) old) r y.cells }
item_is_written old before slots kept room r i y t lt s = λ j. record {
  copies = (written_item_is_seen item_copy slots kept room r i y t lt s.slot s.within ∙ ap (λ l. set l r y.copy) s.copies) j;
  cells = (written_item_is_seen item_bytes slots kept room r i y t lt s.slot s.within ∙ ap (λ l. set l r y.cells) s.cells) j;
}

-- its copy stays
pub same_copy_is_written : (copies : List (Option Frozen)) (r : ℕ) (c : Option Frozen) → get_or copies r None ≡ c → set copies r c ≡ copies
same_copy_is_written copies r c e = ap (set copies r) (sym e) ∙ set-get_or copies r None

-- its bytes stay
pub same_bytes_are_written : (cells : List (List ℕ)) (r : ℕ) (bytes : List ℕ) → get_or cells r [] ≡ bytes → set cells r bytes ≡ cells
same_bytes_are_written cells r bytes e = ap (set cells r) (sym e) ∙ set-get_or cells r []

-- all objects of the regions with a copy are live
pub revived_items_are_seen : (kept more : List KeptRegion) (slots : List ℕ) → AreRevived kept more → IsRevivedTable (contents_of kept slots) (contents_of more slots)
revived_items_are_seen kept more slots h = record {
  copies = seen_are_same item_copy more kept slots slots refl (λ r. (revived_item kept more (get_or slots r 0) h).copy);
  count = length-map slots (bytes_in more) ∙ sym (length-map slots (bytes_in kept));
  sizes = λ r. sizes r (cases_lt r (length slots));
  bytes = λ at. bytes at (cases_lt at.region (length slots));
}
  where
    sizes : (r : ℕ) → (r < length slots) ⊎ (length slots ≤ r) → length (get_or (map (bytes_in more) slots) r []) ≡ length (get_or (map (bytes_in kept) slots) r [])
    sizes r (inl lt) = ap length (bytes_of_region more slots r lt) ∙ (revived_item kept more (get_or slots r 0) h).count ∙ sym (ap length (bytes_of_region kept slots r lt))
    sizes r (inr past) = ap length (no_bytes_past_the_list more slots r past ∙ sym (no_bytes_past_the_list kept slots r past))

    no_copy_past : (r : ℕ) → length slots ≤ r → get_or (map (copy_in kept) slots) r None ≡ None
    no_copy_past r past = get_or_past (map (copy_in kept) slots) r None (omega (arith, past, length-map slots (copy_in kept)))

    bytes : (at : ObjRef) → (at.region < length slots) ⊎ (length slots ≤ at.region)
        → byte_in (map (bytes_in more) slots) at ≡ byte_revived (get_or (map (copy_in kept) slots) at.region None) (byte_in (map (bytes_in kept) slots) at)
    bytes at (inl lt) =
        ap (λ l. get_or l at.cell 0) (bytes_of_region more slots at.region lt)
        ∙ (revived_item kept more (get_or slots at.region 0) h).bytes at.cell
        ∙ (λ j. byte_revived (sym (item_of_region item_copy kept slots at.region) j) (get_or (sym (bytes_of_region kept slots at.region lt) j) at.cell 0))
    bytes at (inr past) =
        ap (λ l. get_or l at.cell 0) (no_bytes_past_the_list more slots at.region past ∙ sym (no_bytes_past_the_list kept slots at.region past))
        ∙ ap (λ c. byte_revived c (byte_in (map (bytes_in kept) slots) at)) (sym (no_copy_past at.region past))

-- ---- the items, one by one

pub item_stays_unrevived : (x : Option KeptRegion) → item_copy x ≡ None → IsItemRevived x x
item_stays_unrevived x none = record { copy = refl; count = refl; bytes = λ c. ap (λ z. byte_revived z (get_or (item_bytes x) c 0)) (sym none) }

-- an item that is read
pub item_is_read : (kept : List KeptRegion) (i : ℕ) (x : KeptRegion) → i < length kept → x ≡ get_or kept i x → slice_get kept i ≡ Some x
item_is_read [] i x lt e = absurd (omega (arith, lt))
item_is_read (k ∷ kept) zero x lt e = ap Some (sym e)
item_is_read (k ∷ kept) (suc i) x lt e = item_is_read kept i x (omega (arith, lt)) e

-- the first i items are revived, and the others are as they were
pub record AreRevivedUpTo (old kept : List KeptRegion) (i : ℕ) : Type 0 where
  pub count : length kept ≡ length old
  pub done : (j : ℕ) → j < i → IsItemRevived (slice_get old j) (slice_get kept j)
  pub others : (j : ℕ) → i ≤ j → slice_get kept j ≡ slice_get old j

pub next_item_is_revived : (old kept : List KeptRegion) (i : ℕ) (x y : KeptRegion) → i < length kept → x ≡ get_or kept i x → IsItemRevived (Some x) (Some y) → length kept ≡ length old → ((j : ℕ) → j < i → IsItemRevived (slice_get old j) (slice_get kept j)) → ((j : ℕ) → i ≤ j → slice_get kept j ≡ slice_get old j)
    → AreRevivedUpTo old (set kept i y) (i + 1)
next_item_is_revived old kept i x y lt e h count done others = record {
  count = length-set kept i y ∙ count;
  done = λ j less. elim (same_or_not j i) [
    | inl same ↦ subst (λ k. IsItemRevived (slice_get old k) (slice_get (set kept i y) k)) (sym same)
        (subst (λ z. IsItemRevived z (slice_get (set kept i y) i)) (sym (item_is_read kept i x lt e) ∙ others i (omega arith)) (subst (IsItemRevived (Some x)) (sym (item_set_there kept i y lt)) h))
    | inr ne ↦ subst (IsItemRevived (slice_get old j)) (sym (get_set_other kept i j y ne)) (done j (omega (arith, less, ne)))
  ];
  others = λ j more. get_set_other kept i j y (λ q. omega (arith, more, q)) ∙ others j (omega (arith, more));
}

pub all_items_are_revived : (old kept : List KeptRegion) (i : ℕ) → length kept ≤ i → length kept ≡ length old → ((j : ℕ) → j < i → IsItemRevived (slice_get old j) (slice_get kept j)) → AreRevived old kept
all_items_are_revived old kept i le count done = record {
  count = count;
  each = λ j. elim (cases_lt j i) [
    | inl lt ↦ done j lt
    | inr past ↦ subst (λ z. IsItemRevived z (slice_get kept j)) (sym (no_item_past old j (omega (arith, past, le, count)))) (subst (IsItemRevived None) (sym (no_item_past kept j (omega (arith, past, le)))) (record { copy = refl; count = refl; bytes = λ c. refl }))
  ];
}
  where
    no_item_past : (items : List KeptRegion) (j : ℕ) → length items ≤ j → slice_get items j ≡ None
    no_item_past [] j le = refl
    no_item_past (k ∷ items) zero le = absurd (omega (arith, le))
    no_item_past (k ∷ items) (suc j) le = no_item_past items j (omega (arith, le))

-- ---- the flags

pub flags_are_as_many : (copied : List Bool) (slots : List ℕ) (kept : List KeptRegion) (room : ℕ) → IsTable copied slots kept room → length copied ≡ length slots
flags_are_as_many copied slots kept room t = ap length t.flags ∙ length-map (map (copy_in kept) slots) is_some ∙ length-map slots (copy_in kept)

pub flag_tells : (copied : List Bool) (slots : List ℕ) (kept : List KeptRegion) (room r : ℕ) → IsTable copied slots kept room → get_or copied r false ≡ is_some (get_or (map (copy_in kept) slots) r None)
flag_tells copied slots kept room r t = ap (λ l. get_or l r false) t.flags ∙ get_or-map is_some (map (copy_in kept) slots) r None

pub flag_is_set : (copied : List Bool) (copies : List (Option Frozen)) (r : ℕ) (c : Option Frozen) → copied ≡ map is_some copies → set copied r (is_some c) ≡ map is_some (set copies r c)
flag_is_set copied copies r c is = ap (λ l. set l r (is_some c)) is ∙ sym (map-set is_some copies r c)

-- nothing is flagged at first
pub no_flags_at_first : (n : ℕ) → replicate n false ≡ map is_some (map (copy_in []) (replicate n 0))
no_flags_at_first n = sym (ap (map is_some) (seen_in_nothing item_copy n) ∙ none_are_flagged n)
  where
    none_are_flagged : (n : ℕ) → map is_some (replicate {A = Option Frozen} n None) ≡ replicate n false
    none_are_flagged zero = refl
    none_are_flagged (suc n) = ap (λ l. false ∷ l) (none_are_flagged n)

-- an item is written, and its copy stays
pub written_table_is_table : (copied : List Bool) (old : List ℕ) (before : List KeptRegion) (slots : List ℕ) (kept : List KeptRegion) (room r i : ℕ) (y : KeptRegion) → copied ≡ map is_some (map (copy_in before) old) → AreSlots slots kept room → r < length slots → IsSlotFor old before slots kept r i
    → get_or (map (copy_in before) old) r None ≡ y.copy → IsTable copied slots (set kept i y) room
written_table_is_table copied old before slots kept room r i y is t lt s same = record {
  table = written_slots_are_slots slots kept room i y t;
  flags = is ∙ sym (ap (map is_some) (ap (λ (k : KeptContents). k.copies) (item_is_written old before slots kept room r i y t lt s) ∙ same_copy_is_written (map (copy_in before) old) r y.copy same));
}

-- an item is written, and the region's flag
pub flagged_table_is_table : (copied : List Bool) (old : List ℕ) (before : List KeptRegion) (slots : List ℕ) (kept : List KeptRegion) (room r i : ℕ) (y : KeptRegion) (b : Bool) → copied ≡ map is_some (map (copy_in before) old) → AreSlots slots kept room → r < length slots → IsSlotFor old before slots kept r i
    → is_some y.copy ≡ b → IsTable (set copied r b) slots (set kept i y) room
flagged_table_is_table copied old before slots kept room r i y b is t lt s same = record {
  table = written_slots_are_slots slots kept room i y t;
  flags = ap (set copied r) (sym same) ∙ flag_is_set copied (map (copy_in before) old) r y.copy is ∙ sym (ap (map is_some) (ap (λ (k : KeptContents). k.copies) (item_is_written old before slots kept room r i y t lt s)));
}

-- all objects of the regions with a copy are live
pub revived_table_is_table : (copied : List Bool) (slots : List ℕ) (kept more : List KeptRegion) (room : ℕ) → IsTable copied slots kept room → AreRevived kept more → IsTable copied slots more room
revived_table_is_table copied slots kept more room t h = record {
  table = record {
    few = t.table.few;
    room = t.table.room;
    count = h.count ∙ t.table.count;
    within = λ q. omega (arith, t.table.within q, h.count);
    apart = t.table.apart;
  };
  flags = t.flags ∙ ap (map is_some) (sym (revived_items_are_seen kept more slots h).copies);
}
