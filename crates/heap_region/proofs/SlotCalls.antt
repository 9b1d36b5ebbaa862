-- What a call that changes one region leaves of the tables, where the regions are told as a list.
use Rattle.std.proofs.Common.{◌≡◌, ◌≢◌, ℕ, zero, suc, ◌+◌, ◌<◌, Bool, true, false, not, List, length, [], ◌∷◌, map, Option, Some, None, is_none, IsSome, IfSome, IsSomeAnd, option_map, get_or, set, refl, sym, ap, subst, ◌∙◌, get_or-set_same, arith, ◌≤◌, length-set}
use Rattle.std.specs.Prelude.{is_some, slice_get}
use Rattle.heap_class.specs.declared.ObjRef.{ObjRef}
use Rattle.heap_region.specs.Regions.{Object, UsedRegion, FitsWords, cell_object, slot_object, used_at, object_at, with_object}
use Rattle.heap_region.specs.Changes.{with_pending}
use Rattle.heap_region.specs.Pool.{RegionPool, taken, freed, cell_freed}
use Rattle.heap_region.specs.Layout.{Heads, IsWholeRegion, bit_of, bit_set, changed_at, cell_filled, header_of, is_vacant, pending_set, word_set}
use Rattle.heap_region.specs.Slots.{AreCounted, AreTotals}
use Rattle.heap_region.specs.Table.{AreWaiting, IsGood, first_in, free_class_of, shown_region, wait_class_of, IsRegionTable}
use Rattle.heap_region.specs.TurnedHeaders.{header_dead, header_unmarked, live_counted, mark_counted, one_if}
use Rattle.heap_region.specs.declared.cell.Bit.{Bit}
use Rattle.heap_region.specs.declared.cell.Bit.TheVariants.{Live, Mark}
use Rattle.heap_region.specs.declared.cell.Header.{Header}
use Rattle.heap_region.specs.declared.counts.Counts.{Counts}
use Rattle.heap_region.proofs.CellChanges.{heads_listed}
use Rattle.heap_region.proofs.ShownRegions.{object_shown, seen, used_region_is_slot}
use Rattle.heap_region.proofs.Sound.{vacant_within}
use Rattle.heap_region.proofs.SlotChanges.{object_changed, object_freed, object_taken, pending_changed, slot_of_object}
use Rattle.heap_region.proofs.Tables.{in_use_within, slot_with_property_is_used}
use Rattle.heap_region.proofs.Totals.{AreMoreObjects, AreMoreTotals, DifferBy, DifferIn, differ_in_cell, object_is_counted, region_is_counted, totals_after_set, totals_are_few}
use Rattle.heap_region.proofs.WaitingRegions.{waiting_classes_after_slot_set, waiting_classes_of_changed_region}

read_again : {X : Type 0} (slots : List (Option X)) (r : ℕ) → get_or slots r None ≡ get_or slots r (get_or slots r None)
read_again [] r = refl
read_again (x ∷ slots) zero = refl
read_again (x ∷ slots) (suc r) = read_again slots r

-- a region that was written
pub region_written : (slots after : List (Option UsedRegion)) (r : ℕ) (x : Option UsedRegion) → after ≡ set slots r x → r < length slots → get_or after r None ≡ x
region_written slots after r x is lt = ap (λ (l : List (Option UsedRegion)). get_or l r None) is ∙ get_or-set_same slots r x None lt

-- whether regions wait
pub waits_of_changed : (slots : List (Option UsedRegion)) (waits : List ℕ) (r : ℕ) (f : UsedRegion → UsedRegion) → ((u : UsedRegion) → (f u).pending ≡ u.pending) → AreWaiting slots waits → IsSome (get_or slots r None) → (after : List (Option UsedRegion)) → after ≡ set slots r (option_map f (get_or slots r None)) → AreWaiting after waits
waits_of_changed slots waits r f keeps e some after is =
    subst (λ l. AreWaiting l waits) (sym is) (waiting_classes_of_changed_region slots waits r f keeps e some _ _ (read_again slots r) refl)

-- how many objects there are
pub totals_of_changed : (slots : List (Option UsedRegion)) (c d : Counts) (r cell : ℕ) (f : UsedRegion → UsedRegion) (new : UsedRegion → Option Object) → ((u : UsedRegion) → (f u).cells ≡ set u.cells cell (new u)) → AreTotals slots c → IsSome (get_or slots r None)
    → ((u : UsedRegion) → get_or slots r None ≡ Some u → (cell < length u.cells) × DifferIn c d (cell_object u cell) (new u)) → (after : List (Option UsedRegion)) → after ≡ set slots r (option_map f (get_or slots r None)) → AreTotals after d
totals_of_changed slots c d r cell f new cells totals some differ after is =
    subst (λ l. AreTotals l d) (sym is) (totals_after_set slots c d r (option_map f (get_or slots r None)) (in_use_within slots r some) totals (go (get_or slots r None) refl some))
  where
    go : (x : Option UsedRegion) → get_or slots r None ≡ x → IsSome x → DifferBy c d x (option_map f x)
    go None e some = absurd (cc)
    go (Some u) e some = differ_in_cell c d u (f u) cell (new u) (differ u e).0 (cells u) (differ u e).1

module _ (slots : List (Option UsedRegion)) (free_classes pool : List ℕ) (capacity start : ℕ) (table : IsRegionTable slots free_classes pool capacity start) (s : RegionPool) (view : seen slots pool start ≡ s) where
  pub object_changed_in : (at : ObjRef) (f : Object → Object) → IsSome (object_at s.regions at) → (after : List (Option UsedRegion)) → after ≡ set slots at.region (option_map (λ u. changed_at u at.cell f) (get_or slots at.region None)) → IfSome (get_or after at.region None) (λ u. IsWholeRegion u) → IsRegionTable after free_classes pool capacity start × (seen after pool start ≡ record s { regions = with_object at f s.regions })
  object_changed_in at f there after is whole =
      let slot = slot_of_object slots at (rw (← view) at there) in
      let new : Option UsedRegion = option_map (λ u. changed_at u at.cell f) (get_or slots at.region None) in
      let written = region_written slots after at.region new is slot.2 in
      let done = object_changed slots free_classes pool capacity start table s view at f there _ new (read_again slots at.region) refl (subst (λ x. IfSome x (λ u. IsWholeRegion u)) written whole) in
      (subst (λ l. IsRegionTable l free_classes pool capacity start) (sym is) done.0, ap (λ l. seen l pool start) is ∙ done.1)

  pub pending_changed_in : (r : ℕ) (pending : Bool) → IsSome (used_at s.regions r) → (after : List (Option UsedRegion)) → after ≡ set slots r (option_map (pending_set pending) (get_or slots r None)) → IsRegionTable after free_classes pool capacity start × (seen after pool start ≡ record s { regions = with_pending pending r s.regions })
  pending_changed_in r pending some after is =
      let done = pending_changed slots free_classes pool capacity start table s view r pending some _ _ (read_again slots r) refl in
      (subst (λ l. IsRegionTable l free_classes pool capacity start) (sym is) done.0, ap (λ l. seen l pool start) is ∙ done.1)

  pub object_taken_in : (at : ObjRef) (o : Object) (n : ℕ) → IsSomeAnd (used_at s.regions at.region) (λ u. (slice_get u.free 0 ≡ Some at.cell) × FitsWords u.cell_size n) → (after : List (Option UsedRegion)) → after ≡ set slots at.region (option_map (λ u. cell_filled u at.cell o) (get_or slots at.region None)) → IfSome (get_or after at.region None) (λ u. IsWholeRegion u) → (full : Bool) → full ≡ is_none (first_in (get_or after at.region None))
      → (full ≡ true → IsRegionTable after (set free_classes at.region 0) pool capacity start) × (full ≡ false → IsRegionTable after free_classes pool capacity start) × (seen after pool start ≡ taken at o s)
  object_taken_in at o n ready after is whole full tells =
      let used = slot_with_property_is_used _ _ (rw (← view, used_region_is_slot slots at.region) at ready) in
      let new : Option UsedRegion = option_map (λ u. cell_filled u at.cell o) (get_or slots at.region None) in
      let written = region_written slots after at.region new is (in_use_within slots at.region used) in
      let done = object_taken slots free_classes pool capacity start table s view at o n ready _ new (read_again slots at.region) refl (subst (λ x. IfSome x (λ u. IsWholeRegion u)) written whole) full (tells ∙ ap (λ x. is_none (first_in x)) written) in (
        (λ yes. subst (λ l. IsRegionTable l (set free_classes at.region 0) pool capacity start) (sym is) (done.0 yes)),
        (λ no. subst (λ l. IsRegionTable l free_classes pool capacity start) (sym is) (done.1 no)),
        ap (λ l. seen l pool start) is ∙ done.2,
      )

  pub object_freed_in : (at b : ObjRef) → IsSome (object_at s.regions at) → b.region ≡ at.region → b ≢ at → IsSome (object_at s.regions b) → (after : List (Option UsedRegion)) → after ≡ set slots at.region (option_map (λ u. cell_freed u at.cell) (get_or slots at.region None)) → IfSome (get_or after at.region None) (λ u. IsWholeRegion u) → (full : Bool) → full ≡ is_none (first_in (get_or slots at.region None))
      → IsRegionTable after (set free_classes at.region (free_class_of (get_or after at.region None))) pool capacity start × (full ≡ false → IsRegionTable after free_classes pool capacity start) × (seen after pool start ≡ freed at s)
  object_freed_in at b there beside other stays after is whole full tells =
      let slot = slot_of_object slots at (rw (← view) at there) in
      let new : Option UsedRegion = option_map (λ u. cell_freed u at.cell) (get_or slots at.region None) in
      let written = region_written slots after at.region new is slot.2 in
      let done = object_freed slots free_classes pool capacity start table s view at b there beside other stays _ new (read_again slots at.region) refl (subst (λ x. IfSome x (λ u. IsWholeRegion u)) written whole) full tells in (
        subst (λ l. IsRegionTable l (set free_classes at.region (free_class_of (get_or l at.region None))) pool capacity start) (sym is) (done.0 _ (read_again (set slots at.region new) at.region)),
        (λ no. subst (λ l. IsRegionTable l free_classes pool capacity start) (sym is) (done.1 no)),
        ap (λ l. seen l pool start) is ∙ done.2,
      )

-- ---- how many objects there are, by call

no_word_counts : (c : Counts) (x : Option Object) (f : Object → Object) → ((o : Object) → (f o).live ≡ o.live) → ((o : Object) → (f o).mark ≡ o.mark) → DifferIn c c x (option_map f x)
no_word_counts c None f live mark = record { objects = refl; unmarked = refl; dead = refl }
no_word_counts c (Some o) f live mark = rw (live o, mark o) (record { objects = refl; unmarked = refl; dead = refl })

cell_within : (u : UsedRegion) (cell : ℕ) → IsSome (cell_object u cell) → cell < length u.cells
cell_within u cell some = in_use_within u.cells cell some

-- the object of a region that is told
object_told : (slots : List (Option UsedRegion)) (at : ObjRef) → IsSome (object_at (map shown_region slots) at) → (u : UsedRegion) → get_or slots at.region None ≡ Some u → IsSome (cell_object u at.cell)
object_told slots at there u is = subst (λ x. IsSome (slot_object x at.cell)) is (rw (object_shown slots at) at there)

-- a word is written
pub totals_of_word : (slots : List (Option UsedRegion)) (c : Counts) (at : ObjRef) (slot value : ℕ) → AreTotals slots c → IsSome (object_at (map shown_region slots) at) → (after : List (Option UsedRegion)) → after ≡ set slots at.region (option_map (λ u. changed_at u at.cell (word_set slot value)) (get_or slots at.region None)) → AreTotals after c
totals_of_word slots c at slot value totals there after is =
    totals_of_changed slots c c at.region at.cell (λ u. changed_at u at.cell (word_set slot value)) (λ u. option_map (word_set slot value) (cell_object u at.cell)) (λ u. refl) totals (slot_of_object slots at there).1
    (λ u e. (cell_within u at.cell (object_told slots at there u e), no_word_counts c (cell_object u at.cell) (word_set slot value) (λ o. refl) (λ o. refl))) after is

-- the object of a header that is told
told_object : (slots : List (Option UsedRegion)) (at : ObjRef) (was : Header) → IfSome (slot_object (get_or slots at.region None) at.cell) (λ o. was ≡ header_of o) → IsSome (object_at (map shown_region slots) at) → (u : UsedRegion) → get_or slots at.region None ≡ Some u → IsSomeAnd (cell_object u at.cell) (λ o. was ≡ header_of o)
told_object slots at was told there u e = go (cell_object u at.cell) (object_told slots at there u e) (subst (λ x. IfSome (slot_object x at.cell) (λ o. was ≡ header_of o)) e told)
  where
    go : (x : Option Object) → IsSome x → IfSome x (λ o. was ≡ header_of o) → IsSomeAnd x (λ o. was ≡ header_of o)
    go None some h = absurd (cc)
    go (Some o) some h = h

-- the header of an object is counted
pub record AreMoreHeaders (c : Counts) (was : Header) : Type 0 where
  pub objects : one_if (is_some (Some was)) ≤ c.objects
  pub unmarked : one_if (header_unmarked (Some was)) ≤ c.unmarked
  pub dead : one_if (header_dead (Some was)) ≤ c.dead

pub object_totalled : (slots : List (Option UsedRegion)) (c : Counts) (at : ObjRef) (was : Header) → AreTotals slots c → IfSome (slot_object (get_or slots at.region None) at.cell) (λ o. was ≡ header_of o) → IsSome (object_at (map shown_region slots) at) → AreMoreHeaders c was
object_totalled slots c at was totals told there = go (get_or slots at.region None) refl (slot_of_object slots at there).1
  where
    of_cell : (u : UsedRegion) (x : Option Object) → AreMoreObjects c x → IsSomeAnd x (λ o. was ≡ header_of o) → AreMoreHeaders c was
    of_cell u None more h = absurd h
    of_cell u (Some o) more h = rw h (record { objects = more.objects; unmarked = more.unmarked; dead = more.dead })

    go : (x : Option UsedRegion) → get_or slots at.region None ≡ x → IsSome x → AreMoreHeaders c was
    go None e some = absurd (cc)
    go (Some u) e some =
        let lt = cell_within u at.cell (object_told slots at there u e) in
        of_cell u (cell_object u at.cell) (object_is_counted c u at.cell lt (subst (AreMoreTotals c) e (region_is_counted slots c at.region (slot_of_object slots at there).2 totals))) (told_object slots at was told there u e)

-- a bit is counted
pub bit_is_totalled : (slots : List (Option UsedRegion)) (c : Counts) (at : ObjRef) (bit : Bit) (was : Bool) → AreTotals slots c → IfSome (slot_object (get_or slots at.region None) at.cell) (λ o. was ≡ bit_of bit o) → IsSome (object_at (map shown_region slots) at) → (mark_counted bit was ≤ c.unmarked) × (live_counted bit was ≤ c.dead)
bit_is_totalled slots c at bit was totals told there = go (get_or slots at.region None) refl (slot_of_object slots at there).1 told
  where
    of_cell : (bit : Bit) (x : Option Object) → IsSome x → AreMoreObjects c x → IfSome x (λ o. was ≡ bit_of bit o) → (mark_counted bit was ≤ c.unmarked) × (live_counted bit was ≤ c.dead)
    of_cell bit None some more h = absurd (cc)
    of_cell Live (Some o) some more h = (omega arith, omega (arith, more.dead, ap (λ b. one_if (not b)) h))
    of_cell Mark (Some o) some more h = (omega (arith, more.unmarked, ap (λ b. one_if (not b)) h), omega arith)

    go : (x : Option UsedRegion) → get_or slots at.region None ≡ x → IsSome x → IfSome (slot_object x at.cell) (λ o. was ≡ bit_of bit o) → (mark_counted bit was ≤ c.unmarked) × (live_counted bit was ≤ c.dead)
    go None e some h = absurd (cc)
    go (Some u) e some h =
        let here = object_told slots at there u e in
        of_cell bit (cell_object u at.cell) here (object_is_counted c u at.cell (cell_within u at.cell here) (subst (AreMoreTotals c) e (region_is_counted slots c at.region (slot_of_object slots at there).2 totals))) h

-- a bit is written
pub totals_of_bit : (slots : List (Option UsedRegion)) (c d : Counts) (at : ObjRef) (bit : Bit) (on : Bool) → AreTotals slots c → IsSome (object_at (map shown_region slots) at) → (was : Bool) → IfSome (slot_object (get_or slots at.region None) at.cell) (λ o. was ≡ bit_of bit o)
    → d.objects ≡ c.objects → d.unmarked + mark_counted bit was ≡ c.unmarked + mark_counted bit on → d.dead + live_counted bit was ≡ c.dead + live_counted bit on
    → (after : List (Option UsedRegion)) → after ≡ set slots at.region (option_map (λ u. changed_at u at.cell (bit_set bit on)) (get_or slots at.region None)) → AreTotals after d
totals_of_bit slots c d at bit on totals there was told objects unmarked dead after is =
    totals_of_changed slots c d at.region at.cell (λ u. changed_at u at.cell (bit_set bit on)) (λ u. option_map (bit_set bit on) (cell_object u at.cell)) (λ u. refl) totals (slot_of_object slots at there).1
    (λ u e. (cell_within u at.cell (object_told slots at there u e), differ bit (cell_object u at.cell) (object_told slots at there u e) (subst (λ x. IfSome (slot_object x at.cell) (λ o. was ≡ bit_of bit o)) e told) unmarked dead)) after is
  where
    differ : (bit : Bit) (x : Option Object) → IsSome x → IfSome x (λ o. was ≡ bit_of bit o) → d.unmarked + mark_counted bit was ≡ c.unmarked + mark_counted bit on → d.dead + live_counted bit was ≡ c.dead + live_counted bit on → DifferIn c d x (option_map (bit_set bit on) x)
    differ bit None some h unmarked dead = absurd (cc)
    differ Live (Some o) some h unmarked dead = record {
      objects = omega (arith, objects);
      unmarked = omega (arith, unmarked);
      dead = omega (arith, dead, ap (λ b. one_if (not b)) h);
    }
    differ Mark (Some o) some h unmarked dead = record {
      objects = omega (arith, objects);
      unmarked = omega (arith, unmarked, ap (λ b. one_if (not b)) h);
      dead = omega (arith, dead);
    }

vacant_cell_is_none : {X : Type 0} (xs : List (Option X)) (cell : ℕ) → is_vacant xs cell ≡ true → get_or xs cell None ≡ None
vacant_cell_is_none [] cell e = refl
vacant_cell_is_none (None ∷ xs) zero e = refl
vacant_cell_is_none (Some x ∷ xs) zero e = cc
vacant_cell_is_none (x ∷ xs) (suc cell) e = vacant_cell_is_none xs cell e

-- a cell is filled
pub totals_of_filled : (slots : List (Option UsedRegion)) (c d : Counts) (at : ObjRef) (o : Object) (n : ℕ) → AreTotals slots c → IsSomeAnd (get_or slots at.region None) (λ u. Heads at.cell u.free × FitsWords u.cell_size n) → ((r : ℕ) → IsGood (get_or slots r None)) → (new : Header) → new ≡ header_of o
    → d.objects ≡ c.objects + 1 → d.unmarked ≡ c.unmarked + one_if (header_unmarked (Some new)) → d.dead ≡ c.dead + one_if (header_dead (Some new))
    → (after : List (Option UsedRegion)) → after ≡ set slots at.region (option_map (λ u. cell_filled u at.cell o) (get_or slots at.region None)) → AreTotals after d
totals_of_filled slots c d at o n totals ready good new is objects unmarked dead after e =
    totals_of_changed slots c d at.region at.cell (λ u. cell_filled u at.cell o) (λ u. Some o) (λ u. refl) totals (slot_with_property_is_used _ _ ready)
    (λ u at_it. differ u (subst IsGood at_it (good at.region)) (subst (λ x. IsSomeAnd x (λ u. Heads at.cell u.free × FitsWords u.cell_size n)) at_it ready).0) after e
  where
    differ : (u : UsedRegion) → IsGood (Some u) → Heads at.cell u.free → (at.cell < length u.cells) × DifferIn c d (cell_object u at.cell) (Some o)
    differ u good heads =
        let vacant : is_vacant u.cells at.cell ≡ true = sym (good.0.vacant at.cell) ∙ heads_listed at.cell u.free heads in
        let none : cell_object u at.cell ≡ None = vacant_cell_is_none u.cells at.cell vacant in (
          vacant_within u.cells at.cell vacant,
          subst (λ x. DifferIn c d x (Some o)) (sym none) (record {
            objects = omega (arith, objects);
            unmarked = omega (arith, unmarked, ap (λ (k : Header). one_if (header_unmarked (Some k))) is);
            dead = omega (arith, dead, ap (λ (k : Header). one_if (header_dead (Some k))) is);
          }),
        )

-- a cell is freed
pub totals_of_freed : (slots : List (Option UsedRegion)) (c d : Counts) (at : ObjRef) → AreTotals slots c → IsSome (object_at (map shown_region slots) at) → (was : Header) → IfSome (slot_object (get_or slots at.region None) at.cell) (λ o. was ≡ header_of o)
    → d.objects + one_if (is_some (Some was)) ≡ c.objects → d.unmarked + one_if (header_unmarked (Some was)) ≡ c.unmarked → d.dead + one_if (header_dead (Some was)) ≡ c.dead
    → (after : List (Option UsedRegion)) → after ≡ set slots at.region (option_map (λ u. cell_freed u at.cell) (get_or slots at.region None)) → AreTotals after d
totals_of_freed slots c d at totals there was told objects unmarked dead after is =
    totals_of_changed slots c d at.region at.cell (λ u. cell_freed u at.cell) (λ u. None) (λ u. refl) totals (slot_of_object slots at there).1
    (λ u e. (cell_within u at.cell (object_told slots at there u e), differ (cell_object u at.cell) (told_object slots at was told there u e))) after is
  where
    differ : (x : Option Object) → IsSomeAnd x (λ o. was ≡ header_of o) → DifferIn c d x None
    differ None h = absurd h
    differ (Some o) h = record {
      objects = omega (arith, objects);
      unmarked = omega (arith, unmarked, ap (λ (k : Header). one_if (header_unmarked (Some k))) h);
      dead = omega (arith, dead, ap (λ (k : Header). one_if (header_dead (Some k))) h);
    }

-- ---- a region's class and its flag

-- a region is written, and told whether it waits
pub waits_told_anew : (slots : List (Option UsedRegion)) (waits : List ℕ) (r : ℕ) (x : Option UsedRegion) → AreWaiting slots waits → r < length slots → (after : List (Option UsedRegion)) → after ≡ set slots r x → AreWaiting after (set waits r (wait_class_of (get_or after r None)))
waits_told_anew slots waits r x e lt after is =
    rw (region_written slots after r x is lt) (subst (λ l. AreWaiting l (set waits r (wait_class_of x))) (sym is) (waiting_classes_after_slot_set slots waits r x e))

-- a flag is written
pub totals_of_pending : (slots : List (Option UsedRegion)) (c : Counts) (r : ℕ) (pending : Bool) → AreTotals slots c → IsSome (get_or slots r None) → (after : List (Option UsedRegion)) → after ≡ set slots r (option_map (pending_set pending) (get_or slots r None)) → AreTotals after c
totals_of_pending slots c r pending totals some after is =
    subst (λ l. AreTotals l c) (sym is) (totals_after_set slots c c r _ (in_use_within slots r some) totals (go (get_or slots r None)))
  where
    go : (x : Option UsedRegion) → DifferBy c c x (option_map (pending_set pending) x)
    go None = record { objects = refl; unmarked = refl; dead = refl }
    go (Some u) = record { objects = refl; unmarked = refl; dead = refl }

-- a region is moved out
pub totals_of_taken_out : (slots : List (Option UsedRegion)) (c d k : Counts) (r : ℕ) (u : UsedRegion) → AreTotals slots c → r < length slots → get_or slots r None ≡ Some u → AreCounted u.cells k → d.objects + k.objects ≡ c.objects → d.unmarked + k.unmarked ≡ c.unmarked → d.dead + k.dead ≡ c.dead → (after : List (Option UsedRegion)) → after ≡ set slots r None → AreTotals after d
totals_of_taken_out slots c d k r u totals lt was counted objects unmarked dead after is =
    subst (λ l. AreTotals l d) (sym is) (totals_after_set slots c d r None lt totals (subst (λ x. DifferBy c d x None) (sym was) (record {
      objects = omega (arith, counted.objects, objects);
      unmarked = omega (arith, counted.unmarked, unmarked);
      dead = omega (arith, counted.dead, dead);
    })))

-- and into an empty place
pub totals_of_put_in : (slots : List (Option UsedRegion)) (c d k : Counts) (r : ℕ) (u : UsedRegion) → AreTotals slots c → r < length slots → get_or slots r None ≡ None → AreCounted u.cells k → d.objects ≡ c.objects + k.objects → d.unmarked ≡ c.unmarked + k.unmarked → d.dead ≡ c.dead + k.dead → (after : List (Option UsedRegion)) → after ≡ set slots r (Some u) → AreTotals after d
totals_of_put_in slots c d k r u totals lt was counted objects unmarked dead after is =
    subst (λ l. AreTotals l d) (sym is) (totals_after_set slots c d r (Some u) lt totals (subst (λ x. DifferBy c d x (Some u)) (sym was) (record {
      objects = omega (arith, counted.objects, objects);
      unmarked = omega (arith, counted.unmarked, unmarked);
      dead = omega (arith, counted.dead, dead);
    })))

-- what of a storage is counted is counted in all
pub record AreIn (k c : Counts) : Type 0 where
  pub objects : k.objects ≤ c.objects
  pub unmarked : k.unmarked ≤ c.unmarked
  pub dead : k.dead ≤ c.dead

pub storage_is_counted : (slots : List (Option UsedRegion)) (c k : Counts) (r : ℕ) (u : UsedRegion) → AreTotals slots c → IsSome (get_or slots r None) → get_or slots r None ≡ Some u → AreCounted u.cells k → AreIn k c
storage_is_counted slots c k r u totals some was counted =
    let more = subst (AreMoreTotals c) was (region_is_counted slots c r (in_use_within slots r some) totals) in
    record {
      objects = omega (arith, counted.objects, more.objects);
      unmarked = omega (arith, counted.unmarked, more.unmarked);
      dead = omega (arith, counted.dead, more.dead);
    }

-- and what is put into an empty place leaves few objects
pub record AreFewWith (c k : Counts) : Type 0 where
  pub objects : c.objects + k.objects ≤ 16777216
  pub unmarked : c.unmarked + k.unmarked ≤ 16777216
  pub dead : c.dead + k.dead ≤ 16777216

pub storage_leaves_few : (slots : List (Option UsedRegion)) (c k : Counts) (r : ℕ) (u : UsedRegion) → AreTotals slots c → r < length slots → get_or slots r None ≡ None → AreCounted u.cells k → ((j : ℕ) → IsGood (get_or (set slots r (Some u)) j None)) → length slots ≤ 65536 → AreFewWith c k
storage_leaves_few slots c k r u totals lt was counted good few =
    let d : Counts = record { objects = c.objects + k.objects; unmarked = c.unmarked + k.unmarked; dead = c.dead + k.dead } in
    let after = totals_of_put_in slots c d k r u totals lt was counted refl refl refl _ refl in
    let all = totals_are_few (set slots r (Some u)) d good (omega (arith, few, length-set slots r (Some u))) after in
    record { objects = all.objects; unmarked = all.unmarked; dead = all.dead }
