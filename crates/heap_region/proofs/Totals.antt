-- How many objects all regions have, and of how many a bit isn't set.
use Rattle.std.proofs.Common.{◌≡◌, ℕ, zero, suc, ◌+◌, ◌-◌, ◌*◌, ◌<◌, ◌≤◌, Bool, true, false, not, cond, List, [], ◌∷◌, length, map, Option, Some, None, is_some, option_map, get_or, set, refl, sym, ap, ap₂, ◌∙◌, arith, replicate}
use Rattle.std.specs.Prelude.{count_by}
use Rattle.std.specs.List.{sum_by}
use Rattle.std.proofs.lemmas.List.Sums.{sum_by-cons, sum_by-set, get_or-le-sum_by, count_by-le-length}
use Rattle.heap_region.specs.Regions.{Object, UsedRegion, Region, used_part}
use Rattle.heap_region.specs.Layout.{IsWholeRegion}
use Rattle.heap_region.specs.Live.{cells_of, is_dead, is_live}
use Rattle.heap_region.specs.Slots.{AreCounted, AreTotals, objects_in_slot, dead_in_slot}
use Rattle.heap_region.specs.Table.{IsGood, shown_region}
use Rattle.heap_region.specs.Turns.{is_unmarked, turned_object, turned_back_object, turned_region, turned_back_region, unmarked_in, unmarked_total}
use Rattle.heap_region.specs.TurnedHeaders.{one_if}
use Rattle.heap_region.specs.declared.counts.Counts.{Counts}
use Rattle.heap_region.proofs.BlockSizes.{few_cells}

-- ---- a turn of one region

-- what of the cells is counted once they are turned
counted_alike : (p q : Option Object → Bool) (f : Object → Object) → p None ≡ q None → ((o : Object) → p (Some (f o)) ≡ q (Some o)) → (cells : List (Option Object)) → count_by p (map (option_map f) cells) ≡ count_by q cells
counted_alike p q f none is [] = refl
counted_alike p q f none is (x ∷ cells) =
    sum_by-cons (λ (x : Option Object). cond (p x) 1 0) (option_map f x) (map (option_map f) cells)
    ∙ (ap₂ (λ (b : Bool) (n : ℕ). cond b 1 0 + n) (go x) (counted_alike p q f none is cells)
    ∙ sym (sum_by-cons (λ (x : Option Object). cond (q x) 1 0) x cells))
  where
    go : (x : Option Object) → p (option_map f x) ≡ q x
    go None = none
    go (Some o) = is o

-- those that a test tells, and those that it doesn't
counted_in_parts : (p q : Option Object → Bool) → p None ≡ false → q None ≡ false → ((o : Object) → p (Some o) ≡ not (q (Some o))) → (cells : List (Option Object)) → count_by p cells + count_by q cells ≡ count_by is_some cells
counted_in_parts p q no_p no_q is [] = refl
counted_in_parts p q no_p no_q is (x ∷ cells) =
    let of_p = sum_by-cons (λ (x : Option Object). cond (p x) 1 0) x cells in
    let of_q = sum_by-cons (λ (x : Option Object). cond (q x) 1 0) x cells in
    let of_all = sum_by-cons (λ (x : Option Object). cond (is_some x) 1 0) x cells in
    omega (arith, of_p, of_q, of_all, counted_in_parts p q no_p no_q is cells, go x)
  where
    both : (b c : Bool) → b ≡ not c → one_if b + one_if c ≡ 1
    both true true e = cc
    both true false e = refl
    both false true e = refl
    both false false e = cc

    go : (x : Option Object) → one_if (p x) + one_if (q x) ≡ one_if (is_some x)
    go None = rw (no_p, no_q) refl
    go (Some o) = both (p (Some o)) (q (Some o)) (is o)

abbrev cell_is_marked : Option Object → Bool
cell_is_marked None = false
cell_is_marked (Some o) = o.mark

not_not : (b : Bool) → b ≡ not (not b)
not_not true = refl
not_not false = refl

marked_and_unmarked : (cells : List (Option Object)) → count_by cell_is_marked cells + count_by is_unmarked cells ≡ count_by is_some cells
marked_and_unmarked = counted_in_parts cell_is_marked is_unmarked refl refl (λ o. not_not o.mark)

live_and_dead : (cells : List (Option Object)) → count_by is_live cells + count_by is_dead cells ≡ count_by is_some cells
live_and_dead = counted_in_parts is_live is_dead refl refl (λ o. not_not o.live)

pub dead_at_most : (cells : List (Option Object)) (c : Counts) → AreCounted cells c → c.dead ≤ c.objects
dead_at_most cells c is = omega (arith, is.objects, is.dead, live_and_dead cells)

pub live_cells_counted : (cells : List (Option Object)) (c : Counts) → AreCounted cells c → c.objects - c.dead ≡ count_by is_live cells
live_cells_counted cells c is = omega (arith, is.objects, is.dead, live_and_dead cells)

pub few_counted : (u : UsedRegion) (p : Option Object → Bool) → IsWholeRegion u → count_by p u.cells ≤ 256
few_counted u p whole = omega (arith, count_by-le-length p u.cells, few_cells u.cell_size (length u.cells) whole.sized whole.covers)

pub unmarked_at_most : (cells : List (Option Object)) (c : Counts) → AreCounted cells c → c.unmarked ≤ c.objects
unmarked_at_most cells c is = omega (arith, is.objects, is.unmarked, marked_and_unmarked cells)

pub counted_turned : (cells : List (Option Object)) (c d : Counts) → AreCounted cells c → d.objects ≡ c.objects → d.unmarked + c.dead ≡ c.objects → d.dead ≡ c.unmarked → AreCounted (map (option_map turned_object) cells) d
counted_turned cells c d is objects unmarked dead = record {
  objects = omega (arith, counted_alike is_some is_some turned_object refl (λ o. refl) cells, objects, is.objects);
  unmarked = omega (arith, counted_alike is_unmarked is_live turned_object refl (λ o. sym (not_not o.live)) cells, live_and_dead cells, unmarked, is.dead, is.objects);
  dead = omega (arith, counted_alike is_dead is_unmarked turned_object refl (λ o. refl) cells, dead, is.unmarked);
}

pub cells_counted_turned_back : (cells : List (Option Object)) (c d : Counts) → AreCounted cells c → d.objects ≡ c.objects → d.unmarked ≡ c.dead → d.dead + c.unmarked ≡ c.objects → AreCounted (map (option_map turned_back_object) cells) d
cells_counted_turned_back cells c d is objects unmarked dead = record {
  objects = omega (arith, counted_alike is_some is_some turned_back_object refl (λ o. refl) cells, objects, is.objects);
  unmarked = omega (arith, counted_alike is_unmarked is_dead turned_back_object refl (λ o. refl) cells, unmarked, is.dead);
  dead = omega (arith, counted_alike is_dead cell_is_marked turned_back_object refl (λ o. sym (not_not o.mark)) cells, marked_and_unmarked cells, dead, is.unmarked, is.objects);
}

-- ---- all regions

abbrev counts_in : Option UsedRegion → Counts
counts_in x = record { objects = objects_in_slot x; unmarked = unmarked_in x; dead = dead_in_slot x }

summed_alike : (p q : Option UsedRegion → ℕ) (f : UsedRegion → UsedRegion) → ((x : Option UsedRegion) → p (option_map f x) ≡ q x) → (slots : List (Option UsedRegion)) → sum_by p (map (option_map f) slots) ≡ sum_by q slots
summed_alike p q f is [] = refl
summed_alike p q f is (x ∷ slots) =
    sum_by-cons p (option_map f x) (map (option_map f) slots) ∙ (ap₂ (λ (m n : ℕ). m + n) (is x) (summed_alike p q f is slots) ∙ sym (sum_by-cons q x slots))

summed_in_parts : (p q a : Option UsedRegion → ℕ) → ((x : Option UsedRegion) → p x + q x ≡ a x) → (slots : List (Option UsedRegion)) → sum_by p slots + sum_by q slots ≡ sum_by a slots
summed_in_parts p q a is [] = refl
summed_in_parts p q a is (x ∷ slots) = omega (arith, sum_by-cons p x slots, sum_by-cons q x slots, sum_by-cons a x slots, is x, summed_in_parts p q a is slots)

abbrev live_in_slot : Option UsedRegion → ℕ
live_in_slot x = count_by is_live (cells_of x)

abbrev marked_in_slot : Option UsedRegion → ℕ
marked_in_slot x = count_by cell_is_marked (cells_of x)

live_and_dead_summed : (slots : List (Option UsedRegion)) → sum_by live_in_slot slots + sum_by dead_in_slot slots ≡ sum_by objects_in_slot slots
live_and_dead_summed = summed_in_parts live_in_slot dead_in_slot objects_in_slot (λ x. live_and_dead (cells_of x))

marked_and_unmarked_summed : (slots : List (Option UsedRegion)) → sum_by marked_in_slot slots + sum_by unmarked_in slots ≡ sum_by objects_in_slot slots
marked_and_unmarked_summed = summed_in_parts marked_in_slot unmarked_in objects_in_slot (λ x. marked_and_unmarked (cells_of x))

pub total_dead_at_most : (slots : List (Option UsedRegion)) (c : Counts) → AreTotals slots c → c.dead ≤ c.objects
total_dead_at_most slots c is = omega (arith, is.objects, is.dead, live_and_dead_summed slots)

pub total_unmarked_at_most : (slots : List (Option UsedRegion)) (c : Counts) → AreTotals slots c → c.unmarked ≤ c.objects
total_unmarked_at_most slots c is = omega (arith, is.objects, is.unmarked, marked_and_unmarked_summed slots)

-- what of a region is counted once it is turned
slot_counted_alike : (p q : Option Object → Bool) → p None ≡ q None → ((o : Object) → p (Some (turned_object o)) ≡ q (Some o)) → (x : Option UsedRegion) → count_by p (cells_of (option_map turned_region x)) ≡ count_by q (cells_of x)
unfolding turned_region
slot_counted_alike p q none is None = refl
slot_counted_alike p q none is (Some u) = counted_alike p q turned_object none is u.cells

slot_counted_back : (p q : Option Object → Bool) → p None ≡ q None → ((o : Object) → p (Some (turned_back_object o)) ≡ q (Some o)) → (x : Option UsedRegion) → count_by p (cells_of (option_map turned_back_region x)) ≡ count_by q (cells_of x)
unfolding turned_back_region
slot_counted_back p q none is None = refl
slot_counted_back p q none is (Some u) = counted_alike p q turned_back_object none is u.cells

pub totals_turned : (slots : List (Option UsedRegion)) (c d : Counts) → AreTotals slots c → d.objects ≡ c.objects → d.unmarked + c.dead ≡ c.objects → d.dead ≡ c.unmarked → AreTotals (map (option_map turned_region) slots) d
totals_turned slots c d is objects unmarked dead = record {
  objects = omega (arith, summed_alike objects_in_slot objects_in_slot turned_region (slot_counted_alike is_some is_some refl (λ o. refl)) slots, objects, is.objects);
  unmarked = omega (arith, summed_alike unmarked_in live_in_slot turned_region (slot_counted_alike is_unmarked is_live refl (λ o. sym (not_not o.live))) slots, live_and_dead_summed slots, unmarked, is.dead, is.objects);
  dead = omega (arith, summed_alike dead_in_slot unmarked_in turned_region (slot_counted_alike is_dead is_unmarked refl (λ o. refl)) slots, dead, is.unmarked);
}

pub totals_turned_back : (slots : List (Option UsedRegion)) (c d : Counts) → AreTotals slots c → d.objects ≡ c.objects → d.unmarked ≡ c.dead → d.dead + c.unmarked ≡ c.objects → AreTotals (map (option_map turned_back_region) slots) d
totals_turned_back slots c d is objects unmarked dead = record {
  objects = omega (arith, summed_alike objects_in_slot objects_in_slot turned_back_region (slot_counted_back is_some is_some refl (λ o. refl)) slots, objects, is.objects);
  unmarked = omega (arith, summed_alike unmarked_in dead_in_slot turned_back_region (slot_counted_back is_unmarked is_dead refl (λ o. refl)) slots, unmarked, is.dead);
  dead = omega (arith, summed_alike dead_in_slot marked_in_slot turned_back_region (slot_counted_back is_dead cell_is_marked refl (λ o. sym (not_not o.mark))) slots, marked_and_unmarked_summed slots, dead, is.unmarked, is.objects);
}

-- the regions show those that aren't marked
pub unmarked_shown_total : (slots : List (Option UsedRegion)) → sum_by unmarked_in slots ≡ unmarked_total (map shown_region slots)
unfolding unmarked_total
unmarked_shown_total [] = refl
unmarked_shown_total (x ∷ slots) =
    sum_by-cons unmarked_in x slots ∙ (ap₂ (λ (m n : ℕ). m + n) (go x) (unmarked_shown_total slots) ∙ sym (sum_by-cons (λ (y : Region). unmarked_in (used_part y)) (shown_region x) (map shown_region slots)))
  where
    go : (x : Option UsedRegion) → unmarked_in x ≡ unmarked_in (used_part (shown_region x))
    go None = refl
    go (Some u) = refl

-- ---- limits

few_in_slot : (x : Option UsedRegion) → IsGood x → length (cells_of x) ≤ 256
few_in_slot None good = omega arith
few_in_slot (Some u) good = few_cells u.cell_size (length u.cells) good.0.sized good.0.covers

pub totals_few : (slots : List (Option UsedRegion)) (p : Option Object → Bool) → ((r : ℕ) → IsGood (get_or slots r None)) → sum_by (λ x. count_by p (cells_of x)) slots ≤ 256 * length slots
totals_few [] p good = omega arith
totals_few (x ∷ slots) p good =
    omega (arith, sum_by-cons (λ (y : Option UsedRegion). count_by p (cells_of y)) x slots, count_by-le-length p (cells_of x), few_in_slot x (good 0), totals_few slots p (λ r. good (suc r)))

-- each total is at most 2^24
pub record AreFewTotals (c : Counts) : Type 0 where
  pub objects : c.objects ≤ 16777216
  pub unmarked : c.unmarked ≤ 16777216
  pub dead : c.dead ≤ 16777216

pub totals_are_few : (slots : List (Option UsedRegion)) (c : Counts) → ((r : ℕ) → IsGood (get_or slots r None)) → length slots ≤ 65536 → AreTotals slots c → AreFewTotals c
totals_are_few slots c good few is = record {
  objects = omega (arith, is.objects, few, totals_few slots is_some good);
  unmarked = omega (arith, is.unmarked, few, totals_few slots is_unmarked good);
  dead = omega (arith, is.dead, few, totals_few slots is_dead good);
}

-- ---- a region is changed

-- the counts d are the counts c without those of the old region, and with those of the new one
pub record DifferBy (c d : Counts) (old new : Option UsedRegion) : Type 0 where
  pub objects : d.objects + objects_in_slot old ≡ c.objects + objects_in_slot new
  pub unmarked : d.unmarked + unmarked_in old ≡ c.unmarked + unmarked_in new
  pub dead : d.dead + dead_in_slot old ≡ c.dead + dead_in_slot new

pub totals_after_set : (slots : List (Option UsedRegion)) (c d : Counts) (r : ℕ) (x : Option UsedRegion) → r < length slots → AreTotals slots c → DifferBy c d (get_or slots r None) x → AreTotals (set slots r x) d
totals_after_set slots c d r x lt is differ = record {
  objects = omega (arith, sum_by-set objects_in_slot slots r x None lt, is.objects, differ.objects);
  unmarked = omega (arith, sum_by-set unmarked_in slots r x None lt, is.unmarked, differ.unmarked);
  dead = omega (arith, sum_by-set dead_in_slot slots r x None lt, is.dead, differ.dead);
}

-- a region is counted where all are
pub record AreMoreTotals (c : Counts) (x : Option UsedRegion) : Type 0 where
  pub objects : objects_in_slot x ≤ c.objects
  pub unmarked : unmarked_in x ≤ c.unmarked
  pub dead : dead_in_slot x ≤ c.dead

pub region_is_counted : (slots : List (Option UsedRegion)) (c : Counts) (r : ℕ) → r < length slots → AreTotals slots c → AreMoreTotals c (get_or slots r None)
region_is_counted slots c r lt is = record {
  objects = omega (arith, is.objects, get_or-le-sum_by objects_in_slot slots r None lt);
  unmarked = omega (arith, is.unmarked, get_or-le-sum_by unmarked_in slots r None lt);
  dead = omega (arith, is.dead, get_or-le-sum_by dead_in_slot slots r None lt);
}

-- ---- a cell is changed

-- the counts d are the counts c without the old object and with the new one
pub record DifferIn (c d : Counts) (old new : Option Object) : Type 0 where
  pub objects : d.objects + one_if (is_some old) ≡ c.objects + one_if (is_some new)
  pub unmarked : d.unmarked + one_if (is_unmarked old) ≡ c.unmarked + one_if (is_unmarked new)
  pub dead : d.dead + one_if (is_dead old) ≡ c.dead + one_if (is_dead new)

cell_counted : (q : Option Object → Bool) (cells : List (Option Object)) (cell : ℕ) (x : Option Object) → cell < length cells → count_by q (set cells cell x) + one_if (q (get_or cells cell None)) ≡ count_by q cells + one_if (q x)
cell_counted q cells cell x lt = sum_by-set (λ x. cond (q x) 1 0) cells cell x None lt

pub differ_in_cell : (c d : Counts) (u v : UsedRegion) (cell : ℕ) (x : Option Object) → cell < length u.cells → v.cells ≡ set u.cells cell x → DifferIn c d (get_or u.cells cell None) x → DifferBy c d (Some u) (Some v)
differ_in_cell c d u v cell x lt is differ = record {
  objects = omega (arith, ap (count_by is_some) is, cell_counted is_some u.cells cell x lt, differ.objects);
  unmarked = omega (arith, ap (count_by is_unmarked) is, cell_counted is_unmarked u.cells cell x lt, differ.unmarked);
  dead = omega (arith, ap (count_by is_dead) is, cell_counted is_dead u.cells cell x lt, differ.dead);
}

-- an object is counted where all are
pub record AreMoreObjects (c : Counts) (x : Option Object) : Type 0 where
  pub objects : one_if (is_some x) ≤ c.objects
  pub unmarked : one_if (is_unmarked x) ≤ c.unmarked
  pub dead : one_if (is_dead x) ≤ c.dead

object_in_region : (q : Option Object → Bool) (cells : List (Option Object)) (cell : ℕ) → cell < length cells → q None ≡ false → one_if (q (get_or cells cell None)) ≤ count_by q cells
object_in_region q cells cell lt none = omega (arith, cell_counted q cells cell None lt, ap one_if none)

pub object_is_counted : (c : Counts) (u : UsedRegion) (cell : ℕ) → cell < length u.cells → AreMoreTotals c (Some u) → AreMoreObjects c (get_or u.cells cell None)
object_is_counted c u cell lt more = record {
  objects = omega (arith, more.objects, object_in_region is_some u.cells cell lt refl);
  unmarked = omega (arith, more.unmarked, object_in_region is_unmarked u.cells cell lt refl);
  dead = omega (arith, more.dead, object_in_region is_dead u.cells cell lt refl);
}

-- ---- no regions

pub no_totals : (n : ℕ) (c : Counts) → c.objects ≡ 0 → c.unmarked ≡ 0 → c.dead ≡ 0 → AreTotals (replicate n None) c
no_totals n c objects unmarked dead = record {
  objects = objects ∙ sym (none objects_in_slot refl n);
  unmarked = unmarked ∙ sym (none unmarked_in refl n);
  dead = dead ∙ sym (none dead_in_slot refl n);
}
  where
    none : (p : Option UsedRegion → ℕ) → p None ≡ 0 → (n : ℕ) → sum_by p (replicate n None) ≡ 0
    none p is zero = refl
    none p is (suc n) = omega (arith, sum_by-cons p None (replicate n None), is, none p is n)
