-- What a turn of all regions leaves of their tables.
use Rattle.std.proofs.Common.{◌≡◌, ℕ, zero, suc, ◌<◌, Bool, true, false, not, eqb, ◌&&◌, List, [], ◌∷◌, length, map, Option, Some, None, is_none, option_map, get_or, refl, sym, ap, subst, ◌∙◌, arith}
use Rattle.std.specs.Prelude.{nat_lt, if◌then◌else◌}
use Rattle.std.proofs.lemmas.Bool.{ne_eqb}
use Rattle.std.proofs.lemmas.List.{get_or-map, length-map}
use Rattle.memchr.specs.Find.{IsFirstByte, is_byte}
use Rattle.heap_region.specs.Regions.{UsedRegion, Region, Empty, InUse, in_used}
use Rattle.heap_region.specs.Table.{AreWaiting, IsRegionTable, IsGood, free_class_of, shown_region, wait_class_of}
use Rattle.heap_region.specs.Turns.{turned_region, turned_back_region}
use Rattle.heap_region.specs.Waits.{wait_turned}
use Rattle.heap_region.proofs.Areas.{KeepsSizes, area_kept}
use Rattle.heap_region.proofs.ShownRegions.{used_region_is_slot}
use Rattle.heap_region.proofs.TurnedSlots.{turned_region_stays_good, turned_back_good}

abbrev KeepsSize : (UsedRegion → UsedRegion) → Type 0
KeepsSize f = (u : UsedRegion) → (f u).cell_size ≡ u.cell_size

abbrev KeepsClass : (UsedRegion → UsedRegion) → Type 0
KeepsClass f = (x : Option UsedRegion) → free_class_of (option_map f x) ≡ free_class_of x

slot_of_mapped : (f : UsedRegion → UsedRegion) (slots : List (Option UsedRegion)) (r : ℕ) → get_or (map (option_map f) slots) r None ≡ option_map f (get_or slots r None)
slot_of_mapped f [] r = refl
slot_of_mapped f (x ∷ slots) zero = refl
slot_of_mapped f (x ∷ slots) (suc r) = slot_of_mapped f slots r

classes_of_mapped : (f : UsedRegion → UsedRegion) → KeepsClass f → (slots : List (Option UsedRegion)) → map free_class_of slots ≡ map free_class_of (map (option_map f) slots)
classes_of_mapped f keeps [] = refl
classes_of_mapped f keeps (x ∷ slots) = λ i. sym (keeps x) i ∷ classes_of_mapped f keeps slots i

vacant_of_mapped : (f : UsedRegion → UsedRegion) (slots : List (Option UsedRegion)) → map is_none slots ≡ map is_none (map (option_map f) slots)
vacant_of_mapped f [] = refl
vacant_of_mapped f (None ∷ slots) = ap (λ bs. true ∷ bs) (vacant_of_mapped f slots)
vacant_of_mapped f (Some u ∷ slots) = ap (λ bs. false ∷ bs) (vacant_of_mapped f slots)

sizes_of_mapped : (f : UsedRegion → UsedRegion) → KeepsSize f → (slots : List (Option UsedRegion)) → KeepsSizes (map shown_region slots) (map shown_region (map (option_map f) slots))
sizes_of_mapped f sizes slots r u used =
    let v = before (get_or slots r None) (sym (slot_of_mapped f slots r) ∙ (sym (used_region_is_slot (map (option_map f) slots) r) ∙ used)) in
    (v.0, used_region_is_slot slots r ∙ v.1, v.2)
  where
    before : (x : Option UsedRegion) → option_map f x ≡ Some u → (v : UsedRegion) × (x ≡ Some v) × (v.cell_size ≡ u.cell_size)
    before None e = cc
    before (Some v) e = let same : f v ≡ u = cc in (v, refl, sym (sizes v) ∙ ap (λ (w : UsedRegion). w.cell_size) same)

table_of_mapped : (f : UsedRegion → UsedRegion) → KeepsSize f → KeepsClass f → ((x : Option UsedRegion) → IsGood x → IsGood (option_map f x)) → (slots : List (Option UsedRegion)) (free_classes pool : List ℕ) (capacity start : ℕ) → IsRegionTable slots free_classes pool capacity start → IsRegionTable (map (option_map f) slots) free_classes pool capacity start
table_of_mapped f sizes classes good slots free_classes pool capacity start table = record {
  told = table.told ∙ classes_of_mapped f classes slots;
  apart = table.apart;
  vacant = λ r. table.vacant r ∙ ap (λ (bs : List Bool). nat_lt r start && get_or bs r false) (vacant_of_mapped f slots);
  reserved = table.reserved;
  many = rw (length-map slots (option_map f)) table.many;
  few = rw (length-map slots (option_map f)) table.few;
  good = λ r. subst IsGood (sym (slot_of_mapped f slots r)) (good (get_or slots r None) (table.good r));
  area = area_kept (map shown_region slots) (map shown_region (map (option_map f) slots)) start
      (length-map (map (option_map f) slots) shown_region ∙ (length-map slots (option_map f) ∙ sym (length-map slots shown_region)))
      (sizes_of_mapped f sizes slots) table.area;
}

turned_class : KeepsClass turned_region
unfolding turned_region
turned_class None = refl
turned_class (Some u) = refl

turned_back_class : KeepsClass turned_back_region
unfolding turned_back_region
turned_back_class None = refl
turned_back_class (Some u) = refl

turned_size : KeepsSize turned_region
unfolding turned_region
turned_size u = refl

turned_back_size : KeepsSize turned_back_region
unfolding turned_back_region
turned_back_size u = refl

pub table_turned : (slots : List (Option UsedRegion)) (free_classes pool : List ℕ) (capacity start : ℕ) → IsRegionTable slots free_classes pool capacity start → IsRegionTable (map (option_map turned_region) slots) free_classes pool capacity start
table_turned = table_of_mapped turned_region turned_size turned_class (λ x good. (turned_region_stays_good x good).0)

pub table_turned_back : (slots : List (Option UsedRegion)) (free_classes pool : List ℕ) (capacity start : ℕ) → IsRegionTable slots free_classes pool capacity start → IsRegionTable (map (option_map turned_back_region) slots) free_classes pool capacity start
table_turned_back = table_of_mapped turned_back_region turned_back_size turned_back_class (λ x good. (turned_back_good x good).0)

-- what the regions show
pub mapped_regions_shown : (f : UsedRegion → UsedRegion) (slots : List (Option UsedRegion)) → map shown_region (map (option_map f) slots) ≡ map (in_used f) (map shown_region slots)
unfolding in_used
mapped_regions_shown f [] = refl
mapped_regions_shown f (None ∷ slots) = ap (λ (l : List Region). Empty ∷ l) (mapped_regions_shown f slots)
mapped_regions_shown f (Some u ∷ slots) = ap (λ (l : List Region). InUse (f u) ∷ l) (mapped_regions_shown f slots)

-- ---- which regions wait

waits_of_flipped : (f : UsedRegion → UsedRegion) → ((u : UsedRegion) → (f u).pending ≡ not u.pending) → (slots : List (Option UsedRegion)) (waits : List ℕ) → AreWaiting slots waits → AreWaiting (map (option_map f) slots) (map (wait_turned true) waits)
waits_of_flipped f flips slots waits e = ap (map (wait_turned true)) e ∙ all slots
  where
    flag : (b : Bool) → wait_turned true (if b then 1 else 2) ≡ (if not b then 1 else 2)
    flag true = refl
    flag false = refl

    one : (x : Option UsedRegion) → wait_turned true (wait_class_of x) ≡ wait_class_of (option_map f x)
    one None = refl
    one (Some u) = flag u.pending ∙ ap (λ (b : Bool). if b then 1 else 2) (sym (flips u))

    all : (slots : List (Option UsedRegion)) → map (wait_turned true) (map wait_class_of slots) ≡ map wait_class_of (map (option_map f) slots)
    all [] = refl
    all (x ∷ slots) = λ i. one x i ∷ all slots i

pub waits_turned : (slots : List (Option UsedRegion)) (waits : List ℕ) → AreWaiting slots waits → AreWaiting (map (option_map turned_region) slots) (map (wait_turned true) waits)
unfolding turned_region
waits_turned = waits_of_flipped turned_region (λ u. refl)

pub waits_turned_back : (slots : List (Option UsedRegion)) (waits : List ℕ) → AreWaiting slots waits → AreWaiting (map (option_map turned_back_region) slots) (map (wait_turned true) waits)
unfolding turned_back_region
waits_turned_back = waits_of_flipped turned_back_region (λ u. refl)

-- ---- the table of those that wait

wait_turned_twice : (k : ℕ) → k ≡ wait_turned true (wait_turned true k)
wait_turned_twice zero = refl
wait_turned_twice (suc zero) = refl
wait_turned_twice (suc (suc zero)) = refl
wait_turned_twice (suc (suc (suc k))) = refl

-- a class is read as it was kept
pub wait_read : (odd : Bool) (k : ℕ) → wait_turned odd (wait_turned odd k) ≡ k
wait_read false k = refl
wait_read true k = sym (wait_turned_twice k)

pub waits_read_anew : (odd : Bool) (classes : List ℕ) → map (wait_turned (not odd)) classes ≡ map (wait_turned true) (map (wait_turned odd) classes)
waits_read_anew odd [] = refl
waits_read_anew false (k ∷ classes) = ap (λ (l : List ℕ). wait_turned true k ∷ l) (waits_read_anew false classes)
waits_read_anew true (k ∷ classes) = λ i. wait_turned_twice k i ∷ waits_read_anew true classes i

class_reads : (odd : Bool) (k : ℕ) → eqb (wait_turned odd k) 1 ≡ eqb k (wait_turned odd 1)
class_reads false k = refl
class_reads true zero = refl
class_reads true (suc zero) = refl
class_reads true (suc (suc zero)) = refl
class_reads true (suc (suc (suc k))) = ne_eqb (suc (suc (suc k))) 1 (λ e. omega arith) ∙ sym (ne_eqb (suc (suc (suc k))) 2 (λ e. omega arith))

passes_read : (odd : Bool) (classes : List ℕ) (k : ℕ) → k < length classes → eqb (get_or (map (wait_turned odd) classes) k 0) 1 ≡ eqb (get_or classes k 0) (wait_turned odd 1)
passes_read odd classes k lt = ap (λ x. eqb x 1) (get_or-map (wait_turned odd) classes k 0 0 lt) ∙ class_reads odd (get_or classes k 0)

-- the lowest region that is read as waiting is the lowest that is kept so
pub first_read : (odd : Bool) (classes : List ℕ) (r : Option ℕ) → IsFirstByte (is_byte (wait_turned odd 1)) classes r → IsFirstByte (is_byte 1) (map (wait_turned odd) classes) r
first_read odd classes None none = λ k low lt p. none k low (omega (arith, lt, length-map classes (wait_turned odd))) (sym (passes_read odd classes k (omega (arith, lt, length-map classes (wait_turned odd)))) ∙ p)
first_read odd classes (Some i) h = (
  record {
    low = h.0.low;
    high = omega (arith, h.0.high, length-map classes (wait_turned odd));
    before = λ k low lt p. h.0.before k low lt (sym (passes_read odd classes k (omega (arith, lt, h.0.high))) ∙ p);
  },
  passes_read odd classes i h.0.high ∙ h.1,
)
