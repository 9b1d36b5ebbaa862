-- The first cell with a live object, region by region.
use Rattle.std.proofs.Common.{◌≡◌, ◌≢◌, ℕ, ◌+◌, ◌-◌, ◌*◌, ◌<◌, ◌≤◌, Bool, true, false, List, [], length, length-drop, drop, get_or, Option, Some, None, refl, sym, ap, ◌∙◌, arith}
use mathlib.Core.Logic.{inl, inr}
use Rattle.std.specs.Prelude.{is_some, slice_index_or}
use Rattle.std.proofs.lemmas.Bool.{cases_lt, eqb-true, eq-eqb}
use Rattle.std.proofs.lemmas.List.{get_or-drop, get_or_past}
use Rattle.heap_class.specs.declared.ObjRef.{ObjRef}
use Rattle.heap_region.specs.Regions.{UsedRegion, Region, slot_object, used_at}
use Rattle.heap_region.specs.RegionCopies.{Frozen}
use Rattle.heap_region.proofs.ShownRegions.{object_of_used}
use Rattle.heap_pins.specs.KeptRegions.{blank}
use Rattle.heap_pins.proofs.CopiedRegions.{is_not_none}
use Rattle.heap_pins.proofs.OpenedPins.{zero_in_blank}
use Rattle.memchr.specs.Find.{IsFirstByte, is_byte}
use Rattle.heap_pins.specs.Pin.{PinContents, byte_in, cell_state, place, state_kept, state_seen}
use Rattle.heap_pins.specs.States.{HasNone, IsFirstIn, IsFirstPlace, cell_of, state_by, state_in_storage, storage_states}
use Rattle.heap_pins.proofs.CellStates.{copied_cell_has_its_byte, empty_cell_was_empty, free_cell_is_kept, nothing_was_nothing, place_of_number_by_cell}

-- what has the same states has the same first cell
pub first_in_same_states : (f g : ObjRef → ℕ) (r from : ℕ) (x : Option ℕ) → ((c : ℕ) → c < 256 → f (cell_of r c) ≡ g (cell_of r c)) → IsFirstIn f r from x → IsFirstIn g r from x
unfolding IsFirstIn
first_in_same_states f g r from None same h = λ c low lt e. h c low lt (same c lt ∙ e)
first_in_same_states f g r from (Some c) same h = (h.0, h.1, sym (same c h.1) ∙ h.2, λ i low lt e. h.3 i low lt (same i (omega (arith, lt, h.1)) ∙ e))

pub first_cell_is_small : (f : ObjRef → ℕ) (r from c : ℕ) → IsFirstIn f r from (Some c) → c < 256
unfolding IsFirstIn
first_cell_is_small f r from c h = h.1

-- a region with a copy
pub first_in_copy : (p : PinContents) (regions : List Region) (r from : ℕ) (f : Frozen) (x : Option ℕ) → slice_index_or p.copies r None ≡ Some f → IsFirstIn (byte_in p.cells) r from x → IsFirstIn (state_seen p regions) r from x
first_in_copy p regions r from f x is h = first_in_same_states (byte_in p.cells) (state_seen p regions) r from x (λ c lt. sym (copied_cell_has_its_byte p regions (cell_of r c) f is)) h

pub first_in_a_copy : (p : PinContents) (regions : List Region) (r from : ℕ) (x : Option ℕ) → is_some (slice_index_or p.copies r None) ≡ true → IsFirstIn (byte_in p.cells) r from x → IsFirstIn (state_seen p regions) r from x
first_in_a_copy p regions r from x some h = go (slice_index_or p.copies r None) refl
  where
    go : (c : Option Frozen) → slice_index_or p.copies r None ≡ c → IsFirstIn (state_seen p regions) r from x
    go None e = absurd (is_not_none (slice_index_or p.copies r None) some e)
    go (Some f) e = first_in_copy p regions r from f x e h

-- a region in use without one
pub first_in_region : (p : PinContents) (regions : List Region) (r from : ℕ) (u : UsedRegion) (x : Option ℕ) → slice_index_or p.copies r None ≡ None → used_at regions r ≡ Some u → IsFirstIn (state_in_storage p u) r from x → IsFirstIn (state_seen p regions) r from x
first_in_region p regions r from u x none used h = first_in_same_states (state_in_storage p u) (state_seen p regions) r from x
    (λ c lt. sym (free_cell_is_kept p regions (cell_of r c) none
    ∙ ap (λ o. state_kept p.ended (byte_in p.cells (cell_of r c)) (cell_state o)) (object_of_used regions (cell_of r c) ∙ ap (λ s. slot_object s c) used)))
    h

-- a region that is not in use, without one
pub none_in_unused_region : (p : PinContents) (regions : List Region) (r from : ℕ) → slice_index_or p.copies r None ≡ None → used_at regions r ≡ None → IsFirstIn (state_seen p regions) r from None
unfolding IsFirstIn
none_in_unused_region p regions r from none unused = λ c low lt e. zero_is_not_one (sym (empty_cell_was_empty p regions (cell_of r c) none (ap cell_state (object_of_used regions (cell_of r c) ∙ ap (λ s. slot_object s c) unused))) ∙ e)
  where
    zero_is_not_one : ◌≡◌ {A = ℕ} 0 1 → ⊥
    zero_is_not_one e = omega (arith, e)

-- past the cells of a region there is nothing
pub none_past_cells : (ended : Bool) (bytes : List ℕ) (u : UsedRegion) (r c : ℕ) → length u.cells ≤ c → state_by ended bytes u (cell_of r c) ≢ 1
none_past_cells ended bytes u r c past e = absurd (omega (arith, e, ap (λ o. state_kept ended (slice_index_or bytes c 0) (cell_state o)) (get_or_past u.cells c None past) ∙ nothing_was_nothing ended (slice_index_or bytes c 0)))

-- a live object of a region of which nothing is kept
live_stays : (ended : Bool) → state_kept ended 0 1 ≡ 1
live_stays true = refl
live_stays false = refl

pub live_now_is_shown : (p : PinContents) (regions : List Region) (r c : ℕ) (u : UsedRegion) → slice_index_or p.copies r None ≡ None → slice_index_or p.cells r [] ≡ blank → used_at regions r ≡ Some u → storage_states u (cell_of r c) ≡ 1 → state_seen p regions (cell_of r c) ≡ 1
live_now_is_shown p regions r c u none is used live =
    free_cell_is_kept p regions (cell_of r c) none
    ∙ ap (λ o. state_kept p.ended (byte_in p.cells (cell_of r c)) (cell_state o)) (object_of_used regions (cell_of r c) ∙ ap (λ s. slot_object s c) used)
    ∙ ap (state_kept p.ended (byte_in p.cells (cell_of r c))) live
    ∙ ap (λ b. state_kept p.ended b 1) (ap (λ l. slice_index_or l c 0) is ∙ zero_in_blank c)
    ∙ live_stays p.ended

-- a search of the cells of a region in use
pub first_of_storage : (f : ObjRef → ℕ) (r from c s : ℕ) → from ≤ c → c < 256 → HasNone f r from c → s ≡ f (cell_of r c) → s ≡ 1 → IsFirstIn f r from (Some c)
unfolding IsFirstIn
first_of_storage f r from c s low few none is one = (low, few, sym is ∙ one, none)

pub none_of_storage_goes_on : (f : ObjRef → ℕ) (r from c s : ℕ) → HasNone f r from c → s ≡ f (cell_of r c) → s ≢ 1 → HasNone f r from (c + 1)
none_of_storage_goes_on f r from c s none is other i low lt e = elim (cases_lt i c) [
  | inl less ↦ none i low less e
  | inr past ↦ other (is ∙ ap (λ j. f (cell_of r j)) (let same : c ≡ i = omega (arith, past, lt) in same) ∙ e)
]

pub none_of_storage : (ended : Bool) (bytes : List ℕ) (u : UsedRegion) (r from c : ℕ) → length u.cells ≤ c → HasNone (state_by ended bytes u) r from c → IsFirstIn (state_by ended bytes u) r from None
unfolding IsFirstIn
none_of_storage ended bytes u r from c past none i low lt e = elim (cases_lt i c) [
  | inl less ↦ none i low less e
  | inr more ↦ none_past_cells ended bytes u r i (omega (arith, past, more)) e
]

-- what was found by the bytes is what the pin shows
pub first_by_bytes : (p : PinContents) (u : UsedRegion) (r from : ℕ) (bytes : List ℕ) (x : Option ℕ) → slice_index_or p.cells r [] ≡ bytes → IsFirstIn (state_by p.ended bytes u) r from x → IsFirstIn (state_in_storage p u) r from x
first_by_bytes p u r from bytes x is h = first_in_same_states (state_by p.ended bytes u) (state_in_storage p u) r from x (λ c lt. ap (λ l. state_kept p.ended (slice_index_or l c 0) (storage_states u (cell_of r c))) (sym is)) h

pub first_by_no_bytes : (p : PinContents) (u : UsedRegion) (r from : ℕ) (x : Option ℕ) → slice_index_or p.cells r [] ≡ blank → IsFirstIn (state_by p.ended [] u) r from x → IsFirstIn (state_in_storage p u) r from x
first_by_no_bytes p u r from x is h = first_in_same_states (state_by p.ended [] u) (state_in_storage p u) r from x
    (λ c lt. ap (λ b. state_kept p.ended b (storage_states u (cell_of r c))) (sym (ap (λ l. slice_index_or l c 0) is ∙ zero_in_blank c))) h

-- the cell that a search from one on found
unfoldable pub go_on : ℕ → Option ℕ → Option ℕ
go_on from None = None
go_on from (Some k) = Some (from + k)

-- a search of the states from one on
pub first_byte_is_first : (states : List ℕ) (from : ℕ) (rest : List ℕ) (x : Option ℕ) → from ≤ 256 → length states ≡ 256 → rest ≡ drop from states → IsFirstByte (is_byte 1) rest x → (r : ℕ) → IsFirstIn (λ at. slice_index_or states at.cell 0) r from (go_on from x)
unfolding IsFirstIn go_on
first_byte_is_first states from rest None few sized dropped h r = λ c low lt e.
    h (c - from) (omega arith) (omega (arith, low, lt, sized, ap length dropped, length-drop from states)) (eq-eqb (get_or rest (c - from) 0) 1 (byte_of c low ∙ e))
  where
    byte_of : (c : ℕ) → from ≤ c → get_or rest (c - from) 0 ≡ get_or states c 0
    byte_of c low = ap (λ l. get_or l (c - from) 0) dropped ∙ get_or-drop from states (c - from) 0 ∙ ap (λ j. get_or states j 0) (let z : from + (c - from) ≡ c = omega (arith, low) in z)
first_byte_is_first states from rest (Some k) few sized dropped h r = (
  omega arith,
  omega (arith, h.0.high, sized, few, ap length dropped, length-drop from states),
  sym (byte_at k) ∙ eqb-true (get_or rest k 0) 1 h.1,
  λ c low lt e. h.0.before (c - from) (omega arith) (omega (arith, low, lt)) (eq-eqb (get_or rest (c - from) 0) 1 (byte_at (c - from) ∙ ap (λ j. get_or states j 0) (let z : from + (c - from) ≡ c = omega (arith, low) in z) ∙ e)),
)
  where
    byte_at : (k : ℕ) → get_or rest k 0 ≡ get_or states (from + k) 0
    byte_at k = ap (λ l. get_or l k 0) dropped ∙ get_or-drop from states k 0

-- the states are the bytes of the region
pub first_of_bytes : (cells : List (List ℕ)) (r from : ℕ) (bytes : List ℕ) (x : Option ℕ) → slice_index_or cells r [] ≡ bytes → IsFirstIn (λ at. slice_index_or bytes at.cell 0) r from x → IsFirstIn (byte_in cells) r from x
first_of_bytes cells r from bytes x is h = first_in_same_states (λ at. slice_index_or bytes at.cell 0) (byte_in cells) r from x (λ c lt. ap (λ l. slice_index_or l c 0) (sym is)) h

pub none_in_blank : (cells : List (List ℕ)) (r from : ℕ) → slice_index_or cells r [] ≡ blank → IsFirstIn (byte_in cells) r from None
unfolding IsFirstIn
none_in_blank cells r from is = λ c low lt e. absurd (zero_is_not_one (sym (ap (λ l. slice_index_or l c 0) is ∙ zero_in_blank c) ∙ e))
  where
    zero_is_not_one : ◌≡◌ {A = ℕ} 0 1 → ⊥
    zero_is_not_one e = omega (arith, e)

-- ---- regions

place_in_region : (r i : ℕ) → 256 * r ≤ i → i < 256 * r + 256 → place i ≡ cell_of r (i - 256 * r)
place_in_region r i low lt = place_of_number_by_cell r (i - 256 * r) i (omega (arith, low, lt)) (omega (arith, low))

-- none from number k to the cell `from` of region r
abbrev pub NoneUpTo : (ObjRef → ℕ) → ℕ → ℕ → ℕ → Type 0
NoneUpTo f k r from = (i : ℕ) → k ≤ i → i < 256 * r + from → f (place i) ≢ 1

pub none_at_first : (f : ObjRef → ℕ) (r from : ℕ) → NoneUpTo f (256 * r + from) r from
none_at_first f r from i low lt e = absurd (omega (arith, low, lt))

none_in_region_before : (f : ObjRef → ℕ) (k r from to i : ℕ) → to ≤ 256 → NoneUpTo f k r from → HasNone f r from to → k ≤ i → i < 256 * r + to → f (place i) ≢ 1
none_in_region_before f k r from to i few before none low lt e = elim (cases_lt i (256 * r + from)) [
  | inl less ↦ before i low less e
  | inr past ↦ none (i - 256 * r) (omega (arith, past)) (omega (arith, past, lt)) (ap f (sym (place_in_region r i (omega (arith, past)) (omega (arith, lt, few)))) ∙ e)
]

pub none_in_region_goes_on : (f : ObjRef → ℕ) (k r from : ℕ) → NoneUpTo f k r from → IsFirstIn f r from None → NoneUpTo f k (r + 1) 0
unfolding IsFirstIn
none_in_region_goes_on f k r from before none i low lt = none_in_region_before f k r from 256 i (omega arith) before none low (omega (arith, lt))

pub first_in_region_is_first : (f : ObjRef → ℕ) (n k r from c : ℕ) → r < n → k ≤ 256 * r + from → NoneUpTo f k r from → IsFirstIn f r from (Some c) → IsFirstPlace f (256 * n) k (Some (record { region = r; cell = c }))
unfolding IsFirstIn IsFirstPlace
first_in_region_is_first f n k r from c within low before h = (
  256 * r + c,
  omega (arith, low, h.0),
  omega (arith, within, h.1),
  sym (place_of_number_by_cell r c (256 * r + c) h.1 refl),
  h.2,
  λ i at_least lt. none_in_region_before f k r from c i (omega (arith, h.1)) before h.3 at_least lt,
)

pub live_cell_is_first : (f : ObjRef → ℕ) (n r c : ℕ) → r < n → c < 256 → f (cell_of r c) ≡ 1 → IsFirstPlace f (256 * n) (256 * r + c) (Some (record { region = r; cell = c }))
unfolding IsFirstIn
live_cell_is_first f n r c within few is = first_in_region_is_first f n (256 * r + c) r c c within (omega arith) (none_at_first f r c) (omega arith, few, is, λ i low lt e. absurd (omega (arith, low, lt)))

pub none_in_regions_is_none : (f : ObjRef → ℕ) (n k r from : ℕ) → n ≤ r → NoneUpTo f k r from → IsFirstPlace f (256 * n) k None
unfolding IsFirstPlace
none_in_regions_is_none f n k r from past before i low lt = before i low (omega (arith, past, lt))
