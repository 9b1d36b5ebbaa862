-- The states of cells, in lists and as a pin shows them.
use Rattle.std.proofs.Common.{◌≡◌, ◌≢◌, ℕ, zero, suc, ◌+◌, ◌*◌, ◌/◌, ◌%◌, ◌<◌, Bool, true, false, List, [], length, length-set, set, get_or, drop, Option, Some, None, refl, sym, ap, ◌∙◌, arith}
use mathlib.Core.Logic.{inl, inr}
use Rattle.std.specs.Prelude.{◌==◌, is_some, slice_index_or, if◌then◌else◌}
use Rattle.std.proofs.lemmas.List.{ext_get_or, get_or-set_same, get_or-set_other}
use Rattle.std.proofs.lemmas.Nat.{div-mul-add, mod-mul-add}
use Rattle.heap_class.specs.declared.ObjRef.{ObjRef}
use Rattle.heap_region.specs.Regions.{Region}
use Rattle.heap_region.specs.RegionCopies.{Frozen}
use Rattle.heap_region.proofs.ChangedLookups.{same_or_not}
use Rattle.heap_pins.specs.Pin.{PinContents, place, byte_in, state_kept, state_beside, state_seen, states_from, states_of_region}
use Rattle.heap_pins.specs.States.{AreOf, cell_of, cell_states}

-- ---- lists of states

pub place_of_number_by_cell : (r c k : ℕ) → c < 256 → k ≡ 256 * r + c → place k ≡ record { region = r; cell = c }
place_of_number_by_cell r c k few e =
    let d : k / 256 ≡ r = ap (λ n. n / 256) (e ∙ omega arith) ∙ div-mul-add r 256 c few in
    let m : k % 256 ≡ c = ap (λ n. n % 256) (e ∙ omega arith) ∙ mod-mul-add r 256 c few in
    λ i. record { region = d i; cell = m i }

pub length_states : (f : ObjRef → ℕ) (k n : ℕ) → length (states_from f k n) ≡ n
unfolding states_from
length_states f k zero = refl
length_states f k (suc n) = ap suc (length_states f (k + 1) n)

pub state_in_list : (f : ObjRef → ℕ) (k n i : ℕ) → i < n → get_or (states_from f k n) i 0 ≡ f (place (k + i))
unfolding states_from
state_in_list f k zero i lt = absurd (omega (arith, lt))
state_in_list f k (suc n) zero lt = ap (λ j. f (place j)) (let z : k ≡ k + 0 = omega arith in z)
state_in_list f k (suc n) (suc i) lt = state_in_list f (k + 1) n i (omega (arith, lt)) ∙ ap (λ j. f (place j)) (let z : k + 1 + i ≡ k + suc i = omega arith in z)

pub state_in_region : (f : ObjRef → ℕ) (r c : ℕ) → c < 256 → get_or (states_of_region f r) c 0 ≡ f (cell_of r c)
state_in_region f r c lt = state_in_list f (256 * r) 256 c lt ∙ ap f (place_of_number_by_cell r c (256 * r + c) lt refl)

-- bytes that are the states of a region's cells are the list of them
pub bytes_are_states : (f : ObjRef → ℕ) (r : ℕ) (bytes : List ℕ) → AreOf f r 256 bytes → bytes ≡ states_of_region f r
bytes_are_states f r bytes a = ext_get_or 0 bytes (states_of_region f r) (a.count ∙ sym (length_states f (256 * r) 256))
    (λ i lt. a.each i (omega (arith, lt, a.count)) ∙ sym (state_in_region f r i (omega (arith, lt, a.count))))

-- the first bytes of a region, one by one
pub no_bytes_are_of : (f : ObjRef → ℕ) (r : ℕ) (bytes : List ℕ) → length bytes ≡ 256 → AreOf f r 0 bytes
no_bytes_are_of f r bytes e = record { count = e; each = λ c lt. absurd (omega (arith, lt)) }

pub one_more_byte_is_of : (f : ObjRef → ℕ) (r n : ℕ) (bytes : List ℕ) (y : ℕ) → AreOf f r n bytes → n < 256 → y ≡ f (cell_of r n) → AreOf f r (n + 1) (set bytes n y)
one_more_byte_is_of f r n bytes y a lt e = record {
  count = length-set bytes n y ∙ a.count;
  each = λ c less. elim (same_or_not c n) [
    | inl same ↦ ap (λ j. get_or (set bytes n y) j 0) same ∙ get_or-set_same bytes n y 0 (omega (arith, lt, a.count)) ∙ e ∙ ap (λ j. f (cell_of r j)) (sym same)
    | inr ne ↦ get_or-set_other bytes n c y 0 ne ∙ a.each c (omega (arith, less, ne))
  ];
}

-- what gives the same states of a region's cells gives the same list
pub same_states_same_list : (f g : ObjRef → ℕ) (r : ℕ) → ((c : ℕ) → c < 256 → f (cell_of r c) ≡ g (cell_of r c)) → states_of_region f r ≡ states_of_region g r
same_states_same_list f g r same = bytes_are_states g r (states_of_region f r) (record {
  count = length_states f (256 * r) 256;
  each = λ c lt. state_in_region f r c lt ∙ same c lt;
})

pub rest_of_states : (f : ObjRef → ℕ) (k m n : ℕ) → drop m (states_from f k (m + n)) ≡ states_from f (k + m) n
unfolding states_from
rest_of_states f k zero n = λ i. states_from f ((let e : k ≡ k + 0 = omega arith in e) i) ((let e : 0 + n ≡ n = omega arith in e) i)
rest_of_states f k (suc m) n =
    ap (λ j. drop (suc m) (states_from f k j)) (let z : suc m + n ≡ suc (m + n) = omega arith in z)
    ∙ rest_of_states f (k + 1) m n
    ∙ ap (λ j. states_from f j n) (let e : k + 1 + m ≡ k + suc m = omega arith in e)

-- ---- bytes

pub byte_of_other_region : (cells : List (List ℕ)) (r : ℕ) (bytes : List ℕ) (b : ObjRef) → b.region ≢ r → byte_in (set cells r bytes) b ≡ byte_in cells b
byte_of_other_region cells r bytes b ne = ap (λ l. get_or l b.cell 0) (get_or-set_other cells r b.region bytes [] ne)

pub byte_of_written_region : (cells : List (List ℕ)) (r : ℕ) (bytes : List ℕ) (b : ObjRef) → r < length cells → b.region ≡ r → byte_in (set cells r bytes) b ≡ get_or bytes b.cell 0
byte_of_written_region cells r bytes b lt e =
    ap (λ j. get_or (get_or (set cells r bytes) j []) b.cell 0) e ∙ ap (λ l. get_or l b.cell 0) (get_or-set_same cells r bytes [] lt)

-- ---- the state of a cell as a pin shows it

pub nothing_was_nothing : (ended : Bool) (byte : ℕ) → state_kept ended byte 0 ≡ 0
nothing_was_nothing ended byte = go (byte == 0) ended
  where
    go : (b e : Bool) → ◌≡◌ {A = ℕ} (if b then (if e then (if 0 == 0 then 0 else 1) else 0) else 0) 0
    go true true = refl
    go true false = refl
    go false e = refl

-- what a cell is shown to have had, it is shown to have had if it has that now
pub kept_state_is_kept : (ended : Bool) (copy : Option Frozen) (byte now : ℕ) → state_beside ended copy byte (state_beside ended copy byte now) ≡ state_beside ended copy byte now
unfolding state_beside
kept_state_is_kept ended (Some f) byte now = refl
kept_state_is_kept ended None byte now = go (byte == 0) ended (now == 0)
  where
    go : (b e z : Bool) → (if b then (if e then (if (if b then (if e then (if z then 0 else 1) else now) else 0) == 0 then 0 else 1) else (if b then (if e then (if z then 0 else 1) else now) else 0)) else 0)
        ≡ (if b then (if e then (if z then 0 else 1) else now) else 0)
    go true true true = refl
    go true true false = refl
    go true false z = refl
    go false e z = refl

pub copied_cell_has_its_byte : (p : PinContents) (regions : List Region) (b : ObjRef) (f : Frozen) → slice_index_or p.copies b.region None ≡ Some f → state_seen p regions b ≡ byte_in p.cells b
unfolding state_seen state_beside
copied_cell_has_its_byte p regions b f copy = ap (λ c. state_beside p.ended c (byte_in p.cells b) (cell_states regions b)) copy

pub free_cell_is_kept : (p : PinContents) (regions : List Region) (b : ObjRef) → slice_index_or p.copies b.region None ≡ None → state_seen p regions b ≡ state_kept p.ended (byte_in p.cells b) (cell_states regions b)
unfolding state_seen state_beside
free_cell_is_kept p regions b none = ap (λ c. state_beside p.ended c (byte_in p.cells b) (cell_states regions b)) none

pub taken_cell_was_empty : (p : PinContents) (regions : List Region) (b : ObjRef) → slice_index_or p.copies b.region None ≡ None → byte_in p.cells b ≡ 1 → state_seen p regions b ≡ 0
taken_cell_was_empty p regions b none taken = free_cell_is_kept p regions b none ∙ ap (λ t. state_kept p.ended t (cell_states regions b)) taken

pub empty_cell_was_empty : (p : PinContents) (regions : List Region) (b : ObjRef) → slice_index_or p.copies b.region None ≡ None → cell_states regions b ≡ 0 → state_seen p regions b ≡ 0
empty_cell_was_empty p regions b none empty = free_cell_is_kept p regions b none ∙ ap (state_kept p.ended (byte_in p.cells b)) empty ∙ nothing_was_nothing p.ended (byte_in p.cells b)

pub same_cell_same_state : (p : PinContents) (xs ys : List Region) (b : ObjRef) → cell_states xs b ≡ cell_states ys b → state_seen p xs b ≡ state_seen p ys b
unfolding state_seen
same_cell_same_state p xs ys b e = ap (state_beside p.ended (slice_index_or p.copies b.region None) (byte_in p.cells b)) e

pub same_pin_same_state : (p q : PinContents) (regions : List Region) (b : ObjRef) → q.ended ≡ p.ended → slice_index_or q.copies b.region None ≡ slice_index_or p.copies b.region None → byte_in q.cells b ≡ byte_in p.cells b → state_seen q regions b ≡ state_seen p regions b
unfolding state_seen
same_pin_same_state p q regions b e c t = λ i. state_beside (e i) (c i) (t i) (cell_states regions b)

pub copied_state_is_everywhere : (p : PinContents) (xs ys : List Region) (b : ObjRef) → is_some (slice_index_or p.copies b.region None) ≡ true → state_seen p xs b ≡ state_seen p ys b
unfolding state_seen state_beside
copied_state_is_everywhere p xs ys b e = go (slice_index_or p.copies b.region None) e
  where
    go : (c : Option Frozen) → is_some c ≡ true → state_beside p.ended c (byte_in p.cells b) (cell_states xs b) ≡ state_beside p.ended c (byte_in p.cells b) (cell_states ys b)
    go None e = cc
    go (Some f) e = refl

-- beside the state that a pin shows, it shows that state
pub shown_state_is_shown_beside_itself : (q : PinContents) (now then' : List Region) (b : ObjRef) → state_seen q now b ≡ cell_states then' b → state_seen q then' b ≡ cell_states then' b
unfolding state_seen
shown_state_is_shown_beside_itself q now then' b e =
    let c : Option Frozen = slice_index_or q.copies b.region None in
    ap (state_beside q.ended c (byte_in q.cells b)) (sym e) ∙ kept_state_is_kept q.ended c (byte_in q.cells b) (cell_states now b) ∙ e

-- ---- through a step

-- of one cell, q shows beside the state v after a step what p shows beside the state w before it, and so it does beside each
-- state beside which p shows that
pub record ShowsCell (p q : PinContents) (w v : List Region) (b : ObjRef) : Type 0 where
  pub shown : state_seen q v b ≡ state_seen p w b
  pub still : (x : List Region) → state_seen p x b ≡ state_seen p w b → state_seen q x b ≡ state_seen p w b

-- the pin is the same at this cell, and so is the cell
pub unchanged_cell_is_shown : (p q : PinContents) (w v : List Region) (b : ObjRef) → ((x : List Region) → state_seen q x b ≡ state_seen p x b) → state_seen p v b ≡ state_seen p w b → ShowsCell p q w v b
unchanged_cell_is_shown p q w v b same on = record { shown = same v ∙ on; still = λ x e. same x ∙ e }

-- the pin has a copy now
pub copied_cell_is_shown : (p q : PinContents) (w v : List Region) (b : ObjRef) (f : Frozen) → slice_index_or q.copies b.region None ≡ Some f → byte_in q.cells b ≡ state_seen p w b → ShowsCell p q w v b
copied_cell_is_shown p q w v b f copy byte = record { shown = at v; still = λ x e. at x }
  where
    at : (x : List Region) → state_seen q x b ≡ state_seen p w b
    at x = copied_cell_has_its_byte q x b f copy ∙ byte

-- a cell that was empty is taken
pub taken_cell_is_shown : (p q : PinContents) (w v : List Region) (b : ObjRef) → slice_index_or q.copies b.region None ≡ None → byte_in q.cells b ≡ 1 → slice_index_or p.copies b.region None ≡ None → cell_states w b ≡ 0 → ShowsCell p q w v b
taken_cell_is_shown p q w v b free taken none empty = record { shown = at v; still = λ x e. at x }
  where
    at : (x : List Region) → state_seen q x b ≡ state_seen p w b
    at x = taken_cell_was_empty q x b free taken ∙ sym (empty_cell_was_empty p w b none empty)

-- a cycle ended: each object was live
ended_kept : (ended : Bool) (byte after : ℕ) → state_kept true byte after ≡ state_kept ended byte (if after == 0 then 0 else 1)
ended_kept ended byte after = go (byte == 0) ended (after == 0)
  where
    go : (b e z : Bool) → ◌≡◌ {A = ℕ} (if b then (if z then 0 else 1) else 0) (if b then (if e then (if (if z then 0 else 1) == 0 then 0 else 1) else (if z then 0 else 1)) else 0)
    go true true true = refl
    go true true false = refl
    go true false z = refl
    go false e z = refl

ended_still : (ended : Bool) (byte after x : ℕ) → state_kept ended byte x ≡ state_kept ended byte (if after == 0 then 0 else 1) → state_kept true byte x ≡ state_kept ended byte (if after == 0 then 0 else 1)
ended_still ended byte after x = go (byte == 0) ended (after == 0)
  where
    go : (b e z : Bool) → ◌≡◌ {A = ℕ} (if b then (if e then (if x == 0 then 0 else 1) else x) else 0) (if b then (if e then (if (if z then 0 else 1) == 0 then 0 else 1) else (if z then 0 else 1)) else 0)
        → ◌≡◌ {A = ℕ} (if b then (if x == 0 then 0 else 1) else 0) (if b then (if e then (if (if z then 0 else 1) == 0 then 0 else 1) else (if z then 0 else 1)) else 0)
    go true true z h = h
    go true false true h = ap (λ n. if n == 0 then 0 else 1) h
    go true false false h = ap (λ n. if n == 0 then 0 else 1) h
    go false e z h = refl

pub ended_cell_is_shown : (p : PinContents) (w v : List Region) (b : ObjRef) → cell_states w b ≡ (if cell_states v b == 0 then 0 else 1) → ShowsCell p (record p { ended = true }) w v b
ended_cell_is_shown p w v b e = go (slice_index_or p.copies b.region None) refl
  where
    go : (c : Option Frozen) → slice_index_or p.copies b.region None ≡ c → ShowsCell p (record p { ended = true }) w v b
    go (Some f) c = copied_cell_is_shown p (record p { ended = true }) w v b f c (sym (copied_cell_has_its_byte p w b f c))
    go None c =
        let q : PinContents = record p { ended = true } in
        let before : state_seen p w b ≡ state_kept p.ended (byte_in p.cells b) (if cell_states v b == 0 then 0 else 1) = free_cell_is_kept p w b c ∙ ap (state_kept p.ended (byte_in p.cells b)) e in
        record {
          shown = free_cell_is_kept q v b c ∙ ended_kept p.ended (byte_in p.cells b) (cell_states v b) ∙ sym before;
          still = λ x same. free_cell_is_kept q x b c ∙ ended_still p.ended (byte_in p.cells b) (cell_states v b) (cell_states x b) (sym (free_cell_is_kept p x b c) ∙ same ∙ before) ∙ sym before;
        }
