-- The place after one, by a search for the next cell with a live object.
use Rattle.std.proofs.Common.{◌≡◌, ◌≢◌, ℕ, zero, suc, ◌+◌, ◌-◌, ◌<◌, ◌≤◌, Bool, true, false, List, [], ◌∷◌, length, drop, Option, Some, None, refl, sym, ap, ◌∙◌, arith}
use mathlib.Core.Logic.{inl, inr}
use Rattle.std.specs.Prelude.{slice_get, ◌==◌, if◌then◌else◌}
use Rattle.std.proofs.lemmas.Bool.{cases_lt, ne_eqb}
use Rattle.std.proofs.lemmas.List.{drop_all}
use Rattle.heap_class.specs.declared.ObjRef.{ObjRef}
use Rattle.heap_pins.specs.Pin.{place, places_from, states_from}
use Rattle.heap_pins.specs.States.{IsFirstPlace}
use Rattle.heap_pins.proofs.CellStates.{length_states, rest_of_states}

-- the byte of a place that is listed, and what comes after it
pub record ComesAfter (k : ℕ) (bs : List ℕ) (i : ℕ) (at : ObjRef) : Type 0 where
  pub byte : ℕ
  pub within : byte < length bs
  pub here : at ≡ place (k + byte)
  pub after : slice_get (places_from k bs) (suc i) ≡ slice_get (places_from (k + byte + 1) (drop (byte + 1) bs)) 0

next_place_past_first_byte : (k b : ℕ) (bs : List ℕ) (i j : ℕ) (at : ObjRef) → slice_get (places_from k (b ∷ bs)) (suc i) ≡ slice_get (places_from (k + 1) bs) (suc j) → ComesAfter (k + 1) bs j at → ComesAfter k (b ∷ bs) i at
next_place_past_first_byte k b bs i j at same c = record {
  byte = suc c.byte;
  within = omega (arith, c.within);
  here = c.here ∙ ap place (let e : k + 1 + c.byte ≡ k + suc c.byte = omega arith in e);
  after = same ∙ c.after ∙ (λ t. slice_get (places_from ((let e : k + 1 + c.byte + 1 ≡ k + suc c.byte + 1 = omega arith in e) t) (drop ((let e : c.byte + 1 ≡ c.byte + 1 = refl in e) t) bs)) 0)
      ∙ ap (λ n. slice_get (places_from (k + suc c.byte + 1) (drop n (b ∷ bs))) 0) (let e : suc (c.byte + 1) ≡ suc c.byte + 1 = omega arith in e);
}

pub each_place_has_a_successor : (k : ℕ) (bs : List ℕ) (i : ℕ) (at : ObjRef) → slice_get (places_from k bs) i ≡ Some at → ComesAfter k bs i at
unfolding places_from
each_place_has_a_successor k [] i at h = cc
each_place_has_a_successor k (b ∷ bs) i at h = go (b == 1) refl i h (λ j. each_place_has_a_successor (k + 1) bs j at)
  where
    go : (t : Bool) → (b == 1) ≡ t → (i : ℕ) → slice_get (if t then place k ∷ places_from (k + 1) bs else places_from (k + 1) bs) i ≡ Some at → ((j : ℕ) → slice_get (places_from (k + 1) bs) j ≡ Some at → ComesAfter (k + 1) bs j at) → ComesAfter k (b ∷ bs) i at
    go true e zero h rest = record {
      byte = 0;
      within = omega arith;
      here = sym (some_is h) ∙ ap place (let z : k ≡ k + 0 = omega arith in z);
      after = ap (λ t. slice_get (if t then place k ∷ places_from (k + 1) bs else places_from (k + 1) bs) 1) e
          ∙ (λ t. slice_get (places_from ((let z : k + 1 ≡ k + 0 + 1 = omega arith in z) t) bs) 0);
    }
      where
        some_is : Some (place k) ≡ Some at → place k ≡ at
        some_is e = cc
    go true e (suc j) h rest = next_place_past_first_byte k b bs (suc j) j at (ap (λ t. slice_get (if t then place k ∷ places_from (k + 1) bs else places_from (k + 1) bs) (suc (suc j))) e) (rest j h)
    go false e i h rest = next_place_past_first_byte k b bs i i at (ap (λ t. slice_get (if t then place k ∷ places_from (k + 1) bs else places_from (k + 1) bs) (suc i)) e) (rest i h)

-- ---- the first place from a cell on

first_of_list : (f : ObjRef → ℕ) (k n : ℕ) (b : Bool) → (f (place k) == 1) ≡ b → slice_get (places_from k (states_from f k (suc n))) 0 ≡ (if b then Some (place k) else slice_get (places_from (k + 1) (states_from f (k + 1) n)) 0)
unfolding places_from states_from
first_of_list f k n true e = ap (λ t. slice_get (if t then place k ∷ places_from (k + 1) (states_from f (k + 1) n) else places_from (k + 1) (states_from f (k + 1) n)) 0) e
first_of_list f k n false e = ap (λ t. slice_get (if t then place k ∷ places_from (k + 1) (states_from f (k + 1) n) else places_from (k + 1) (states_from f (k + 1) n)) 0) e

none_of_no_states : (f : ObjRef → ℕ) (k : ℕ) → slice_get (places_from k (states_from f k 0)) 0 ≡ None
unfolding places_from states_from
none_of_no_states f k = refl

no_place_of_no_states : (k : ℕ) → None ≡ slice_get (places_from k []) 0
unfolding places_from
no_place_of_no_states k = refl

-- n cells from k on, of which the first j aren't live and the next is
first_is_found : (f : ObjRef → ℕ) (k n j : ℕ) → j < n → f (place (k + j)) ≡ 1 → ((i : ℕ) → i < j → f (place (k + i)) ≢ 1) → slice_get (places_from k (states_from f k n)) 0 ≡ Some (place (k + j))
first_is_found f k zero j lt there before = absurd (omega (arith, lt))
first_is_found f k (suc n) zero lt there before =
    let z : k ≡ k + 0 = omega arith in
    first_of_list f k n true (ap (λ m. f (place m) == 1) z ∙ ap (λ s. s == 1) there) ∙ ap (λ m. Some (place m)) z
first_is_found f k (suc n) (suc j) lt there before =
    let z : k ≡ k + 0 = omega arith in
    let e : k + 1 + j ≡ k + suc j = omega arith in
    first_of_list f k n false (ne_eqb (f (place k)) 1 (λ q. before 0 (omega arith) (ap (λ m. f (place m)) (sym z) ∙ q)))
    ∙ first_is_found f (k + 1) n j (omega (arith, lt)) (ap (λ m. f (place m)) e ∙ there)
    (λ i less q. before (suc i) (omega (arith, less)) (ap (λ m. f (place m)) (let d : k + suc i ≡ k + 1 + i = omega arith in d) ∙ q))
    ∙ ap (λ m. Some (place m)) e

-- n cells from k on, none of which is live
none_is_found : (f : ObjRef → ℕ) (k n : ℕ) → ((i : ℕ) → i < n → f (place (k + i)) ≢ 1) → slice_get (places_from k (states_from f k n)) 0 ≡ None
none_is_found f k zero before = none_of_no_states f k
none_is_found f k (suc n) before =
    let z : k ≡ k + 0 = omega arith in
    first_of_list f k n false (ne_eqb (f (place k)) 1 (λ q. before 0 (omega arith) (ap (λ m. f (place m)) (sym z) ∙ q)))
    ∙ none_is_found f (k + 1) n (λ i less q. before (suc i) (omega (arith, less)) (ap (λ m. f (place m)) (let d : k + suc i ≡ k + 1 + i = omega arith in d) ∙ q))

-- the first place from cell number k on, of n cells
pub first_place_is_found : (f : ObjRef → ℕ) (n k : ℕ) (result : Option ObjRef) → IsFirstPlace f n k result → result ≡ slice_get (places_from k (drop k (states_from f 0 n))) 0
unfolding IsFirstPlace
first_place_is_found f n k result h = elim (cases_lt k (suc n)) [
  | inl lt ↦ (let all : k + (n - k) ≡ n = omega (arith, lt) in
      let z : 0 + k ≡ k = omega arith in
      let rest : drop k (states_from f 0 n) ≡ states_from f k (n - k) = ap (λ m. drop k (states_from f 0 m)) (sym all) ∙ rest_of_states f 0 k (n - k) ∙ ap (λ m. states_from f m (n - k)) z in
      go result h (omega (arith, lt)) ∙ ap (λ l. slice_get (places_from k l) 0) (sym rest))
  | inr past ↦ (let none : drop k (states_from f 0 n) ≡ [] = drop_all k (states_from f 0 n) (omega (arith, past, length_states f 0 n)) in
      nothing result h (omega (arith, past)) ∙ ap (λ l. slice_get (places_from k l) 0) (sym none))
]
  where
    go : (x : Option ObjRef) → IsFirstPlace f n k x → k ≤ n → x ≡ slice_get (places_from k (states_from f k (n - k))) 0
    go None h le = sym (none_is_found f k (n - k) (λ i lt. h (k + i) (omega arith) (omega (arith, lt, le))))
    go (Some at) h le =
        let is : k + (h.0 - k) ≡ h.0 = omega (arith, h.1) in
        ap Some h.3 ∙ sym (first_is_found f k (n - k) (h.0 - k) (omega (arith, h.1, h.2, le)) (ap (λ m. f (place m)) is ∙ ap f (sym h.3) ∙ h.4)
        (λ i lt. h.5 (k + i) (omega arith) (omega (arith, lt, h.1))) ∙ ap (λ m. Some (place m)) is)

    nothing : (x : Option ObjRef) → IsFirstPlace f n k x → n ≤ k → x ≡ slice_get (places_from k []) 0
    nothing None h le = no_place_of_no_states k
    nothing (Some at) h le = absurd (omega (arith, h.1, h.2, le))

-- a listed place is one of 256 cells
pub listed_cell_below_256 : (states : List ℕ) (i : ℕ) (at : ObjRef) → slice_get (places_from 0 states) i ≡ Some at → at.cell < 256
listed_cell_below_256 states i at h =
    let c : ComesAfter 0 states i at = each_place_has_a_successor 0 states i at h in
    omega (arith, ap (λ (b : ObjRef). b.cell) c.here)
