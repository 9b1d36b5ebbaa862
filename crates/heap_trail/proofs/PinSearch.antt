-- The slot that has a number.
use Rattle.std.proofs.Common.{◌≡◌, ℕ, zero, suc, ◌+◌, ◌<◌, ◌≤◌, Bool, true, false, cond, not, List, [], ◌∷◌, length, map, get_or, Option, Some, None, refl, sym, ap, subst, ◌∙◌, arith}
use Rattle.std.specs.Prelude.{nat_lt, ◌==◌, find, option_map}
use Rattle.std.specs.List.{position, position_or_len}
use Rattle.std.proofs.lemmas.Bool.{ne_eqb, eq-eqb, eqb-true}
use Rattle.std.proofs.lemmas.List.Quantifiers.{position-Some}
use Rattle.heap_class.specs.declared.IdSize.{IdSize}
use Rattle.heap_world.specs.State.{HeapState}
use Rattle.heap_trail.specs.declared.held.NumberedPin.{NumberedPin}
use Rattle.heap_trail.specs.Pins.{PinState, pin_at}
use Rattle.heap_trail.specs.OpenPins.{state_of, pins_of, HoldsAt, AreAbove, AreHeld}

-- a slot as the model sees it
abbrev pub seen : HeapState → NumberedPin → ℕ × PinState
seen w s = (s.number, state_of w s.held)

-- the slot s stands at place i of the list
pub record IsThere (ss : List NumberedPin) (i : ℕ) (s : NumberedPin) : Type 0 where
  pub within : i < length ss
  pub here : s ≡ get_or ss i s

-- the slot that is found in a slice of the list has the number
pub slot_found : (number : ℕ) (ss slice : List NumberedPin) (r : Option ℕ) (i : ℕ) (s : NumberedPin) → slice ≡ ss → r ≡ position (λ s. s.number == number) slice → r ≡ Some i → s ≡ get_or ss i s → IsThere ss i s × (s.number ≡ number)
slot_found number ss slice r i s same is found here =
    let p = position-Some (λ (s : NumberedPin). s.number == number) ss i s (sym (ap (position (λ (s : NumberedPin). s.number == number)) same) ∙ sym is ∙ found) in
    (record { within = p.0; here = here }, eqb-true s.number number (subst (λ (x : NumberedPin). (x.number == number) ≡ true) (sym here) p.1))

-- those after it have greater numbers
pub number_of_slot_is_above : (n : ℕ) (ss : List NumberedPin) (i : ℕ) (s : NumberedPin) → AreAbove n ss → i < length ss → s ≡ get_or ss i s → n < s.number
number_of_slot_is_above n [] i s a lt here = absurd (omega (arith, lt))
number_of_slot_is_above n (t ∷ ss) zero s a lt here = subst (λ (x : NumberedPin). n < x.number) (sym here) a.0
number_of_slot_is_above n (t ∷ ss) (suc i) s a lt here = number_of_slot_is_above n ss i s a.1 (omega (arith, lt)) here

-- the model finds it by its number
pin_found_by_slot_number : (ids : IdSize) (states : List HeapState) (place next : ℕ) (w : HeapState) (ss : List NumberedPin) (i : ℕ) (s : NumberedPin) → AreHeld ids states place next ss → i < length ss → s ≡ get_or ss i s → find {X = ℕ × PinState} (λ e. e.0 == s.number) (map {B = ℕ × PinState} (seen w) ss) ≡ Some (seen w s)
pin_found_by_slot_number ids states place next w [] i s h lt here = absurd (omega (arith, lt))
pin_found_by_slot_number ids states place next w (t ∷ ss) zero s h lt here =
    let e : (t.number == s.number) ≡ true = eq-eqb t.number s.number (ap (λ (x : NumberedPin). x.number) (sym here)) in
    ap (λ b. cond b (Some (seen w t)) (find {X = ℕ × PinState} (λ e. e.0 == s.number) (map {B = ℕ × PinState} (seen w) ss))) e ∙ ap (λ (x : NumberedPin). Some (seen w x)) (sym here)
pin_found_by_slot_number ids states place next w (t ∷ ss) (suc i) s h lt here =
    let above : t.number < s.number = number_of_slot_is_above t.number ss i s h.2 (omega (arith, lt)) here in
    let e : (t.number == s.number) ≡ false = ne_eqb t.number s.number (λ q. let z : t.number ≡ s.number = q in omega (arith, z, above)) in
    ap (λ b. cond b (Some (seen w t)) (find {X = ℕ × PinState} (λ e. e.0 == s.number) (map {B = ℕ × PinState} (seen w) ss))) e ∙ pin_found_by_slot_number ids states place next w ss i s h.3 (omega (arith, lt)) here

pub pin_found : (ids : IdSize) (states : List HeapState) (place next : ℕ) (w : HeapState) (ss : List NumberedPin) (i : ℕ) (s : NumberedPin) → AreHeld ids states place next ss → IsThere ss i s → pin_at s.number (pins_of w next ss) ≡ Some (state_of w s.held)
unfolding pin_at pins_of
pin_found ids states place next w ss i s h t = ap (option_map (λ (e : ℕ × PinState). e.1)) (pin_found_by_slot_number ids states place next w ss i s h t.within t.here)

-- no slot has the number
pin_without_slot_not_found : (w : HeapState) (number : ℕ) (ss : List NumberedPin) → nat_lt (position_or_len (λ s. s.number == number) ss) (length ss) ≡ false → find {X = ℕ × PinState} (λ e. e.0 == number) (map {B = ℕ × PinState} (seen w) ss) ≡ None
pin_without_slot_not_found w number [] h = refl
pin_without_slot_not_found w number (s ∷ ss) h = go (s.number == number) h (pin_without_slot_not_found w number ss)
  where
    go : (b : Bool) → nat_lt (cond (not b) (1 + position_or_len (λ s. s.number == number) ss) 0) (suc (length ss)) ≡ false
        → (nat_lt (position_or_len (λ s. s.number == number) ss) (length ss) ≡ false → find {X = ℕ × PinState} (λ e. e.0 == number) (map {B = ℕ × PinState} (seen w) ss) ≡ None)
        → cond b (Some (seen w s)) (find {X = ℕ × PinState} (λ e. e.0 == number) (map {B = ℕ × PinState} (seen w) ss)) ≡ None
    go true h rest = let none : suc (length ss) ≤ 0 = grind (arith, h) in absurd (omega (arith, none))
    go false h rest = rest (grind (arith, h))

pub pin_missing : (w : HeapState) (next number : ℕ) (ss slice : List NumberedPin) (r : Option ℕ) → slice ≡ ss → r ≡ position (λ s. s.number == number) slice → r ≡ None → pin_at number (pins_of w next ss) ≡ None
unfolding pin_at pins_of
pin_missing w next number ss slice r same is none =
    ap (option_map (λ (e : ℕ × PinState). e.1)) (pin_without_slot_not_found w number ss (go (nat_lt (position_or_len (λ s. s.number == number) ss) (length ss)) (sym (ap (position (λ (s : NumberedPin). s.number == number)) same) ∙ sym is ∙ none)))
  where
    go : (b : Bool) → cond b (Some (position_or_len (λ (s : NumberedPin). s.number == number) ss)) None ≡ None → b ≡ false
    go true e = cc
    go false e = refl

-- what holds of its pin
pin_of_slot_is_held : (ids : IdSize) (states : List HeapState) (place next : ℕ) (ss : List NumberedPin) (i : ℕ) (s : NumberedPin) → AreHeld ids states place next ss → i < length ss → s ≡ get_or ss i s → HoldsAt ids states place s.held
pin_of_slot_is_held ids states place next [] i s h lt here = absurd (omega (arith, lt))
pin_of_slot_is_held ids states place next (t ∷ ss) zero s h lt here = subst (λ (x : NumberedPin). HoldsAt ids states place x.held) (sym here) h.0
pin_of_slot_is_held ids states place next (t ∷ ss) (suc i) s h lt here = pin_of_slot_is_held ids states place next ss i s h.3 (omega (arith, lt)) here

pub pin_of_searched_slot_held : (ids : IdSize) (states : List HeapState) (place next : ℕ) (ss : List NumberedPin) (i : ℕ) (s : NumberedPin) → AreHeld ids states place next ss → IsThere ss i s → HoldsAt ids states place s.held
pin_of_searched_slot_held ids states place next ss i s h there = pin_of_slot_is_held ids states place next ss i s h there.within there.here
