-- What holds of all pins, and of those whose numbers are below another.
use Rattle.std.proofs.Common.{◌≡◌, ℕ, ◌<◌, Bool, true, false, cond, List, [], ◌∷◌, length, map, refl, sym, ap, subst, ◌∙◌, arith}
use Rattle.std.specs.Prelude.{All, filter, nat_lt, not}
use Rattle.std.proofs.lemmas.List.Elements.{All-nil, All-cons}
use Rattle.std.proofs.lemmas.List.Filters.{length-filter_both}
use Rattle.circular_buffer.specs.Buffer.{Buffer}
use Rattle.heap_class.specs.declared.IdSize.{IdSize}
use Rattle.heap_world.specs.State.{HeapState}
use Rattle.heap_step.specs.declared.Undo.{Undo}
use Rattle.heap_pins.proofs.PinViews.{view_dumpable}
use Rattle.heap_trail.specs.declared.held.Held.{Held}
use Rattle.heap_trail.specs.declared.held.Held.TheVariants.{Kept, Lost}
use Rattle.heap_trail.specs.declared.held.NumberedPin.{NumberedPin}
use Rattle.heap_trail.specs.Pins.{PinState, IsDumpablePin, AreNumbered, AreDumpable, pins_below}
use Rattle.heap_trail.specs.Records.{past_of, IsPinning}
use Rattle.heap_trail.specs.OpenPins.{state_of, pins_of, HoldsAt, AreAbove, AreHeld}
use Rattle.heap_trail.proofs.GivenPieces.{held_pin_can_give}
use Rattle.heap_trail.proofs.PinSearch.{seen}

-- ---- all pins

pin_list_is_numbered : (ids : IdSize) (states : List HeapState) (place next : ℕ) (w : HeapState) (ss : List NumberedPin) → AreHeld ids states place next ss → All {X = ℕ × PinState} (λ e. e.0 < next) (map {B = ℕ × PinState} (seen w) ss)
pin_list_is_numbered ids states place next w [] h = All-nil _
pin_list_is_numbered ids states place next w (s ∷ ss) h = All-cons {X = ℕ × PinState} (λ e. e.0 < next) (seen w s) _ h.1 (pin_list_is_numbered ids states place next w ss h.3)

pub pinning_pins_are_numbered : (ids : IdSize) (w : HeapState) (ring : Buffer Undo) (place next : ℕ) (ss : List NumberedPin) → IsPinning ids w ring place next ss → AreNumbered (pins_of w next ss)
unfolding pins_of
pinning_pins_are_numbered ids w ring place next ss p = pin_list_is_numbered ids (w ∷ past_of w ring.items) place next w ss p.held

dumpable_pin : (ids : IdSize) (w : HeapState) (past : List HeapState) (place : ℕ) (h : Held) → HoldsAt ids (w ∷ past) place h → IsDumpablePin (state_of w h)
unfolding state_of
dumpable_pin ids w past place (Kept at pin cursor given) h = view_dumpable pin w (held_pin_can_give ids w past place (Kept at pin cursor given) h).0
dumpable_pin ids w past place (Lost at cause) h = tt

pin_list_is_dumpable : (ids : IdSize) (w : HeapState) (past : List HeapState) (place next : ℕ) (ss : List NumberedPin) → AreHeld ids (w ∷ past) place next ss → All {X = ℕ × PinState} (λ e. IsDumpablePin e.1) (map {B = ℕ × PinState} (seen w) ss)
pin_list_is_dumpable ids w past place next [] h = All-nil _
pin_list_is_dumpable ids w past place next (s ∷ ss) h = All-cons {X = ℕ × PinState} (λ e. IsDumpablePin e.1) (seen w s) _ (dumpable_pin ids w past place s.held h.0) (pin_list_is_dumpable ids w past place next ss h.3)

pub pins_of_machine_are_dumpable : (ids : IdSize) (w : HeapState) (ring : Buffer Undo) (place next : ℕ) (ss : List NumberedPin) → IsPinning ids w ring place next ss → AreDumpable (pins_of w next ss)
unfolding pins_of
pins_of_machine_are_dumpable ids w ring place next ss p = pin_list_is_dumpable ids w (past_of w ring.items) place next ss p.held

-- ---- the pins below a number

abbrev pub below : ℕ → List NumberedPin → List NumberedPin
below number ss = filter (λ s. nat_lt s.number number) ss

pins_below_number_stay_above : (n number : ℕ) (ss : List NumberedPin) → AreAbove n ss → AreAbove n (below number ss)
pins_below_number_stay_above n number [] a = tt
pins_below_number_stay_above n number (s ∷ ss) a = go (nat_lt s.number number) (pins_below_number_stay_above n number ss a.1)
  where
    go : (b : Bool) → AreAbove n (below number ss) → AreAbove n (cond b (s ∷ below number ss) (below number ss))
    go true rest = (a.0, rest)
    go false rest = rest

pins_below_number_are_held : (ids : IdSize) (states : List HeapState) (place next number : ℕ) (ss : List NumberedPin) → AreHeld ids states place next ss → AreHeld ids states place next (below number ss)
pins_below_number_are_held ids states place next number [] h = tt
pins_below_number_are_held ids states place next number (s ∷ ss) h = go (nat_lt s.number number) (pins_below_number_are_held ids states place next number ss h.3)
  where
    go : (b : Bool) → AreHeld ids states place next (below number ss) → AreHeld ids states place next (cond b (s ∷ below number ss) (below number ss))
    go true rest = (h.0, h.1, pins_below_number_stay_above s.number number ss h.2, rest)
    go false rest = rest

pub pinning_below : (ids : IdSize) (w : HeapState) (ring : Buffer Undo) (place next number : ℕ) (ss ts : List NumberedPin) → IsPinning ids w ring place next ss → ts ≡ below number ss → IsPinning ids w ring place next ts
pinning_below ids w ring place next number ss ts p is = record {
  held = subst (AreHeld ids (w ∷ past_of w ring.items) place next) (sym is) (pins_below_number_are_held ids (w ∷ past_of w ring.items) place next number ss p.held);
  few = omega (arith, p.few, ap length is, length-filter_both (λ (s : NumberedPin). nat_lt s.number number) (λ (s : NumberedPin). not (nat_lt s.number number)) (λ s. refl) ss);
  numbered = p.numbered;
}

pins_below_number_are_seen : (w : HeapState) (number : ℕ) (ss : List NumberedPin) → map {B = ℕ × PinState} (seen w) (below number ss) ≡ filter (λ e. nat_lt e.0 number) (map {B = ℕ × PinState} (seen w) ss)
pins_below_number_are_seen w number [] = refl
pins_below_number_are_seen w number (s ∷ ss) = go (nat_lt s.number number) (pins_below_number_are_seen w number ss)
  where
    rest : List (ℕ × PinState)
    rest = filter (λ e. nat_lt e.0 number) (map {B = ℕ × PinState} (seen w) ss)

    go : (b : Bool) → map {B = ℕ × PinState} (seen w) (below number ss) ≡ rest → map {B = ℕ × PinState} (seen w) (cond b (s ∷ below number ss) (below number ss)) ≡ cond b (seen w s ∷ rest) rest
    go true same = ap (λ l. seen w s ∷ l) same
    go false same = same

pub pins_are_below : (w : HeapState) (next number : ℕ) (ss ts : List NumberedPin) → ts ≡ below number ss → pins_of w next ts ≡ pins_below number (pins_of w next ss)
unfolding pins_of pins_below
pins_are_below w next number ss ts is = ap (λ l. record { next = next; open_pins = l }) (ap (map {B = ℕ × PinState} (seen w)) is ∙ pins_below_number_are_seen w number ss)
