-- A pin that is closed.
use Rattle.std.proofs.Common.{◌≡◌, ◌≢◌, ℕ, zero, suc, ◌<◌, cond, List, [], ◌∷◌, length, map, None, refl, sym, ap, ◌∙◌, get_or, arith, subst}
use Rattle.std.specs.Prelude.{filter, not, ◌==◌}
use Rattle.std.specs.List.{remove}
use Rattle.std.proofs.lemmas.Bool.{ne_eqb, eq-eqb}
use Rattle.std.proofs.lemmas.List.Edits.{length-remove}
use Rattle.circular_buffer.specs.Buffer.{Buffer}
use Rattle.heap_class.specs.declared.IdSize.{IdSize}
use Rattle.heap_class.specs.declared.Refusal.TheVariants.{NoPin}
use Rattle.heap_world.specs.State.{HeapState}
use Rattle.heap_step.specs.declared.Undo.{Undo}
use Rattle.heap_trail.specs.declared.Action.TheVariants.{ClosePin}
use Rattle.heap_trail.specs.declared.Reply.TheVariants.{Closed, Refused}
use Rattle.heap_trail.specs.declared.held.NumberedPin.{NumberedPin}
use Rattle.heap_trail.specs.Pins.{PinState, pin_at, without_pin}
use Rattle.heap_trail.specs.Machine.{Machine, acted, after_close}
use Rattle.heap_trail.specs.OpenPins.{pins_of, AreAbove, AreHeld}
use Rattle.heap_trail.specs.Records.{past_of, IsPinning, machine_of}
use Rattle.heap_trail.proofs.PinSearch.{IsThere, seen, number_of_slot_is_above, pin_found}

-- ---- what stays

numbers_above_without_closed : (n i : ℕ) (ss : List NumberedPin) → AreAbove n ss → AreAbove n (remove ss i)
numbers_above_without_closed n zero [] a = tt
numbers_above_without_closed n zero (s ∷ []) a = tt
numbers_above_without_closed n zero (s ∷ t ∷ ss) a = a.1
numbers_above_without_closed n (suc i) [] a = tt
numbers_above_without_closed n (suc i) (s ∷ ss) a = (a.0, numbers_above_without_closed n i ss a.1)

pins_held_without_closed : (ids : IdSize) (states : List HeapState) (place next i : ℕ) (ss : List NumberedPin) → AreHeld ids states place next ss → AreHeld ids states place next (remove ss i)
pins_held_without_closed ids states place next zero [] h = tt
pins_held_without_closed ids states place next zero (s ∷ []) h = tt
pins_held_without_closed ids states place next zero (s ∷ t ∷ ss) h = h.3
pins_held_without_closed ids states place next (suc i) [] h = tt
pins_held_without_closed ids states place next (suc i) (s ∷ ss) h = (h.0, h.1, numbers_above_without_closed s.number i ss h.2, pins_held_without_closed ids states place next i ss h.3)

pub pinning_without : (ids : IdSize) (w : HeapState) (ring : Buffer Undo) (place next i : ℕ) (ss : List NumberedPin) → i < length ss → IsPinning ids w ring place next ss → IsPinning ids w ring place next (remove ss i)
pinning_without ids w ring place next i ss within p = record {
  held = pins_held_without_closed ids (w ∷ past_of w ring.items) place next i ss p.held;
  few = omega (arith, p.few, length-remove ss i within);
  numbered = p.numbered;
}

-- ---- what the model sees

-- all pins but the one with this number
abbrev pins_but_this_number : HeapState → ℕ → List NumberedPin → List (ℕ × PinState)
pins_but_this_number w pin ss = filter (λ e. not (e.0 == pin)) (map {B = ℕ × PinState} (seen w) ss)

-- a slot with another number stays
pin_of_other_number_stays : (w : HeapState) (pin : ℕ) (s : NumberedPin) (ss : List NumberedPin) → s.number ≢ pin → pins_but_this_number w pin (s ∷ ss) ≡ seen w s ∷ pins_but_this_number w pin ss
pin_of_other_number_stays w pin s ss n = ap (λ b. cond (not b) (seen w s ∷ pins_but_this_number w pin ss) (pins_but_this_number w pin ss)) (ne_eqb s.number pin n)

closed_pin_goes : (w : HeapState) (s : NumberedPin) (ss : List NumberedPin) → pins_but_this_number w s.number (s ∷ ss) ≡ pins_but_this_number w s.number ss
closed_pin_goes w s ss = ap (λ b. cond (not b) (seen w s ∷ pins_but_this_number w s.number ss) (pins_but_this_number w s.number ss)) (eq-eqb s.number s.number refl)

pins_above_number_stay : (w : HeapState) (pin : ℕ) (ss : List NumberedPin) → AreAbove pin ss → pins_but_this_number w pin ss ≡ map {B = ℕ × PinState} (seen w) ss
pins_above_number_stay w pin [] a = refl
pins_above_number_stay w pin (s ∷ ss) a =
    pin_of_other_number_stays w pin s ss (λ q. let z : s.number ≡ pin = q in omega (arith, z, a.0))
    ∙ ap (λ l. seen w s ∷ l) (pins_above_number_stay w pin ss a.1)

one_pin_goes_when_closed : (ids : IdSize) (states : List HeapState) (place next : ℕ) (w : HeapState) (i : ℕ) (ss : List NumberedPin) (s : NumberedPin) → AreHeld ids states place next ss → i < length ss → s ≡ get_or ss i s → pins_but_this_number w s.number ss ≡ map {B = ℕ × PinState} (seen w) (remove ss i)
one_pin_goes_when_closed ids states place next w i [] s h within here = absurd (omega (arith, within))
one_pin_goes_when_closed ids states place next w zero (t ∷ []) s h within here = subst (λ (x : NumberedPin). pins_but_this_number w x.number (t ∷ []) ≡ []) (sym here) (closed_pin_goes w t [])
one_pin_goes_when_closed ids states place next w zero (t ∷ u ∷ ss) s h within here =
    subst (λ (x : NumberedPin). pins_but_this_number w x.number (t ∷ u ∷ ss) ≡ map {B = ℕ × PinState} (seen w) (u ∷ ss)) (sym here)
    (closed_pin_goes w t (u ∷ ss) ∙ pins_above_number_stay w t.number (u ∷ ss) h.2)
one_pin_goes_when_closed ids states place next w (suc i) (t ∷ ss) s h within here =
    let less : t.number < s.number = number_of_slot_is_above t.number ss i s h.2 (omega (arith, within)) here in
    pin_of_other_number_stays w s.number t ss (λ q. let z : t.number ≡ s.number = q in omega (arith, z, less))
    ∙ ap (λ l. seen w t ∷ l) (one_pin_goes_when_closed ids states place next w i ss s h.3 (omega (arith, within)) here)

-- ---- the reply

pub close_done : (ids : IdSize) (w : HeapState) (ring : Buffer Undo) (place keep next i : ℕ) (ss : List NumberedPin) (s : NumberedPin) → IsPinning ids w ring place next ss → IsThere ss i s
    → acted (machine_of ids w ring place keep next ss) (ClosePin s.number) ≡ (machine_of ids w ring place keep next (remove ss i), Closed)
unfolding acted after_close without_pin pins_of
close_done ids w ring place keep next i ss s p t =
    rw (pin_found ids (w ∷ past_of w ring.items) place next w ss i s p.held t)
    (λ j. (record (machine_of ids w ring place keep next ss) { pins = record { next = next; open_pins = one_pin_goes_when_closed ids (w ∷ past_of w ring.items) place next w i ss s p.held t.within t.here j } }, Closed))

pub close_missing : (m : Machine) (pin : ℕ) → pin_at pin m.pins ≡ None → acted m (ClosePin pin) ≡ (m, Refused NoPin)
unfolding acted after_close
close_missing m pin none = ap (after_close pin m) none
