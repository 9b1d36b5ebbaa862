-- A pin on a retained state.
use Rattle.heap_class.specs.declared.IdSize.{IdSize}
use Rattle.std.proofs.Common.{◌≡◌, ℕ, ◌+◌, ◌-◌, ◌<◌, ◌≤◌, Bool, true, false, ◌||◌, ◌&&◌, List, [], ◌∷◌, ◌++◌, length, map, Option, None, refl, sym, ap, ◌∙◌, arith, length-append}
use Rattle.std.specs.Prelude.{nat_lt, nat_le, not, unwrap_or}
use Rattle.std.proofs.lemmas.Bool.{and_parts, leb-true}
use Rattle.std.proofs.lemmas.List.{length-map, map-append}
use Rattle.circular_buffer.specs.Buffer.{Buffer}
use Rattle.heap_class.specs.Refusals.{first_refusal}
use Rattle.heap_class.specs.declared.Refusal.TheVariants.{NotRetained, PinLimit}
use Rattle.heap_world.specs.State.{HeapState}
use Rattle.heap_step.specs.declared.Undo.{Undo}
use Rattle.hprof_text.specs.declared.Cursor.TheVariants.{Start}
use Rattle.heap_pins.specs.Images.{image_of}
use Rattle.heap_pins.specs.Pin.{PinContents, pin_image}
use Rattle.heap_pins.proofs.HeldPins.{held_image}
use Rattle.heap_trail.specs.declared.Action.TheVariants.{OpenPin}
use Rattle.heap_trail.specs.declared.Reply.{Reply}
use Rattle.heap_trail.specs.declared.Reply.TheVariants.{Pinned as PinnedReply, Refused}
use Rattle.heap_trail.specs.declared.held.Held.TheVariants.{Kept}
use Rattle.heap_trail.specs.declared.held.NumberedPin.{NumberedPin}
use Rattle.heap_world.specs.Limits.{pin_limit}
use Rattle.heap_trail.specs.Limits.{last_pin}
use Rattle.heap_trail.specs.Trail.{Trail, retained, state_ago}
use Rattle.heap_trail.specs.Pins.{PinState, is_retained, open_refusal, with_pin}
use Rattle.heap_trail.specs.Pins.{Kept as KeptState}
use Rattle.heap_trail.specs.Machine.{Machine, Denied, MayStand, acted, unless, after_open, may_grow, is_accepted}
use Rattle.heap_trail.specs.OpenPins.{state_of, pins_of, HoldsAt, AreAbove, AreHeld}
use Rattle.heap_trail.specs.Records.{past_of, IsPinning, machine_of}
use Rattle.heap_trail.specs.Past.{past_state, HoldsPast}

abbrev pub new_slot : ℕ → ℕ → PinContents → NumberedPin
new_slot number at pin = record { number = number; held = Kept at pin Start 0 }

-- ---- which places are retained

pub retained_parts : (t : Trail) (at : ℕ) → is_retained at t ≡ true → (at ≤ t.place) × (t.place - at ≤ retained t)
unfolding is_retained
retained_parts t at e =
    let both = and_parts (nat_le at t.place) (nat_le (t.place - retained t) at) e in
    (leb-true at t.place both.0, omega (arith, leb-true (t.place - retained t) at both.1))

pub retained_below : (t : Trail) (at : ℕ) → at ≤ t.place → nat_le (t.place - at) (retained t) ≡ is_retained at t
unfolding is_retained
retained_below t at below =
    let a : nat_le at t.place ≡ true = grind (arith, below) in
    let b : nat_le (t.place - at) (retained t) ≡ nat_le (t.place - retained t) at = grind (arith, below) in
    b ∙ ap (λ x. x && nat_le (t.place - retained t) at) (sym a)

pub retained_above : (t : Trail) (at : ℕ) → t.place < at → nat_le at t.place ≡ is_retained at t
unfolding is_retained
retained_above t at above =
    let a : nat_le at t.place ≡ false = grind (arith, above) in
    a ∙ ap (λ x. x && nat_le (t.place - retained t) at) (sym a)

-- ---- the pins with it

numbers_above_with_one_more : (n next : ℕ) (ss : List NumberedPin) (t : NumberedPin) → n < t.number → AreAbove n ss → AreAbove n (ss ++ t ∷ [])
numbers_above_with_one_more n next [] t lt a = (lt, tt)
numbers_above_with_one_more n next (s ∷ ss) t lt a = (a.0, numbers_above_with_one_more n next ss t lt a.1)

pins_held_with_one_more : (ids : IdSize) (states : List HeapState) (place next : ℕ) (ss : List NumberedPin) (t : NumberedPin) → HoldsAt ids states place t.held → t.number ≡ next → AreHeld ids states place next ss → AreHeld ids states place (next + 1) (ss ++ t ∷ [])
pins_held_with_one_more ids states place next [] t here is h = (here, omega (arith, is), tt, tt)
pins_held_with_one_more ids states place next (s ∷ ss) t here is h = (h.0, omega (arith, h.1), numbers_above_with_one_more s.number next ss t (omega (arith, is, h.1)) h.2, pins_held_with_one_more ids states place next ss t here is h.3)

pub pinning_more : (ids : IdSize) (w : HeapState) (ring : Buffer Undo) (place next at : ℕ) (ss : List NumberedPin) (pin : PinContents) → IsPinning ids w ring place next ss → at ≤ place → HoldsPast pin w ring.items (place - at) → length ss < pin_limit → next ≤ last_pin → IsPinning ids w ring place (next + 1) (ss ++ new_slot next at pin ∷ [])
pinning_more ids w ring place next at ss pin p below h few low = record {
  held = pins_held_with_one_more ids (w ∷ past_of w ring.items) place next ss (new_slot next at pin) (past_state w ring.items (place - at), below, h, (refl, omega arith)) refl p.held;
  few = omega (arith, few, length-append ss (new_slot next at pin ∷ []));
  numbered = (omega (arith, p.numbered.0), omega (arith, low));
}

-- ---- the reply

abbrev machine_opens_at_place : Machine → ℕ → Machine × Reply
machine_opens_at_place m at = unless (open_refusal at m.trail m.pins) (after_open at) m

acted_opens : (m : Machine) (asked : Option ℕ) (at : ℕ) → at ≡ unwrap_or asked m.trail.place → acted m (OpenPin asked) ≡ machine_opens_at_place m at
unfolding acted
acted_opens m asked at e = ap (machine_opens_at_place m) (sym e)

abbrev pin_table_is_full : ℕ → ℕ → ℕ → Bool
pin_table_is_full most count next = nat_le most count || nat_lt last_pin next

module _ (ids : IdSize) (w : HeapState) (ring : Buffer Undo) (place keep next : ℕ) (ss : List NumberedPin) where
  abbrev before : Machine
  before = machine_of ids w ring place keep next ss

  refusal_is : (at : ℕ) (r f : Bool) → is_retained at before.trail ≡ r → pin_table_is_full w.limits.pins (length ss) next ≡ f → open_refusal at before.trail before.pins ≡ first_refusal ((not r, NotRetained) ∷ (f, PinLimit) ∷ [])
  unfolding open_refusal pins_of
  refusal_is at r f er ef = rw (er, length-map {B = ℕ × PinState} ss (λ (s : NumberedPin). (s.number, state_of w s.held)), ef) refl

  not_full : length ss < w.limits.pins → next ≤ last_pin → pin_table_is_full w.limits.pins (length ss) next ≡ false
  not_full few low =
      let a : nat_le w.limits.pins (length ss) ≡ false = grind (arith, few) in
      let b : nat_lt last_pin next ≡ false = grind (arith, low) in
      rw (a, b) refl

  no_refusal : (at : ℕ) → is_retained at before.trail ≡ true → length ss < w.limits.pins → next ≤ last_pin → open_refusal at before.trail before.pins ≡ None
  unfolding first_refusal
  no_refusal at r few low = refusal_is at true false r (not_full few low)

  pub open_done : (asked : Option ℕ) (at : ℕ) (pin : PinContents) → at ≡ unwrap_or asked place → is_retained at before.trail ≡ true → HoldsPast pin w ring.items (place - at) → length ss < w.limits.pins → next ≤ last_pin
      → acted before (OpenPin asked) ≡ (machine_of ids w ring place keep (next + 1) (ss ++ new_slot next at pin ∷ []), PinnedReply next at)
  unfolding acted unless after_open with_pin pins_of state_of state_ago
  open_done asked at pin e r h few low =
      acted_opens before asked at e ∙ rw (no_refusal at r few low) (λ j. (record before { pins = pins j }, PinnedReply next at))
    where
      shown : image_of (state_ago (place - at) before.trail) ≡ pin_image pin w
      shown = sym (held_image pin (past_state w ring.items (place - at)) (place - at) w (past_of w ring.items) h)

      pins : with_pin at before.trail before.pins ≡ pins_of w (next + 1) (ss ++ new_slot next at pin ∷ [])
      pins = ap (λ im. record { next = next + 1; open_pins = map {B = ℕ × PinState} (λ (s : NumberedPin). (s.number, state_of w s.held)) ss ++ (next, KeptState at im 0) ∷ [] }) shown
          ∙ ap (λ l. record { next = next + 1; open_pins = l }) (sym (map-append {B = ℕ × PinState} (λ (s : NumberedPin). (s.number, state_of w s.held)) ss (new_slot next at pin ∷ [])))

  pub open_unretained : (asked : Option ℕ) (at : ℕ) → at ≡ unwrap_or asked place → is_retained at before.trail ≡ false → acted before (OpenPin asked) ≡ (before, Refused NotRetained)
  unfolding unless first_refusal
  open_unretained asked at e r = acted_opens before asked at e ∙ ap (λ x. unless x (after_open at) before) (refusal_is at false (pin_table_is_full w.limits.pins (length ss) next) r refl)

  pub open_full : (asked : Option ℕ) (at : ℕ) → at ≡ unwrap_or asked place → is_retained at before.trail ≡ true → pin_table_is_full w.limits.pins (length ss) next ≡ true → acted before (OpenPin asked) ≡ (before, Refused PinLimit)
  unfolding unless first_refusal
  open_full asked at e r full = acted_opens before asked at e ∙ ap (λ x. unless x (after_open at) before) (refusal_is at true true r full)

  pub open_starved : (asked : Option ℕ) (at : ℕ) → at ≡ unwrap_or asked place → is_retained at before.trail ≡ true → length ss < w.limits.pins → next ≤ last_pin → MayStand before (OpenPin asked, Denied)
  unfolding unless after_open may_grow is_accepted
  open_starved asked at e r few low = (refl, ap (λ (p : Machine × Reply). is_accepted p.1) (acted_opens before asked at e ∙ ap (λ x. unless x (after_open at) before) (no_refusal at r few low)))

pub full_by_many : (most n next : ℕ) → most ≤ n → pin_table_is_full most n next ≡ true
full_by_many most n next h = let a : nat_le most n ≡ true = grind (arith, h) in rw a refl

pub full_by_number : (most n next : ℕ) → last_pin < next → pin_table_is_full most n next ≡ true
full_by_number most n next h = let b : nat_lt last_pin next ≡ true = grind (arith, h) in rw b (go (nat_le most n))
  where
    go : (x : Bool) → (x || true) ≡ true
    go true = refl
    go false = refl
