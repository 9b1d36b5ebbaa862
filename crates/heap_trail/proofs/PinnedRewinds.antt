-- What a rewind makes of a machine with pins.
use Rattle.heap_class.specs.declared.IdSize.{IdSize}
use Rattle.std.proofs.Common.{◌≡◌, ℕ, suc, ◌-◌, ◌<◌, ◌≤◌, Bool, true, false, List, [], ◌∷◌, length, drop, map, refl, sym, ap, subst, ◌∙◌, Some, arith}
use Rattle.std.proofs.lemmas.List.{length-map}
use Rattle.std.specs.Prelude.{nat_lt, slice_get, if◌then◌else◌}
use Rattle.circular_buffer.specs.Buffer.{Buffer, buffer}
use Rattle.hprof_text.specs.declared.Cursor.{Cursor}
use Rattle.heap_class.specs.declared.LostCause.TheVariants.{Rewound}
use Rattle.heap_world.specs.State.{HeapState}
use Rattle.heap_step.specs.declared.Undo.{Undo}
use Rattle.heap_step.specs.Records.{undone}
use Rattle.heap_pins.specs.Pin.{PinContents, pin_image}
use Rattle.heap_pins.specs.Shows.{Holds}
use Rattle.heap_pins.proofs.HeldPins.{pin_rewound, rewound_image}
use Rattle.heap_trail.specs.Trail.{rewound, state_ago}
use Rattle.heap_trail.specs.Records.{past_of, AreRecorded, IsRetaining, IsPinning, machine_of, machine_with}
use Rattle.heap_trail.proofs.RewoundMachines.{popped, LeadsTo, last_record_is_undone}
use Rattle.heap_trail.specs.declared.held.Held.{Held}
use Rattle.heap_trail.specs.declared.held.Held.TheVariants.{Kept, Lost}
use Rattle.heap_trail.specs.declared.held.NumberedPin.{NumberedPin}
use Rattle.heap_trail.specs.Pins.{PinState, if_kept, each_kept, after_rewind}
use Rattle.heap_trail.specs.Pins.{Kept as KeptState, Gone}
use Rattle.heap_trail.specs.OpenPins.{state_of, pins_of, HoldsAt, AreAbove, AreHeld, held_after_rewind, slot_after_rewind, AreBelow, EachBelow, AreAllBelow}

-- ---- pins above a place are lost

pin_state_after_rewind : (w : HeapState) (to : ℕ) (h : Held) → state_of w (held_after_rewind to h) ≡ if_kept (λ place image given. if nat_lt to place then Gone place Rewound else KeptState place image given) (state_of w h)
unfolding state_of held_after_rewind if_kept
pin_state_after_rewind w to (Kept place pin cursor given) = go (nat_lt to place)
  where
    go : (b : Bool) → state_of w (if b then Lost place Rewound else Kept place pin cursor given) ≡ (if b then Gone place Rewound else KeptState place (pin_image pin w) given)
    go true = refl
    go false = refl
pin_state_after_rewind w to (Lost place cause) = refl

pin_states_after_rewind : (w : HeapState) (to : ℕ) (ss : List NumberedPin) → map {B = ℕ × PinState} (λ (s : NumberedPin). (s.number, state_of w s.held)) (map (slot_after_rewind to) ss)
    ≡ map {B = ℕ × PinState} (λ e. (e.0, if_kept (λ place image given. if nat_lt to place then Gone place Rewound else KeptState place image given) e.1)) (map {B = ℕ × PinState} (λ (s : NumberedPin). (s.number, state_of w s.held)) ss)
pin_states_after_rewind w to [] = refl
pin_states_after_rewind w to (s ∷ ss) = λ i. (s.number, pin_state_after_rewind w to s.held i) ∷ pin_states_after_rewind w to ss i

pub pins_lost : (w : HeapState) (to next : ℕ) (ss : List NumberedPin) → pins_of w next (map (slot_after_rewind to) ss) ≡ after_rewind to (pins_of w next ss)
unfolding pins_of after_rewind each_kept
pins_lost w to next ss = ap (λ l. record { next = next; open_pins = l }) (pin_states_after_rewind w to ss)

lost_pin_is_held : (ids : IdSize) (states : List HeapState) (place to : ℕ) (h : Held) → HoldsAt ids states place h → HoldsAt ids states place (held_after_rewind to h)
unfolding held_after_rewind
lost_pin_is_held ids states place to (Kept at pin cursor given) h = go (nat_lt to at)
  where
    go : (b : Bool) → HoldsAt ids states place (if b then Lost at Rewound else Kept at pin cursor given)
    go true = tt
    go false = h
lost_pin_is_held ids states place to (Lost at cause) h = tt

rewound_pins_stay_above : (to n : ℕ) (ss : List NumberedPin) → AreAbove n ss → AreAbove n (map (slot_after_rewind to) ss)
rewound_pins_stay_above to n [] a = tt
rewound_pins_stay_above to n (s ∷ ss) a = (a.0, rewound_pins_stay_above to n ss a.1)

pub rewound_pins_are_held : (ids : IdSize) (states : List HeapState) (place next to : ℕ) (ss : List NumberedPin) → AreHeld ids states place next ss → AreHeld ids states place next (map (slot_after_rewind to) ss)
rewound_pins_are_held ids states place next to [] h = tt
rewound_pins_are_held ids states place next to (s ∷ ss) h = (lost_pin_is_held ids states place to s.held h.0, h.1, rewound_pins_stay_above to s.number ss h.2, rewound_pins_are_held ids states place next to ss h.3)

-- ---- one step back, where no pin is above

kept_pin_held_one_back : (ids : IdSize) (w v : HeapState) (past : List HeapState) (place : ℕ) (h : Held) → 0 < place → HoldsAt ids (w ∷ v ∷ past) place h → (at : ℕ) (pin : PinContents) (cursor : Cursor) (given : ℕ) → h ≡ Kept at pin cursor given → at < place
    → HoldsAt ids (v ∷ past) (place - 1) (Kept at pin cursor given) × (state_of v (Kept at pin cursor given) ≡ state_of w (Kept at pin cursor given))
unfolding state_of
kept_pin_held_one_back ids w v past place h some holds at pin cursor given is below =
    let k : HoldsAt ids (w ∷ v ∷ past) place (Kept at pin cursor given) = subst (HoldsAt ids (w ∷ v ∷ past) place) is holds in
    let n : place - at ≡ suc (place - 1 - at) = omega (arith, below) in
    let p : Holds pin k.0 (suc (place - 1 - at)) (w ∷ v ∷ past) = subst (λ m. Holds pin k.0 m (w ∷ v ∷ past)) n k.2 in (
      (k.0, omega (arith, below), pin_rewound pin k.0 (place - 1 - at) w v past p, k.3),
      ap (λ i. KeptState at i given) (rewound_image pin k.0 (place - 1 - at) w v past p),
    )

pin_held_one_back : (ids : IdSize) (w v : HeapState) (past : List HeapState) (place : ℕ) (s : NumberedPin) → 0 < place → HoldsAt ids (w ∷ v ∷ past) place s.held → AreBelow place (state_of w s.held) → HoldsAt ids (v ∷ past) (place - 1) s.held × (state_of v s.held ≡ state_of w s.held)
unfolding state_of
pin_held_one_back ids w v past place s some holds below = go s.held refl below
  where
    go : (h : Held) → s.held ≡ h → AreBelow place (state_of w h) → HoldsAt ids (v ∷ past) (place - 1) h × (state_of v h ≡ state_of w h)
    go (Kept at pin cursor given) is b = kept_pin_held_one_back ids w v past place s.held some holds at pin cursor given is b
    go (Lost place cause) is b = (tt, refl)

pub pins_held_one_back : (ids : IdSize) (w v : HeapState) (past : List HeapState) (place next : ℕ) (ss : List NumberedPin) → 0 < place → AreHeld ids (w ∷ v ∷ past) place next ss → AreAllBelow place (pins_of w next ss) → AreHeld ids (v ∷ past) (place - 1) next ss × (pins_of v next ss ≡ pins_of w next ss)
unfolding pins_of
pins_held_one_back ids w v past place next ss some h below = let r = go ss h below in (r.0, ap (λ l. record { next = next; open_pins = l }) r.1)
  where
    go : (ss : List NumberedPin) → AreHeld ids (w ∷ v ∷ past) place next ss → EachBelow place (map {B = ℕ × PinState} (λ (s : NumberedPin). (s.number, state_of w s.held)) ss)
        → AreHeld ids (v ∷ past) (place - 1) next ss × (map {B = ℕ × PinState} (λ (s : NumberedPin). (s.number, state_of v s.held)) ss ≡ map {B = ℕ × PinState} (λ (s : NumberedPin). (s.number, state_of w s.held)) ss)
    go [] h b = (tt, refl)
    go (s ∷ ss) h b =
        let one = pin_held_one_back ids w v past place s some h.0 b.0 in
        let rest = go ss h.3 b.1 in
        ((one.0, h.1, h.2, rest.0), λ i. (s.number, one.1 i) ∷ rest.1 i)

-- ---- the machine, one step back

pub undone_pinned : (ids : IdSize) (w v : HeapState) (left : Undo) (ring : Buffer Undo) (place keep next : ℕ) (ss : List NumberedPin) → IsRetaining w ring place keep → IsPinning ids w ring place next ss → slice_get ring.items 0 ≡ Some left → LeadsTo v w left → AreAllBelow place (pins_of w next ss)
    → IsPinning ids v (popped ring) (place - 1) next ss × (machine_of ids v (popped ring) (place - 1) keep next ss ≡ record (machine_of ids w ring place keep next ss) { trail = rewound 1 (machine_of ids w ring place keep next ss).trail })
unfolding rewound state_ago
undone_pinned ids w v left ring place keep next ss k p first leads below = go ring.items first k.recorded k.placed p.held
  where
    go : (items : List Undo) → slice_get items 0 ≡ Some left → AreRecorded w items → length items ≤ place → AreHeld ids (w ∷ past_of w items) place next ss
        → IsPinning ids v (buffer (drop 1 items) ring.capacity) (place - 1) next ss
        × (machine_of ids v (buffer (drop 1 items) ring.capacity) (place - 1) keep next ss ≡ record (machine_of ids w (buffer items ring.capacity) place keep next ss) { trail = rewound 1 (machine_of ids w (buffer items ring.capacity) place keep next ss).trail })
    go [] h told placed held = cc
    go (r ∷ rs) h told placed held =
        let e : r ≡ left = cc in
        let back : v ≡ undone r w = last_record_is_undone v w left r rs e told leads in
        let b = pins_held_one_back ids w (undone r w) (past_of (undone r w) rs) place next ss (omega (arith, placed)) held below in (
          record {
            held = subst (λ u. AreHeld ids (u ∷ past_of u rs) (place - 1) next ss) (sym back) b.0;
            few = p.few;
            numbered = p.numbered;
          },
          ap (λ u. machine_of ids u (buffer rs ring.capacity) (place - 1) keep next ss) back ∙ ap (machine_with ids (undone r w) (buffer rs ring.capacity) (place - 1) keep) b.1,
        )

pub pinning_lost : (ids : IdSize) (w : HeapState) (ring : Buffer Undo) (place next to : ℕ) (ss : List NumberedPin) → IsPinning ids w ring place next ss → IsPinning ids w ring place next (map (slot_after_rewind to) ss)
pinning_lost ids w ring place next to ss p = record {
  held = rewound_pins_are_held ids (w ∷ past_of w ring.items) place next to ss p.held;
  few = omega (arith, p.few, length-map ss (slot_after_rewind to));
  numbered = p.numbered;
}
