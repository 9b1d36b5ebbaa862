-- What a step and a rewind make of the pins, as the model sees them.
use Rattle.heap_class.specs.declared.IdSize.{IdSize}
use Rattle.std.proofs.Common.{◌≡◌, ℕ, suc, ◌+◌, ◌-◌, ◌<◌, Bool, true, false, ◌||◌, List, [], ◌∷◌, take, map, refl, sym, ap, subst, ◌∙◌, arith, inl, inr}
use Rattle.std.specs.Prelude.{◌==◌, if◌then◌else◌}
use Rattle.std.specs.List.{list_any}
use Rattle.std.proofs.lemmas.Bool.{ne_eqb, eq-eqb}
use Rattle.heap_class.specs.declared.LostCause.TheVariants.{Memory}
use Rattle.heap_world.specs.State.{HeapState}
use Rattle.heap_step.specs.declared.Undo.{Undo}
use Rattle.heap_step.specs.Records.{undone}
use Rattle.hprof_text.specs.Image.{Image}
use Rattle.heap_pins.specs.KeptCopies.{kept}
use Rattle.heap_pins.specs.Shows.{Holds}
use Rattle.heap_pins.proofs.HeldPins.{pin_stepped, stepped_image}
use Rattle.heap_trail.specs.declared.held.Held.{Held}
use Rattle.heap_trail.specs.declared.held.Held.TheVariants.{Kept, Lost}
use Rattle.heap_trail.specs.declared.held.NumberedPin.{NumberedPin}
use Rattle.heap_trail.specs.Pins.{PinState, if_kept, each_kept, with_lost}
use Rattle.heap_trail.specs.Pins.{Kept as KeptState, Gone}
use Rattle.heap_trail.specs.OpenPins.{state_of, pins_of, held_kept, is_kept, held_place, MayKeep, EachMayKeep, HoldsAt, AreAbove, AreHeld}

-- ---- a step: each pin

pin_held_after_step : (ids : IdSize) (left : Undo) (v : HeapState) (k : ℕ) (past : List HeapState) (place : ℕ) (h : Held) → HoldsAt ids (undone left v ∷ past) place h → HoldsAt ids (v ∷ take k (undone left v ∷ past)) (place + 1) (held_kept left v h)
unfolding held_kept
pin_held_after_step ids left v k past place (Kept at pin cursor given) h =
    let n : suc (place - at) ≡ place + 1 - at = omega (arith, h.1) in
    (h.0, omega (arith, h.1), subst (λ m. Holds (kept left v pin) h.0 m (v ∷ take k (undone left v ∷ past))) n (pin_stepped left v pin h.0 (place - at) k past h.2), h.3)
pin_held_after_step ids left v k past place (Lost at cause) h = tt

slot_stepped : (ids : IdSize) (left : Undo) (v : HeapState) (k : ℕ) (past : List HeapState) (place : ℕ) (s t : NumberedPin) → HoldsAt ids (undone left v ∷ past) place s.held → MayKeep left v s t → HoldsAt ids (v ∷ take k (undone left v ∷ past)) (place + 1) t.held × (t.number ≡ s.number)
slot_stepped ids left v k past place s t h (inl e) = (subst (λ (x : NumberedPin). HoldsAt ids (v ∷ take k (undone left v ∷ past)) (place + 1) x.held) (sym e) (pin_held_after_step ids left v k past place s.held h), ap (λ (x : NumberedPin). x.number) e)
slot_stepped ids left v k past place s t h (inr e) = (subst (λ (x : NumberedPin). HoldsAt ids (v ∷ take k (undone left v ∷ past)) (place + 1) x.held) (sym e.0) tt, ap (λ (x : NumberedPin). x.number) e.0)

kept_pins_stay_above : (left : Undo) (v : HeapState) (n : ℕ) (ss ts : List NumberedPin) → EachMayKeep left v ss ts → AreAbove n ss → AreAbove n ts
kept_pins_stay_above left v n [] [] e a = tt
kept_pins_stay_above left v n [] (t ∷ ts) e a = absurd e
kept_pins_stay_above left v n (s ∷ ss) [] e a = absurd e
kept_pins_stay_above left v n (s ∷ ss) (t ∷ ts) e a = (subst (λ m. n < m) (sym (same e.0)) a.0, kept_pins_stay_above left v n ss ts e.1 a.1)
  where
    same : MayKeep left v s t → t.number ≡ s.number
    same (inl e) = ap (λ (x : NumberedPin). x.number) e
    same (inr e) = ap (λ (x : NumberedPin). x.number) e.0

pub held_after_step : (ids : IdSize) (left : Undo) (v : HeapState) (k : ℕ) (past : List HeapState) (place next : ℕ) (ss ts : List NumberedPin) → EachMayKeep left v ss ts → AreHeld ids (undone left v ∷ past) place next ss → AreHeld ids (v ∷ take k (undone left v ∷ past)) (place + 1) next ts
held_after_step ids left v k past place next [] [] e h = tt
held_after_step ids left v k past place next [] (t ∷ ts) e h = absurd e
held_after_step ids left v k past place next (s ∷ ss) [] e h = absurd e
held_after_step ids left v k past place next (s ∷ ss) (t ∷ ts) e h =
    let one = slot_stepped ids left v k past place s t h.0 e.0 in
    (one.0, subst (λ m. m < next) (sym one.1) h.1, subst (λ m. AreAbove m ts) (sym one.1) (kept_pins_stay_above left v s.number ss ts e.1 h.2), held_after_step ids left v k past place next ss ts e.1 h.3)

-- ---- a step: what the model sees

-- the numbers of the pins that the step lost
unfoldable pub lost_in : (left : Undo) (v : HeapState) (ss ts : List NumberedPin) → EachMayKeep left v ss ts → List ℕ
lost_in left v [] [] e = []
lost_in left v [] (t ∷ ts) e = []
lost_in left v (s ∷ ss) [] e = []
lost_in left v (s ∷ ss) (t ∷ ts) e = with_number e.0 (lost_in left v ss ts e.1)
  where
    with_number : MayKeep left v s t → List ℕ → List ℕ
    with_number (inl e) rest = rest
    with_number (inr e) rest = s.number ∷ rest

abbrev pub is_in : List ℕ → ℕ → Bool
is_in xs m = list_any (λ n. n == m) xs

-- a pin is lost where b says so of its number
abbrev pin_lost_where_told : (ℕ → Bool) → ℕ → ℕ → Image → ℕ → PinState
pin_lost_where_told b number place image given = if b number then Gone place Memory else KeptState place image given

-- the pins after the step are those before it, lost where b says so
abbrev Agrees : (ℕ → Bool) → HeapState → HeapState → List NumberedPin → List NumberedPin → Type 0
Agrees b w v [] [] = Unit {0}
Agrees b w v [] (t ∷ ts) = ⊥
Agrees b w v (s ∷ ss) [] = ⊥
Agrees b w v (s ∷ ss) (t ∷ ts) = (t.number ≡ s.number) × (state_of v t.held ≡ if_kept (pin_lost_where_told b s.number) (state_of w s.held)) × Agrees b w v ss ts

-- the same of each number above n
agrees_above : (b c : ℕ → Bool) (n : ℕ) (w v : HeapState) (ss ts : List NumberedPin) → ((m : ℕ) → n < m → c m ≡ b m) → AreAbove n ss → Agrees b w v ss ts → Agrees c w v ss ts
agrees_above b c n w v [] [] same a h = tt
agrees_above b c n w v [] (t ∷ ts) same a h = h
agrees_above b c n w v (s ∷ ss) [] same a h = h
agrees_above b c n w v (s ∷ ss) (t ∷ ts) same a h =
    (h.0, h.1 ∙ ap (λ x. if_kept (λ place image given. if x then Gone place Memory else KeptState place image given) (state_of w s.held)) (sym (same s.number a.0)), agrees_above b c n w v ss ts same a.1 h.2)

-- a number below all of those isn't among the lost ones
number_below_is_not_lost : (left : Undo) (v : HeapState) (n : ℕ) (ss ts : List NumberedPin) (e : EachMayKeep left v ss ts) → AreAbove n ss → is_in (lost_in left v ss ts e) n ≡ false
unfolding lost_in
number_below_is_not_lost left v n [] [] e a = refl
number_below_is_not_lost left v n [] (t ∷ ts) e a = refl
number_below_is_not_lost left v n (s ∷ ss) [] e a = refl
number_below_is_not_lost left v n (s ∷ ss) (t ∷ ts) (inl e, es) a = number_below_is_not_lost left v n ss ts es a.1
number_below_is_not_lost left v n (s ∷ ss) (t ∷ ts) (inr e, es) a = ap (λ b. b || is_in (lost_in left v ss ts es) n) (ne_eqb s.number n (λ q. let z : s.number ≡ n = q in omega (arith, z, a.0))) ∙ number_below_is_not_lost left v n ss ts es a.1

kept_agrees : (ids : IdSize) (left : Undo) (v : HeapState) (past : List HeapState) (place : ℕ) (h : Held) → HoldsAt ids (undone left v ∷ past) place h → state_of v (held_kept left v h) ≡ state_of (undone left v) h
unfolding state_of held_kept
kept_agrees ids left v past place (Kept at pin cursor given) h = ap (λ i. KeptState at i given) (stepped_image left v pin h.0 (place - at) 0 past h.2)
kept_agrees ids left v past place (Lost at cause) h = refl

untold_pin_stays_kept : (s : PinState) (b : Bool) → b ≡ false → s ≡ if_kept (λ place image given. if b then Gone place Memory else KeptState place image given) s
unfolding if_kept
untold_pin_stays_kept (KeptState place image given) b e = rw e refl
untold_pin_stays_kept (Gone place cause) b e = refl

told_pin_is_lost : (w : HeapState) (h : Held) (b : Bool) → b ≡ true → is_kept h ≡ true → Gone (held_place h) Memory ≡ if_kept (λ place image given. if b then Gone place Memory else KeptState place image given) (state_of w h)
unfolding if_kept state_of is_kept held_place
told_pin_is_lost w (Kept at pin cursor given) b e k = rw e refl
told_pin_is_lost w (Lost place cause) b e k = absurd (clash k)
  where
    clash : false ≡ true → ⊥
    clash e = cc

step_agrees : (ids : IdSize) (left : Undo) (v : HeapState) (past : List HeapState) (place next : ℕ) (ss ts : List NumberedPin) (e : EachMayKeep left v ss ts) → AreHeld ids (undone left v ∷ past) place next ss → Agrees (is_in (lost_in left v ss ts e)) (undone left v) v ss ts
unfolding lost_in state_of
step_agrees ids left v past place next [] [] e h = tt
step_agrees ids left v past place next [] (t ∷ ts) e h = absurd e
step_agrees ids left v past place next (s ∷ ss) [] e h = absurd e
step_agrees ids left v past place next (s ∷ ss) (t ∷ ts) (inl e, es) h = (
  ap (λ (x : NumberedPin). x.number) e,
  ap (λ (x : NumberedPin). state_of v x.held) e ∙ kept_agrees ids left v past place s.held h.0 ∙ untold_pin_stays_kept (state_of (undone left v) s.held) (is_in (lost_in left v ss ts es) s.number) (number_below_is_not_lost left v s.number ss ts es h.2),
  step_agrees ids left v past place next ss ts es h.3,
)
step_agrees ids left v past place next (s ∷ ss) (t ∷ ts) (inr e, es) h = (
  ap (λ (x : NumberedPin). x.number) e.0,
  ap (λ (x : NumberedPin). state_of v x.held) e.0 ∙ told_pin_is_lost (undone left v) s.held (is_in (s.number ∷ lost_in left v ss ts es) s.number) (ap (λ b. b || is_in (lost_in left v ss ts es) s.number) (eq-eqb s.number s.number refl)) e.1,
  agrees_above (is_in (lost_in left v ss ts es)) (is_in (s.number ∷ lost_in left v ss ts es)) s.number (undone left v) v ss ts (λ m above. ap (λ b. b || is_in (lost_in left v ss ts es) m) (ne_eqb s.number m (λ q. let z : s.number ≡ m = q in omega (arith, z, above)))) h.2
      (step_agrees ids left v past place next ss ts es h.3),
)

-- ---- what the model sees, together

agreed_list : (b : ℕ → Bool) (w v : HeapState) (ss ts : List NumberedPin) → Agrees b w v ss ts
    → map {B = ℕ × PinState} (λ (s : NumberedPin). (s.number, state_of v s.held)) ts ≡ map {B = ℕ × PinState} (λ e. (e.0, if_kept (pin_lost_where_told b e.0) e.1)) (map {B = ℕ × PinState} (λ (s : NumberedPin). (s.number, state_of w s.held)) ss)
agreed_list b w v [] [] h = refl
agreed_list b w v [] (t ∷ ts) h = absurd h
agreed_list b w v (s ∷ ss) [] h = absurd h
agreed_list b w v (s ∷ ss) (t ∷ ts) h = λ i. (h.0 i, h.1 i) ∷ agreed_list b w v ss ts h.2 i

-- the pins after a step are those before it, of which these were lost
pub pins_stepped : (ids : IdSize) (left : Undo) (v : HeapState) (past : List HeapState) (place next : ℕ) (ss ts : List NumberedPin) (e : EachMayKeep left v ss ts) → AreHeld ids (undone left v ∷ past) place next ss
    → pins_of v next ts ≡ with_lost (lost_in left v ss ts e) (pins_of (undone left v) next ss)
unfolding pins_of with_lost each_kept
pins_stepped ids left v past place next ss ts e h = ap (λ l. record { next = next; open_pins = l }) (agreed_list (is_in (lost_in left v ss ts e)) (undone left v) v ss ts (step_agrees ids left v past place next ss ts e h))
