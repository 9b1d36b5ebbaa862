-- A machine but for how many pieces a pin gave.
use Rattle.std.proofs.Common.{◌≡◌, ℕ, ◌+◌, Bool, true, false, cond, List, [], ◌∷◌, map, refl, sym, ap, ◌∙◌, Option, Some, None}
use Rattle.std.specs.Prelude.{find, filter, not, option_map, ◌==◌, if◌then◌else◌}
use Rattle.std.proofs.lemmas.Bool.{eqb-true, eq-eqb}
use Rattle.heap_class.specs.declared.IdSize.{IdSize}
use Rattle.heap_class.specs.declared.LostCause.{LostCause}
use Rattle.hprof_text.specs.Image.{Image}
use Rattle.heap_trail.specs.Pins.{PinState, Kept, Gone, pin_at, without_pin, if_kept, each_kept, with_piece_given}
use Rattle.heap_trail.specs.Machine.{Machine, counted}
use Rattle.machine_dump.specs.HandedPieces.{pieces_at, ungiven}
use Rattle.machine_dump.specs.SourceEnds.{may_lose}
use Rattle.heap_trail.proofs.GivenText.{changed_pin_by_number}

abbrev pub state_in : ℕ → List (ℕ × PinState) → Option PinState
state_in pin xs = option_map (λ (e : ℕ × PinState). e.1) (find (λ e. e.0 == pin) xs)

abbrev pub changed : (ℕ → ℕ → Image → ℕ → PinState) → ℕ × PinState → ℕ × PinState
changed f e = (e.0, if_kept (f e.0) e.1)

abbrev pub zeroed : ℕ → ℕ → ℕ → Image → ℕ → PinState
zeroed pin number place image given = Kept place image (if number == pin then 0 else given)

abbrev pub raised : ℕ → ℕ → ℕ → Image → ℕ → PinState
raised pin number place image given = Kept place image (if number == pin then given + 1 else given)

-- the pin, as if it had given nothing
abbrev pub zero_state : ℕ → Option PinState → Option PinState
zero_state pin s = option_map (if_kept (zeroed pin pin)) s

-- ---- the pin in a list of changed pins

state_in_changed_pins : (f : ℕ → ℕ → Image → ℕ → PinState) (pin : ℕ) (xs : List (ℕ × PinState)) → state_in pin (map {B = ℕ × PinState} (changed f) xs) ≡ option_map (if_kept (f pin)) (state_in pin xs)
state_in_changed_pins f pin [] = refl
state_in_changed_pins f pin (x ∷ xs) = go (x.0 == pin) refl (state_in_changed_pins f pin xs)
  where
    go : (b : Bool) → (x.0 == pin) ≡ b → state_in pin (map {B = ℕ × PinState} (changed f) xs) ≡ option_map (if_kept (f pin)) (state_in pin xs)
        → option_map (λ (e : ℕ × PinState). e.1) (cond b (Some (changed f x)) (find (λ e. e.0 == pin) (map {B = ℕ × PinState} (changed f) xs))) ≡ option_map (if_kept (f pin)) (option_map (λ (e : ℕ × PinState). e.1) (cond b (Some x) (find (λ e. e.0 == pin) xs)))
    go true e rest = ap (λ n. Some (if_kept (f n) x.1)) (eqb-true x.0 pin e)
    go false e rest = rest

own_pin_raised_by_one : (pin place : ℕ) (image : Image) (g : ℕ) → option_map (if_kept (raised pin pin)) (Some (Kept place image g)) ≡ Some (Kept place image (g + 1))
unfolding if_kept
own_pin_raised_by_one pin place image g = ap (λ (b : Bool). Some (Kept place image (if b then g + 1 else g))) (eq-eqb pin pin refl)

-- after a piece that is counted or not
pub counted_pin_keeps_image : (b : Bool) (pin : ℕ) (m : Machine) (place : ℕ) (image : Image) (g : ℕ) → pin_at pin m.pins ≡ Some (Kept place image g) → pin_at pin (counted b pin m).pins ≡ Some (Kept place image (cond b (g + 1) g))
unfolding counted with_piece_given
counted_pin_keeps_image true pin m place image g here = changed_pin_by_number (raised pin) pin m.pins ∙ ap (option_map (if_kept (raised pin pin))) here ∙ own_pin_raised_by_one pin place image g
counted_pin_keeps_image false pin m place image g here = here

pub ungiven_pin_state_is_zeroed : (pin : ℕ) (m : Machine) → pin_at pin (ungiven pin m).pins ≡ zero_state pin (pin_at pin m.pins)
unfolding ungiven
ungiven_pin_state_is_zeroed pin m = changed_pin_by_number (zeroed pin) pin m.pins

-- ---- a piece changes nothing else

raised_then_zeroed_is_zeroed : (pin n : ℕ) (s : PinState) → if_kept (zeroed pin n) (if_kept (raised pin n) s) ≡ if_kept (zeroed pin n) s
unfolding if_kept
raised_then_zeroed_is_zeroed pin n (Gone place cause) = refl
raised_then_zeroed_is_zeroed pin n (Kept place image given) = go (n == pin)
  where
    go : (b : Bool) → Kept place image (if b then 0 else (if b then given + 1 else given)) ≡ Kept place image (if b then 0 else given)
    go true = refl
    go false = refl

each_raised_then_zeroed_is_zeroed : (pin : ℕ) (xs : List (ℕ × PinState)) → map {B = ℕ × PinState} (changed (zeroed pin)) (map {B = ℕ × PinState} (changed (raised pin)) xs) ≡ map {B = ℕ × PinState} (changed (zeroed pin)) xs
each_raised_then_zeroed_is_zeroed pin [] = refl
each_raised_then_zeroed_is_zeroed pin (x ∷ xs) = λ i. (x.0, raised_then_zeroed_is_zeroed pin x.0 x.1 i) ∷ each_raised_then_zeroed_is_zeroed pin xs i

pub ungiven_counted : (b : Bool) (pin : ℕ) (m : Machine) → ungiven pin (counted b pin m) ≡ ungiven pin m
unfolding ungiven counted with_piece_given each_kept
ungiven_counted true pin m = ap (λ l. record m { pins = record m.pins { open_pins = l } }) (each_raised_then_zeroed_is_zeroed pin m.pins.open_pins)
ungiven_counted false pin m = refl

-- ---- what does not depend on how many pieces the pin gave

pub ungiven_ids : (pin : ℕ) (m n : Machine) → ungiven pin n ≡ ungiven pin m → n.ids ≡ m.ids
unfolding ungiven
ungiven_ids pin m n same = ap (λ k. k.ids) same

pub zeroed_states_are_alike : (pin : ℕ) (m n : Machine) → ungiven pin n ≡ ungiven pin m → zero_state pin (pin_at pin n.pins) ≡ zero_state pin (pin_at pin m.pins)
zeroed_states_are_alike pin m n same = sym (ungiven_pin_state_is_zeroed pin n) ∙ ap (λ (k : Machine). pin_at pin k.pins) same ∙ ungiven_pin_state_is_zeroed pin m

pub zeroed_pin_has_same_pieces : (pin : ℕ) (ids : IdSize) (time first count : ℕ) (s : Option PinState) → pieces_at ids time first count (zero_state pin s) ≡ pieces_at ids time first count s
unfolding if_kept
zeroed_pin_has_same_pieces pin ids time first count None = refl
zeroed_pin_has_same_pieces pin ids time first count (Some (Gone place cause)) = refl
zeroed_pin_has_same_pieces pin ids time first count (Some (Kept place image given)) = refl

pub zeroed_pin_may_lose_same : (pin : ℕ) (s : Option PinState) (cause : LostCause) → may_lose (zero_state pin s) cause ≡ may_lose s cause
unfolding if_kept
zeroed_pin_may_lose_same pin None cause = refl
zeroed_pin_may_lose_same pin (Some (Gone place c)) cause = refl
zeroed_pin_may_lose_same pin (Some (Kept place image given)) cause = refl

-- a pin that is open stays so
pub zeroed_open_pin_was_open : (pin : ℕ) (s : Option PinState) (x : PinState) → zero_state pin s ≡ Some x → (y : PinState) × (s ≡ Some y)
zeroed_open_pin_was_open pin None x e = absurd (clash e)
  where
    clash : None ≡ Some x → ⊥
    clash e = cc
zeroed_open_pin_was_open pin (Some y) x e = (y, refl)

-- ---- without the pin

other_pin_not_zeroed : (pin n : ℕ) (s : PinState) → (n == pin) ≡ false → if_kept (zeroed pin n) s ≡ s
unfolding if_kept
other_pin_not_zeroed pin n (Gone place cause) ne = refl
other_pin_not_zeroed pin n (Kept place image given) ne = ap (λ (b : Bool). Kept place image (if b then 0 else given)) ne

other_pins_not_zeroed : (pin : ℕ) (xs : List (ℕ × PinState)) → filter (λ (e : ℕ × PinState). not (e.0 == pin)) (map {B = ℕ × PinState} (changed (zeroed pin)) xs) ≡ filter (λ (e : ℕ × PinState). not (e.0 == pin)) xs
other_pins_not_zeroed pin [] = refl
other_pins_not_zeroed pin (x ∷ xs) = go (x.0 == pin) refl (other_pins_not_zeroed pin xs)
  where
    before : List (ℕ × PinState)
    before = filter (λ (e : ℕ × PinState). not (e.0 == pin)) (map {B = ℕ × PinState} (changed (zeroed pin)) xs)

    after : List (ℕ × PinState)
    after = filter (λ (e : ℕ × PinState). not (e.0 == pin)) xs

    go : (b : Bool) → (x.0 == pin) ≡ b → before ≡ after → cond (not b) (changed (zeroed pin) x ∷ before) before ≡ cond (not b) (x ∷ after) after
    go true e rest = rest
    go false e rest = λ i. (x.0, other_pin_not_zeroed pin x.0 x.1 e i) ∷ rest i

pub other_pins_of_ungiven_machine : (pin : ℕ) (m : Machine) → without_pin pin (ungiven pin m).pins ≡ without_pin pin m.pins
unfolding without_pin ungiven each_kept
other_pins_of_ungiven_machine pin m = ap (λ l. record m.pins { open_pins = l }) (other_pins_not_zeroed pin m.pins.open_pins)
