-- The open pins of a machine from a place on.
use Rattle.std.proofs.Common.{◌≡◌, ◌==◌, ◌||◌, ◌<◌, ℕ, zero, suc, false, List, [], ◌∷◌, Option, Some, None, length, drop, refl, ap, arith}
use Rattle.std.specs.Prelude.{option_map, slice_get}
use Rattle.std.specs.List.{list_any}
use Rattle.heap_trail.specs.declared.listing.ListedPin.{ListedPin}
use Rattle.heap_trail.specs.Listings.{listed_pin}
use Rattle.heap_trail.specs.Pins.{PinState}

number_in_listed_pin : Option ListedPin → ℕ
number_in_listed_pin (Some q) = q.number
number_in_listed_pin None = 0

-- whether a pin is among those from a place on: it is the one there, or among those behind it
pub pin_is_here_or_behind : (pin : ℕ) (pins : List (ℕ × PinState)) (i : ℕ) (q : ListedPin) → option_map listed_pin (slice_get pins i) ≡ Some q
    → (i < length pins) × (list_any (λ e. e.0 == pin) (drop i pins) ≡ ((q.number == pin) || list_any (λ e. e.0 == pin) (drop (suc i) pins)))
unfolding number_in_listed_pin listed_pin
pin_is_here_or_behind pin [] i q is = absurd (cc is)
pin_is_here_or_behind pin (e ∷ es) zero q is = (omega arith, ap (λ n. (n == pin) || list_any (λ x. x.0 == pin) es) (ap number_in_listed_pin is))
pin_is_here_or_behind pin (e ∷ es) (suc i) q is = let later = pin_is_here_or_behind pin es i q is in (omega (arith, later.0), later.1)

-- past the last
pub no_pin_past_last : (pin : ℕ) (pins : List (ℕ × PinState)) (i : ℕ) → option_map listed_pin (slice_get pins i) ≡ None → list_any (λ e. e.0 == pin) (drop i pins) ≡ false
no_pin_past_last pin [] zero is = refl
no_pin_past_last pin [] (suc i) is = refl
no_pin_past_last pin (e ∷ es) zero is = absurd (cc is)
no_pin_past_last pin (e ∷ es) (suc i) is = no_pin_past_last pin es i is
