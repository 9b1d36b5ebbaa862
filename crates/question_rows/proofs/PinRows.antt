-- The open pins of a machine, one after another.
use Rattle.std.proofs.Common.{◌≡◌, ◌∙◌, ◌+◌, ◌<◌, ◌≤◌, ℕ, List, [], ◌∷◌, ◌++◌, Some, None, length, map, take, get_or, sym, ap, inl, inr}
use Rattle.std.specs.Prelude.{option_map, slice_get}
use Rattle.std.proofs.lemmas.List.{map-append, take_more}
use Rattle.std.proofs.lemmas.Option.{slice_get_cases}
use Rattle.heap_trail.specs.declared.listing.ListedPin.{ListedPin}
use Rattle.heap_trail.specs.Listings.{listed_pin}
use Rattle.heap_trail.specs.Pins.{PinState}

-- the next pin, and those before it
pub pins_more : (pins : List (ℕ × PinState)) (i : ℕ) (pin : ListedPin) → option_map listed_pin (slice_get pins i) ≡ Some pin
    → (i < length pins) × (map listed_pin (take (i + 1) pins) ≡ map listed_pin (take i pins) ++ pin ∷ [])
pins_more pins i pin h = elim (slice_get_cases pins i).1 [
  | inl e ↦ let same : Some (listed_pin e.0) ≡ Some pin = sym (ap (option_map listed_pin) e.2) ∙ h in (
    e.1,
    ap (map listed_pin) (take_more pins i e.0 e.1)
        ∙ map-append listed_pin (take i pins) (get_or pins i e.0 ∷ [])
        ∙ ap (λ (p : ℕ × PinState). map listed_pin (take i pins) ++ listed_pin p ∷ []) e.3
        ∙ ap (λ (p : ListedPin). map listed_pin (take i pins) ++ p ∷ []) (cc same),
  )
  | inr e ↦ let clash : None ≡ Some pin = sym (ap (option_map listed_pin) e.1) ∙ h in absurd (cc clash)
]

-- past the last
pub pins_end : (pins : List (ℕ × PinState)) (i : ℕ) → option_map listed_pin (slice_get pins i) ≡ None → length pins ≤ i
pins_end pins i h = elim (slice_get_cases pins i).1 [
  | inl e ↦ let clash : Some (listed_pin e.0) ≡ None = sym (ap (option_map listed_pin) e.2) ∙ h in absurd (cc clash)
  | inr e ↦ e.0
]
