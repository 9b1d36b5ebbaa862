-- A pin that is opened shows the state at its place.
use Rattle.std.proofs.Common.{◌≡◌, ℕ, ◌-◌, ◌<◌, Bool, true, false, cond, List, [], ◌∷◌, ◌++◌, refl, ap, subst, Option, Some, None, arith}
use Rattle.std.specs.Prelude.{All, find, option_map, unwrap_or, ◌==◌}
use Rattle.std.proofs.lemmas.Bool.{eqb-true, eq-eqb}
use Rattle.std.proofs.lemmas.List.Elements.{All-head, All-tail}
use Rattle.heap_class.specs.declared.Refusal.{Refusal}
use Rattle.heap_pins.specs.Images.{image_of}
use Rattle.heap_trail.specs.declared.Reply.{Reply}
use Rattle.heap_trail.specs.declared.Reply.TheVariants.{Pinned, Refused}
use Rattle.heap_trail.specs.Trail.{state_ago}
use Rattle.heap_trail.specs.Pins.{PinState, Kept, AreNumbered, pin_at, open_refusal, with_pin}
use Rattle.heap_trail.specs.Machine.{Machine, acted, unless, after_open}
use Rattle.heap_trail.specs.Headline.{OpensPin}

-- the last of a list, whose number is above those of all others
last_pin_found_by_number : (pin : ℕ) (s : PinState) (xs : List (ℕ × PinState)) → All (λ e. e.0 < pin) xs → option_map (λ (e : ℕ × PinState). e.1) (find (λ e. e.0 == pin) (xs ++ (pin, s) ∷ [])) ≡ Some s
last_pin_found_by_number pin s [] below = ap (λ (b : Bool). option_map (λ (e : ℕ × PinState). e.1) (cond b (Some (pin, s)) None)) (eq-eqb pin pin refl)
last_pin_found_by_number pin s (x ∷ xs) below = go (x.0 == pin) refl (last_pin_found_by_number pin s xs (All-tail (λ (e : ℕ × PinState). e.0 < pin) x xs below))
  where
    go : (b : Bool) → (x.0 == pin) ≡ b → option_map (λ (e : ℕ × PinState). e.1) (find (λ e. e.0 == pin) (xs ++ (pin, s) ∷ [])) ≡ Some s
        → option_map (λ (e : ℕ × PinState). e.1) (cond b (Some x) (find (λ e. e.0 == pin) (xs ++ (pin, s) ∷ []))) ≡ Some s
    go true e rest = absurd (omega (arith, eqb-true x.0 pin e, All-head (λ (e : ℕ × PinState). e.0 < pin) x xs below))
    go false e rest = rest

-- what is told of the pin after the opening at a place
abbrev Opens : Machine → ℕ → Machine → ℕ → ℕ → Type 0
Opens m asked n pin place = (place ≡ asked) × (pin < n.pins.next) × (pin_at pin n.pins ≡ Some (Kept place (image_of (state_ago (m.trail.place - place) m.trail)) 0))

opened_pin_is_last : (m : Machine) (at : ℕ) → AreNumbered m.pins → Opens m at (after_open at m).0 m.pins.next at
unfolding after_open with_pin pin_at
opened_pin_is_last m at numbered = (refl, omega arith, last_pin_found_by_number m.pins.next (Kept at (image_of (state_ago (m.trail.place - at) m.trail)) 0) m.pins.open_pins numbered)

pinned_reply_tells_opening : (m : Machine) (at : ℕ) (n : Machine) (pin place : ℕ) → AreNumbered m.pins → (o : Option Refusal) → unless o (after_open at) m ≡ (n, Pinned pin place) → Opens m at n pin place
unfolding unless after_open
pinned_reply_tells_opening m at n pin place numbered None is =
    let reply : Pinned m.pins.next at ≡ Pinned pin place = ap (λ (r : Machine × Reply). r.1) is in
    let number : m.pins.next ≡ pin = cc reply in
    let where_at : at ≡ place = cc reply in
    let first = subst (λ x. Opens m at x m.pins.next at) (ap (λ (r : Machine × Reply). r.0) is) (opened_pin_is_last m at numbered) in
    subst (λ p. Opens m at n pin p) where_at (subst (λ k. Opens m at n k at) number first)
pinned_reply_tells_opening m at n pin place numbered (Some r) is = absurd (clash (ap (λ (r : Machine × Reply). r.1) is))
  where
    clash : Refused r ≡ Pinned pin place → ⊥
    clash e = cc

pub opens_pin : (m : Machine) → OpensPin m
unfolding acted
opens_pin m numbered at n pin place is = pinned_reply_tells_opening m (unwrap_or at m.trail.place) n pin place numbered (open_refusal (unwrap_or at m.trail.place) m.trail m.pins) is
