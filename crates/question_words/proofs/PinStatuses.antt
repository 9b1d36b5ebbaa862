-- The open pin of a number, found in the list of the open pins.
use Rattle.std.proofs.Common.{◌≡◌, ◌∙◌, ℕ, zero, suc, add-one, ◌+◌, ◌<◌, true, false, cond, List, [], ◌∷◌, length, take, Option, Some, None, refl, sym, ap, subst, inl, inr}
use Rattle.std.specs.Prelude.{◌==◌, Err, Result, find, option_map, slice_get}
use Rattle.std.proofs.lemmas.Bool.{cases_Bool}
use Rattle.std.proofs.lemmas.List.{take_all}
use Rattle.std.proofs.lemmas.Option.{none-some, same_Some, slice_get_cases, slice_get_within}
use Rattle.heap_class.specs.declared.LostCause.{LostCause}
use Rattle.heap_class.specs.declared.Refusal.{Refusal}
use Rattle.heap_class.specs.declared.Refusal.TheVariants.{NoPin, Lost as LostPin}
use Rattle.heap_trail.specs.declared.listing.ListedPin.{ListedPin}
use Rattle.heap_trail.specs.declared.listing.PinStatus.TheVariants as status
use Rattle.heap_trail.specs.Listings.{listed_pin, status_of}
use Rattle.heap_trail.specs.Pins.{Gone, Kept, PinState, Pins, pin_at}
use Rattle.heap_trail.specs.Trail.{Trail}
use Rattle.question_words.specs.Moments.{ago_of_pin, steps_ago}

-- the open pins before the i-th don't have this number
abbrev pub IsNoneBefore : ℕ → List (ℕ × PinState) → ℕ → Type 0
IsNoneBefore pin pins i = find (λ e. e.0 == pin) (take i pins) ≡ None

-- ---- the first of a number

pin_found_at_index : (pin : ℕ) (pins : List (ℕ × PinState)) (i : ℕ) (e : ℕ × PinState) → IsNoneBefore pin pins i → slice_get pins i ≡ Some e → (e.0 == pin) ≡ true → find (λ e. e.0 == pin) pins ≡ Some e
pin_found_at_index pin [] i e h there t = absurd (none-some e there)
pin_found_at_index pin (x ∷ xs) zero e h there t =
    let same : x ≡ e = same_Some x e there in
    let here : (x.0 == pin) ≡ true = ap (λ (p : ℕ × PinState). p.0 == pin) same ∙ t in
    ap (λ b. cond b (Some x) (find (λ e. e.0 == pin) xs)) here ∙ ap Some same
pin_found_at_index pin (x ∷ xs) (suc i) e h there t = elim (cases_Bool (x.0 == pin)) [
  | inl y ↦ absurd (none-some x (sym h ∙ ap (λ b. cond b (Some x) (find (λ e. e.0 == pin) (take i xs))) y))
  | inr n ↦
      let rest = pin_found_at_index pin xs i e (sym (ap (λ b. cond b (Some x) (find (λ e. e.0 == pin) (take i xs))) n) ∙ h) there t in
      ap (λ b. cond b (Some x) (find (λ e. e.0 == pin) xs)) n ∙ rest
]

none_further : (pin : ℕ) (pins : List (ℕ × PinState)) (i : ℕ) (e : ℕ × PinState) → IsNoneBefore pin pins i → slice_get pins i ≡ Some e → (e.0 == pin) ≡ false → IsNoneBefore pin pins (suc i)
none_further pin [] i e h there t = absurd (none-some e there)
none_further pin (x ∷ xs) zero e h there t = ap (λ b. cond b (Some x) None) (ap (λ (p : ℕ × PinState). p.0 == pin) (same_Some x e there) ∙ t)
none_further pin (x ∷ xs) (suc i) e h there t = elim (cases_Bool (x.0 == pin)) [
  | inl y ↦ absurd (none-some x (sym h ∙ ap (λ b. cond b (Some x) (find (λ e. e.0 == pin) (take i xs))) y))
  | inr n ↦
      let rest = none_further pin xs i e (sym (ap (λ b. cond b (Some x) (find (λ e. e.0 == pin) (take i xs))) n) ∙ h) there t in
      ap (λ b. cond b (Some x) (find (λ e. e.0 == pin) (take (suc i) xs))) n ∙ rest
]

-- ---- by the list

-- the pin that is listed at an index
pin_listed : (pins : List (ℕ × PinState)) (i : ℕ) (listed : ListedPin) → option_map listed_pin (slice_get pins i) ≡ Some listed → (e : ℕ × PinState) × (slice_get pins i ≡ Some e) × (listed_pin e ≡ listed)
pin_listed pins i listed h = go (slice_get pins i) refl h
  where
    go : (x : Option (ℕ × PinState)) → slice_get pins i ≡ x → option_map listed_pin x ≡ Some listed → (e : ℕ × PinState) × (slice_get pins i ≡ Some e) × (listed_pin e ≡ listed)
    go None is h = absurd (none-some listed h)
    go (Some e) is h = (e, is, same_Some (listed_pin e) listed h)

number_listed : (e : ℕ × PinState) (listed : ListedPin) → listed_pin e ≡ listed → e.0 ≡ listed.number
unfolding listed_pin
number_listed e listed h = ap (λ (p : ListedPin). p.number) h

status_listed : (e : ℕ × PinState) (listed : ListedPin) → listed_pin e ≡ listed → status_of e.1 ≡ listed.status
unfolding listed_pin
status_listed e listed h = ap (λ (p : ListedPin). p.status) h

pub status_found : (pins : Pins) (pin i : ℕ) (listed : ListedPin) → IsNoneBefore pin pins.open_pins i → option_map listed_pin (slice_get pins.open_pins i) ≡ Some listed → (listed.number == pin) ≡ true
    → Some listed.status ≡ option_map status_of (pin_at pin pins)
unfolding pin_at
status_found pins pin i listed none h t =
    let p = pin_listed pins.open_pins i listed h in
    let found = pin_found_at_index pin pins.open_pins i p.0 none p.1 (ap (λ n. n == pin) (number_listed p.0 listed p.2) ∙ t) in
    ap Some (sym (status_listed p.0 listed p.2)) ∙ sym (ap (λ (x : Option (ℕ × PinState)). option_map status_of (option_map (λ e. e.1) x)) found)

pub one_pin_further : (pins : Pins) (pin i : ℕ) (listed : ListedPin) → IsNoneBefore pin pins.open_pins i → option_map listed_pin (slice_get pins.open_pins i) ≡ Some listed → (listed.number == pin) ≡ false
    → (i < length pins.open_pins) × IsNoneBefore pin pins.open_pins (i + 1)
one_pin_further pins pin i listed none h t =
    let p = pin_listed pins.open_pins i listed h in (
      slice_get_within pins.open_pins i p.0 p.1,
      subst (IsNoneBefore pin pins.open_pins) (sym (add-one i)) (none_further pin pins.open_pins i p.0 none p.1 (ap (λ n. n == pin) (number_listed p.0 listed p.2) ∙ t)),
    )

pub no_status : (pins : Pins) (pin i : ℕ) → IsNoneBefore pin pins.open_pins i → option_map listed_pin (slice_get pins.open_pins i) ≡ None → None ≡ option_map status_of (pin_at pin pins)
unfolding pin_at
no_status pins pin i none h = elim (slice_get_cases pins.open_pins i).1 [
  | inl e ↦ absurd (none-some (listed_pin e.0) (sym h ∙ ap (option_map listed_pin) e.2))
  | inr e ↦ sym (ap (λ (x : Option (ℕ × PinState)). option_map status_of (option_map (λ e. e.1) x)) (ap (find (λ e. e.0 == pin)) (sym (take_all i pins.open_pins e.0)) ∙ none))
]

-- ---- its place

pub place_kept : (x : Option PinState) (t : Trail) (place given : ℕ) → option_map status_of x ≡ Some (status.Kept place given) → steps_ago (Some place) t ≡ ago_of_pin x t
unfolding ago_of_pin status_of
place_kept None t place given h = absurd (none-some (status.Kept place given) h)
place_kept (Some (Gone at cause)) t place given h = cc
place_kept (Some (Kept at image n)) t place given h = let same : at ≡ place = cc in ap (λ p. steps_ago (Some p) t) (sym same)

pub pin_lost : (x : Option PinState) (t : Trail) (place : ℕ) (cause : LostCause) → option_map status_of x ≡ Some (status.Lost place cause) → ◌≡◌ {A = Result ℕ Refusal} (Err (LostPin cause)) (ago_of_pin x t)
unfolding ago_of_pin status_of
pin_lost None t place cause h = absurd (none-some (status.Lost place cause) h)
pin_lost (Some (Gone at c)) t place cause h = let same : c ≡ cause = cc in ap (λ c. Err (LostPin c)) (sym same)
pin_lost (Some (Kept at image n)) t place cause h = cc

pub not_open : (x : Option PinState) (t : Trail) → option_map status_of x ≡ None → ◌≡◌ {A = Result ℕ Refusal} (Err NoPin) (ago_of_pin x t)
unfolding ago_of_pin status_of
not_open None t h = refl
not_open (Some p) t h = absurd (none-some (status_of p) (sym h))
