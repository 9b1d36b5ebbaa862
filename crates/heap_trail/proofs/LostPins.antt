-- Pins that are lost one by one.
use Rattle.std.proofs.Common.{◌≡◌, ℕ, zero, suc, ◌+◌, ◌<◌, ◌≤◌, Bool, true, false, List, [], ◌∷◌, length, map, set, refl, subst, ◌∙◌, arith}
use Rattle.std.specs.Prelude.{slice_index_or, nat_lt, if◌then◌else◌}
use Rattle.heap_class.specs.declared.LostCause.TheVariants.{Rewound}
use Rattle.heap_trail.specs.declared.held.NumberedPin.{NumberedPin}
use Rattle.heap_trail.specs.Pins.{Pins, PinState, if_kept, each_kept, after_rewind}
use Rattle.heap_trail.specs.Pins.{Kept as KeptState, Gone}
use Rattle.heap_trail.specs.OpenPins.{slot_after_rewind, AreBelow, EachBelow, AreAllBelow}

abbrev pub EachOf : (NumberedPin → NumberedPin → Type 0) → List NumberedPin → List NumberedPin → Type 0
EachOf R [] [] = Unit {0}
EachOf R [] (t ∷ ts) = ⊥
EachOf R (s ∷ ss) [] = ⊥
EachOf R (s ∷ ss) (t ∷ ts) = R s t × EachOf R ss ts

-- R of the first i pins, and the others are as they were
abbrev pub UpTo : (NumberedPin → NumberedPin → Type 0) → ℕ → List NumberedPin → List NumberedPin → Type 0
UpTo R zero ss ts = ts ≡ ss
UpTo R (suc i) [] ts = ts ≡ []
UpTo R (suc i) (s ∷ ss) [] = ⊥
UpTo R (suc i) (s ∷ ss) (t ∷ ts) = R s t × UpTo R i ss ts

pub slots_related_one_further : (R : NumberedPin → NumberedPin → Type 0) (i : ℕ) (ss ts : List NumberedPin) (s t : NumberedPin) → UpTo R i ss ts → i < length ts → s ≡ slice_index_or ts i s → R s t → UpTo R (suc i) ss (set ts i t)
slots_related_one_further R zero ss [] s t k lt e m = absurd (omega (arith, lt))
slots_related_one_further R zero [] (t0 ∷ ts) s t k lt e m = absurd (clash k)
  where
    clash : t0 ∷ ts ≡ [] → ⊥
    clash e = cc
slots_related_one_further R zero (s0 ∷ ss) (t0 ∷ ts) s t k lt e m =
    let a : t0 ≡ s0 = cc k in
    let b : ts ≡ ss = cc k in
    (subst (λ (x : NumberedPin). R x t) (e ∙ a) m, b)
slots_related_one_further R (suc i) [] [] s t k lt e m = absurd (omega (arith, lt))
slots_related_one_further R (suc i) [] (t0 ∷ ts) s t k lt e m = absurd (clash k)
  where
    clash : t0 ∷ ts ≡ [] → ⊥
    clash e = cc
slots_related_one_further R (suc i) (s0 ∷ ss) [] s t k lt e m = absurd k
slots_related_one_further R (suc i) (s0 ∷ ss) (t0 ∷ ts) s t k lt e m = (k.0, slots_related_one_further R i ss ts s t k.1 (omega (arith, lt)) e m)

pub slots_related_to_the_end : (R : NumberedPin → NumberedPin → Type 0) (i : ℕ) (ss ts : List NumberedPin) → UpTo R i ss ts → length ts ≤ i → EachOf R ss ts
slots_related_to_the_end R zero [] [] k few = tt
slots_related_to_the_end R zero (s ∷ ss) [] k few = absurd (clash k)
  where
    clash : [] ≡ s ∷ ss → ⊥
    clash e = cc
slots_related_to_the_end R zero ss (t ∷ ts) k few = absurd (omega (arith, few))
slots_related_to_the_end R (suc i) [] [] k few = tt
slots_related_to_the_end R (suc i) [] (t ∷ ts) k few = absurd (clash k)
  where
    clash : t ∷ ts ≡ [] → ⊥
    clash e = cc
slots_related_to_the_end R (suc i) (s ∷ ss) [] k few = absurd k
slots_related_to_the_end R (suc i) (s ∷ ss) (t ∷ ts) k few = (k.0, slots_related_to_the_end R i ss ts k.1 (omega (arith, few)))

abbrev pub IsLost : ℕ → NumberedPin → NumberedPin → Type 0
IsLost to s t = t ≡ slot_after_rewind to s

pub lost_slots_after_rewind : (to : ℕ) (ss ts : List NumberedPin) → EachOf (IsLost to) ss ts → ts ≡ map (slot_after_rewind to) ss
lost_slots_after_rewind to [] [] e = refl
lost_slots_after_rewind to [] (t ∷ ts) e = absurd e
lost_slots_after_rewind to (s ∷ ss) [] e = absurd e
lost_slots_after_rewind to (s ∷ ss) (t ∷ ts) e = λ i. e.0 i ∷ lost_slots_after_rewind to ss ts e.1 i

-- ---- which pins are left

pin_left_is_below : (to : ℕ) (s : PinState) → AreBelow (to + 1) (if_kept (λ place image given. if nat_lt to place then Gone place Rewound else KeptState place image given) s)
unfolding if_kept
pin_left_is_below to (KeptState place image given) = go (nat_lt to place) refl
  where
    go : (b : Bool) → nat_lt to place ≡ b → AreBelow (to + 1) (if b then Gone place Rewound else KeptState place image given)
    go true e = tt
    go false e = grind (arith, e)
pin_left_is_below to (Gone place cause) = tt

each_pin_left_is_below : (to : ℕ) (xs : List (ℕ × PinState)) → EachBelow (to + 1) (map {B = ℕ × PinState} (λ e. (e.0, if_kept (λ place image given. if nat_lt to place then Gone place Rewound else KeptState place image given) e.1)) xs)
each_pin_left_is_below to [] = tt
each_pin_left_is_below to (x ∷ xs) = (pin_left_is_below to x.1, each_pin_left_is_below to xs)

pub pins_after_rewind_are_below : (to : ℕ) (ps : Pins) → AreAllBelow (to + 1) (after_rewind to ps)
unfolding after_rewind each_kept
pins_after_rewind_are_below to ps = each_pin_left_is_below to ps.open_pins

pin_below_a_higher_place : (m k : ℕ) (s : PinState) → m ≤ k → AreBelow m s → AreBelow k s
pin_below_a_higher_place m k (KeptState place image given) le b = omega (arith, b)
pin_below_a_higher_place m k (Gone place cause) le b = tt

each_pin_below_higher_place : (m k : ℕ) (xs : List (ℕ × PinState)) → m ≤ k → EachBelow m xs → EachBelow k xs
each_pin_below_higher_place m k [] le b = tt
each_pin_below_higher_place m k (x ∷ xs) le b = (pin_below_a_higher_place m k x.1 le b.0, each_pin_below_higher_place m k xs le b.1)

pub pins_below_a_higher_place : (m k : ℕ) (ps : Pins) → m ≤ k → AreAllBelow m ps → AreAllBelow k ps
pins_below_a_higher_place m k ps le b = each_pin_below_higher_place m k ps.open_pins le b
