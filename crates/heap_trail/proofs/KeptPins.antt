-- Over a list of actions a pin that isn't lost keeps its place and its image.
use Rattle.std.proofs.Common.{◌≡◌, ◌⊎◌, ℕ, ◌<◌, List, [], ◌∷◌, sym, ◌∙◌, Some}
use mathlib.Core.Logic.{inl, inr}
use Rattle.heap_trail.specs.declared.Action.{Action}
use Rattle.heap_trail.specs.declared.Action.TheVariants.{Step, Rewind, OpenPin, NextPiece, ClosePin}
use Rattle.heap_trail.specs.Pins.{Kept, pin_at}
use Rattle.heap_trail.specs.Machine.{Machine, Allocation, acted_under, machine_after}
use Rattle.heap_trail.specs.Laws.{AsksAt}
use Rattle.heap_trail.specs.Headline.{KeepsPin}
use Rattle.heap_trail.proofs.GivenText.{NotKept, each_action_moves_the_pin, action_on_unkept_is_silent, next_number_stays_above_pin}

-- the time of the piece that an action asks for
time_asked_by_action : Action → ℕ
time_asked_by_action (NextPiece pin time) = time
time_asked_by_action (Step e) = 0
time_asked_by_action (Rewind n) = 0
time_asked_by_action (OpenPin at) = 0
time_asked_by_action (ClosePin pin) = 0

action_asks_at_its_time : (pin : ℕ) (a : Action) → AsksAt pin (time_asked_by_action a) a
unfolding time_asked_by_action
action_asks_at_its_time pin (NextPiece n time) = λ e i. time
action_asks_at_its_time pin (Step e) = tt
action_asks_at_its_time pin (Rewind n) = tt
action_asks_at_its_time pin (OpenPin at) = tt
action_asks_at_its_time pin (ClosePin n) = tt

-- a pin that is closed or lost doesn't come back
pin_gone_stays_gone : (pin : ℕ) (m : Machine) (actions : List (Action × Allocation)) → pin < m.pins.next → NotKept (pin_at pin m.pins) → NotKept (pin_at pin (machine_after m actions).pins)
unfolding machine_after
pin_gone_stays_gone pin m [] lt not = not
pin_gone_stays_gone pin m ((a, k) ∷ more) lt not = pin_gone_stays_gone pin (acted_under m (a, k)).0 more (next_number_stays_above_pin pin m a k lt) (action_on_unkept_is_silent pin m a k lt not).after

pub keeps_pin : (m : Machine) (actions : List (Action × Allocation)) (pin : ℕ) → KeepsPin m actions pin
unfolding machine_after
keeps_pin m [] pin lt p q i j g h here there =
    let same : Some (Kept p i g) ≡ Some (Kept q j h) = sym here ∙ there in
    let place : q ≡ p = cc in
    let image : j ≡ i = cc in
    (place, image)
keeps_pin m ((a, k) ∷ more) pin lt p q i j g h here there =
    go (λ given kept. keeps_pin (acted_under m (a, k)).0 more pin (next_number_stays_above_pin pin m a k lt) p q i j given h kept there) (each_action_moves_the_pin pin (time_asked_by_action a) m a k p i g lt (action_asks_at_its_time pin a) here).after
  where
    given : ℕ
    given = (each_action_moves_the_pin pin (time_asked_by_action a) m a k p i g lt (action_asks_at_its_time pin a) here).given

    go : ((given : ℕ) → pin_at pin (acted_under m (a, k)).0.pins ≡ Some (Kept p i given) → (q ≡ p) × (j ≡ i))
        → (pin_at pin (acted_under m (a, k)).0.pins ≡ Some (Kept p i given)) ⊎ NotKept (pin_at pin (acted_under m (a, k)).0.pins) → (q ≡ p) × (j ≡ i)
    go rest (inl kept) = rest given kept
    go rest (inr not) = absurd (pin_gone_stays_gone pin (acted_under m (a, k)).0 more (next_number_stays_above_pin pin m a k lt) not q j h there)
