-- A rewind over the steps of a list that rewinds nothing leads back to where the list began.
use Rattle.std.proofs.Common.{◌≡◌, ◌⊎◌, ℕ, zero, suc, ◌+◌, ◌-◌, ◌<◌, ◌≤◌, Bool, true, false, List, [], ◌∷◌, length, take, refl, sym, ap, subst, ◌∙◌, Some, None, Result, Ok, Err, arith}
use Rattle.std.specs.Prelude.{nat_le, slice_get}
use Rattle.std.proofs.lemmas.List.Elements.{All-head, All-tail}
use mathlib.Core.Logic.{inl, inr}
use Rattle.heap_class.specs.declared.Refusal.{Refusal}
use Rattle.heap_world.specs.State.{HeapState}
use Rattle.heap_step.specs.declared.Event.{Event}
use Rattle.heap_step.specs.declared.Answer.{Answer}
use Rattle.heap_step.specs.declared.Undo.{Undo}
use Rattle.heap_step.specs.Apply.{applied}
use Rattle.heap_step.specs.Records.{undo_record}
use Rattle.heap_trail.specs.declared.Action.{Action}
use Rattle.heap_trail.specs.declared.Action.TheVariants.{Step, Rewind, OpenPin, NextPiece, ClosePin}
use Rattle.heap_trail.specs.declared.Reply.TheVariants.{Place}
use Rattle.heap_trail.specs.Limits.{last_place}
use Rattle.heap_trail.specs.Trail.{Trail, stepped}
use Rattle.heap_trail.specs.Machine.{Machine, Allocation, Granted, Denied, LosesPins, after_result, after_step_at, acted, acted_under, machine_after}
use Rattle.heap_trail.specs.Headline.{is_rewind, HasNoRewind, RewindsOver}
use Rattle.heap_trail.proofs.Alone.{Core, action_alike_when_bared, acted_core, under_core}
use Rattle.heap_trail.proofs.Rewinds.{rewinds_retained}

-- ---- one action that is no rewind

abbrev StaysOrSteps : ℕ → Trail → Trail → Type 0
StaysOrSteps keep t u = (u ≡ t) ⊎ ((left : Undo) × (v : HeapState) × (u ≡ stepped keep left v t))

result_trail : (e : Event) (m : Machine) (r : Result (HeapState × Answer) Refusal) → StaysOrSteps m.keep m.trail (after_result e m r).0.trail
unfolding after_result
result_trail e m (Ok r) = inr (undo_record e m.trail.current, r.0, refl)
result_trail e m (Err r) = inl refl

at_trail : (m : Machine) (e : Event) (b : Bool) → StaysOrSteps m.keep m.trail (after_step_at b e m).0.trail
unfolding after_step_at
at_trail m e true = inl refl
at_trail m e false = result_trail e m (applied e m.trail.current)

step_stays_or_steps : (m : Machine) (e : Event) → StaysOrSteps m.keep m.trail (acted m (Step e)).0.trail
unfolding acted
step_stays_or_steps m e = at_trail m e (nat_le last_place m.trail.place)

trail_under_allocation : (m : Machine) (e : Event) (k : Allocation) → StaysOrSteps m.keep m.trail (acted_under m (Step e, k)).0.trail
unfolding acted_under
trail_under_allocation m e Granted = step_stays_or_steps m e
trail_under_allocation m e Denied = inl refl
trail_under_allocation m e (LosesPins pins) = step_stays_or_steps m e

action_stays_or_steps : (m : Machine) (a : Action) (k : Allocation) → is_rewind a ≡ false → StaysOrSteps m.keep m.trail (acted_under m (a, k)).0.trail
action_stays_or_steps m (Step e) k deed = trail_under_allocation m e k
action_stays_or_steps m (Rewind n) k deed = absurd (cc deed)
action_stays_or_steps m (OpenPin at) k deed = inl (ap (λ (c : Core). c.2) (under_core m (OpenPin at) k))
action_stays_or_steps m (NextPiece pin time) k deed = inl (ap (λ (c : Core). c.2) (under_core m (NextPiece pin time) k))
action_stays_or_steps m (ClosePin pin) k deed = inl (ap (λ (c : Core). c.2) (under_core m (ClosePin pin) k))

acted_keep : (m : Machine) (a : Action) → (acted m a).0.keep ≡ m.keep
acted_keep m (Step e) = (action_alike_when_bared m.ids m (Step e) refl).2
acted_keep m (Rewind n) = (action_alike_when_bared m.ids m (Rewind n) refl).2
acted_keep m (OpenPin at) = ap (λ (c : Core). c.0) (acted_core m (OpenPin at))
acted_keep m (NextPiece pin time) = ap (λ (c : Core). c.0) (acted_core m (NextPiece pin time))
acted_keep m (ClosePin pin) = ap (λ (c : Core). c.0) (acted_core m (ClosePin pin))

action_leaves_keep : (m : Machine) (a : Action) (k : Allocation) → (acted_under m (a, k)).0.keep ≡ m.keep
unfolding acted_under
action_leaves_keep m a Granted = acted_keep m a
action_leaves_keep m a Denied = refl
action_leaves_keep m a (LosesPins pins) = acted_keep m a

-- ---- places rise

pub step_raises_place_by_one : (keep : ℕ) (left : Undo) (v : HeapState) (t : Trail) → (stepped keep left v t).place ≡ t.place + 1
unfolding stepped
step_raises_place_by_one keep left v t = refl

place_never_falls : (keep : ℕ) (t u : Trail) → StaysOrSteps keep t u → t.place ≤ u.place
place_never_falls keep t u (inl e) = omega (arith, ap (λ (t : Trail). t.place) e)
place_never_falls keep t u (inr s) = omega (arith, ap (λ (t : Trail). t.place) s.2, step_raises_place_by_one keep s.0 s.1 t)

places_rise : (m : Machine) (later : List (Action × Allocation)) → HasNoRewind later → m.trail.place ≤ (machine_after m later).trail.place
unfolding machine_after
places_rise m [] none = omega arith
places_rise m ((a, k) ∷ more) none =
    let one = place_never_falls m.keep m.trail (acted_under m (a, k)).0.trail (action_stays_or_steps m a k (All-head (λ (b : Action × Allocation). is_rewind b.0 ≡ false) (a, k) more none)) in
    let rest = places_rise (acted_under m (a, k)).0 more (All-tail (λ (b : Action × Allocation). is_rewind b.0 ≡ false) (a, k) more none) in
    omega (arith, one, rest)

-- ---- where the state before the list stands

-- i steps ago the state was w
abbrev WasAgo : HeapState → ℕ → Trail → Type 0
WasAgo w i t = slice_get (t.current ∷ t.past) i ≡ Some w

taken_states_are_the_states : (i keep : ℕ) (xs : List HeapState) → i < keep → slice_get (take keep xs) i ≡ slice_get xs i
taken_states_are_the_states i zero xs h = absurd (omega (arith, h))
taken_states_are_the_states i (suc keep) [] h = refl
taken_states_are_the_states zero (suc keep) (x ∷ xs) h = refl
taken_states_are_the_states (suc i) (suc keep) (x ∷ xs) h = taken_states_are_the_states i keep xs (omega (arith, h))

one_more_ago : (w : HeapState) (i keep : ℕ) (left : Undo) (v : HeapState) (t : Trail) → i < keep → WasAgo w i t → WasAgo w (i + 1) (stepped keep left v t)
unfolding stepped
one_more_ago w i keep left v t h was =
    subst (λ n. WasAgo w n (stepped keep left v t)) (let e : suc i ≡ i + 1 = omega arith in e) (taken_states_are_the_states i keep (t.current ∷ t.past) h ∙ was)

-- from i steps after the place `start` on
still_ago : (w : HeapState) (start : ℕ) (m : Machine) (later : List (Action × Allocation)) (i n : ℕ) → HasNoRewind later → n ≤ m.keep → m.trail.place ≡ start + i → (machine_after m later).trail.place ≡ start + n
    → WasAgo w i m.trail → WasAgo w n (machine_after m later).trail
unfolding machine_after
still_ago w start m [] i n none few here there was = subst (λ k. WasAgo w k m.trail) (let e : i ≡ n = omega (arith, here, there) in e) was
still_ago w start m ((a, k) ∷ more) i n none few here there was =
    go (action_stays_or_steps m a k (All-head (λ (b : Action × Allocation). is_rewind b.0 ≡ false) (a, k) more none)) (λ j at ago. still_ago w start (acted_under m (a, k)).0 more j n (All-tail (λ (b : Action × Allocation). is_rewind b.0 ≡ false) (a, k) more none) (omega (arith, few, action_leaves_keep m a k)) at there ago)
  where
    after : Machine
    after = (acted_under m (a, k)).0

    go : StaysOrSteps m.keep m.trail after.trail → ((j : ℕ) → after.trail.place ≡ start + j → WasAgo w j after.trail → WasAgo w n (machine_after after more).trail) → WasAgo w n (machine_after after more).trail
    go (inl e) rest = rest i (ap (λ (t : Trail). t.place) e ∙ here) (subst (WasAgo w i) (sym e) was)
    go (inr s) rest =
        let at : after.trail.place ≡ m.trail.place + 1 = ap (λ (t : Trail). t.place) s.2 ∙ step_raises_place_by_one m.keep s.0 s.1 m.trail in
        let up = places_rise after more (All-tail (λ (b : Action × Allocation). is_rewind b.0 ≡ false) (a, k) more none) in
        rest (i + 1) (omega (arith, at, here)) (subst (WasAgo w (i + 1)) (sym s.2) (one_more_ago w i m.keep s.0 s.1 m.trail (omega (arith, few, here, there, at, up)) was))

state_found_is_within : (n : ℕ) (xs : List HeapState) (w : HeapState) → slice_get xs n ≡ Some w → n < length xs
state_found_is_within n [] w h = absurd (clash h)
  where
    clash : None ≡ Some w → ⊥
    clash e = cc
state_found_is_within zero (x ∷ xs) w h = omega arith
state_found_is_within (suc n) (x ∷ xs) w h = omega (arith, state_found_is_within n xs w h)

pub rewinds_over : (m : Machine) (later : List (Action × Allocation)) → RewindsOver m later
rewinds_over m later none n few there =
    let after : Machine = machine_after m later in
    let was : WasAgo m.trail.current n after.trail = still_ago m.trail.current m.trail.place m later 0 n none few (omega arith) there refl in
    let r = rewinds_retained after n (omega (arith, state_found_is_within n (after.trail.current ∷ after.trail.past) m.trail.current was)) in
    let same : Some (acted after (Rewind n)).0.trail.current ≡ Some m.trail.current = sym r.state ∙ was in
    let back : (acted after (Rewind n)).0.trail.current ≡ m.trail.current = cc in
    let place : after.trail.place - n ≡ m.trail.place = omega (arith, there) in
    (back, r.place ∙ place, r.reply ∙ ap Place place)
