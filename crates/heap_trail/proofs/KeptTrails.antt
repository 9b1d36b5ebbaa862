-- Every action leaves a legal trail legal.
use Rattle.std.proofs.Common.{◌≡◌, ℕ, zero, suc, ◌≤◌, Bool, true, false, List, [], ◌∷◌, length, length-take, length-drop, take, drop, refl, Option, Some, None, arith}
use Rattle.std.specs.Prelude.{nat_le, nat_lt, slice_index_or, unwrap_or}
use Rattle.heap_class.specs.declared.Refusal.{Refusal}
use Rattle.heap_class.specs.declared.Refusal.TheVariants.{TooFar}
use Rattle.heap_class.proofs.Refusals.{no_refusal_test_holds}
use Rattle.heap_world.specs.State.{HeapState}
use Rattle.heap_step.specs.declared.Event.{Event}
use Rattle.heap_step.specs.declared.Undo.{Undo}
use Rattle.heap_step.specs.Apply.{refusal_of, state_after, applied, applied_unless}
use Rattle.heap_step.specs.Records.{undo_record}
use Rattle.heap_trail.specs.declared.Action.{Action}
use Rattle.heap_trail.specs.declared.Action.TheVariants.{Step, Rewind, OpenPin, NextPiece, ClosePin}
use Rattle.heap_trail.specs.Limits.{last_place}
use Rattle.heap_trail.specs.Trail.{Trail, retained, stepped, state_ago, rewind_refusal, rewound}
use Rattle.heap_trail.specs.Pins.{PinState, Kept, Gone, pin_at, open_refusal}
use Rattle.heap_trail.specs.Machine.{Machine, Allocation, Granted, Denied, LosesPins, acted, acted_under, machine_after, after_step_at, after_result, after_rewind_by, after_open, after_piece, after_close, counted, unless}
use Rattle.heap_trail.specs.Laws.{AreSteps, IsTrail}
use Rattle.heap_trail.proofs.RetainedStates.{recorded_state_is_legal}

first_states_are_steps : (k : ℕ) (v : HeapState) (vs : List HeapState) (rs : List Undo) → AreSteps v vs rs → AreSteps v (take k vs) (take k rs)
first_states_are_steps zero v [] [] s = s
first_states_are_steps zero v (w ∷ ws) (r ∷ rs) s = recorded_state_is_legal v (w ∷ ws) (r ∷ rs) s
first_states_are_steps (suc k) v [] [] s = s
first_states_are_steps (suc k) v (w ∷ ws) (r ∷ rs) s = (s.0, first_states_are_steps k w ws rs s.1)
first_states_are_steps k v [] (r ∷ rs) s = absurd s
first_states_are_steps k v (w ∷ ws) [] s = absurd s

older_steps : (n : ℕ) (v d : HeapState) (vs : List HeapState) (rs : List Undo) → n ≤ length vs → AreSteps v vs rs → AreSteps (slice_index_or (v ∷ vs) n d) (drop n vs) (drop n rs)
older_steps zero v d [] [] few s = s
older_steps zero v d (w ∷ ws) (r ∷ rs) few s = s
older_steps (suc n) v d [] [] few s = absurd (omega (arith, few))
older_steps (suc n) v d (w ∷ ws) (r ∷ rs) few s = older_steps n w d ws rs (omega (arith, few)) s.1
older_steps n v d [] (r ∷ rs) few s = absurd s
older_steps n v d (w ∷ ws) [] few s = absurd s

stepped_trail : (keep : ℕ) (e : Event) (t : Trail) → refusal_of e t.current ≡ None → IsTrail keep t → IsTrail keep (stepped keep (undo_record e t.current) (state_after e t.current) t)
unfolding stepped
stepped_trail keep e t accepted s = record {
  steps = first_states_are_steps keep (state_after e t.current) (t.current ∷ t.past) (undo_record e t.current ∷ t.records)
      ((e, record { legal = recorded_state_is_legal t.current t.past t.records s.steps; accepted = accepted; gave = refl; recorded = refl }), s.steps);
  few = omega (arith, length-take keep (t.current ∷ t.past));
  placed = omega (arith, length-take keep (t.current ∷ t.past), s.placed);
}

rewound_trail : (keep n : ℕ) (t : Trail) → n ≤ retained t → IsTrail keep t → IsTrail keep (rewound n t)
unfolding rewound state_ago
rewound_trail keep n t few s = record {
  steps = older_steps n t.current t.current t.past t.records few s.steps;
  few = omega (arith, length-drop n t.past, s.few);
  placed = omega (arith, length-drop n t.past, s.placed);
}

abbrev HasTrail : Machine → Type 0
HasTrail m = IsTrail m.keep m.trail

step_keeps_a_trail : (m : Machine) (e : Event) → HasTrail m → HasTrail (acted m (Step e)).0
unfolding acted after_step_at after_result applied applied_unless
step_keeps_a_trail m e s = go (nat_le last_place m.trail.place)
  where
    one : (r : Option Refusal) → refusal_of e m.trail.current ≡ r → HasTrail (after_result e m (applied_unless r e m.trail.current)).0
    one (Some r) is = s
    one None is = stepped_trail m.keep e m.trail is s

    go : (b : Bool) → HasTrail (after_step_at b e m).0
    go true = s
    go false = one (refusal_of e m.trail.current) refl

accepted_rewind_is_retained : (n : ℕ) (t : Trail) → rewind_refusal n t ≡ None → n ≤ retained t
unfolding rewind_refusal
accepted_rewind_is_retained n t h = let none = (no_refusal_test_holds ((nat_lt (retained t) n, TooFar n (retained t)) ∷ []) h).0 in grind (arith, none)

rewind_trail : (m : Machine) (n : ℕ) → HasTrail m → HasTrail (acted m (Rewind n)).0
unfolding acted unless after_rewind_by
rewind_trail m n s = go (rewind_refusal n m.trail) refl
  where
    go : (r : Option Refusal) → rewind_refusal n m.trail ≡ r → HasTrail (unless r (after_rewind_by n) m).0
    go (Some r) is = s
    go None is = rewound_trail m.keep n m.trail (accepted_rewind_is_retained n m.trail is) s

open_trail : (m : Machine) (at : ℕ) (r : Option Refusal) → HasTrail m → HasTrail (unless r (after_open at) m).0
unfolding unless after_open
open_trail m at None s = s
open_trail m at (Some r) s = s

counted_trail : (m : Machine) (pin : ℕ) (b : Bool) → HasTrail m → HasTrail (counted b pin m)
unfolding counted
counted_trail m pin true s = s
counted_trail m pin false s = s

piece_trail : (m : Machine) (pin time : ℕ) (p : Option PinState) → HasTrail m → HasTrail (after_piece pin time m p).0
unfolding after_piece
piece_trail m pin time None s = s
piece_trail m pin time (Some (Gone place cause)) s = s
piece_trail m pin time (Some (Kept place image given)) s = counted_trail m pin _ s

close_trail : (m : Machine) (pin : ℕ) (p : Option PinState) → HasTrail m → HasTrail (after_close pin m p).0
unfolding after_close
close_trail m pin None s = s
close_trail m pin (Some p) s = s

acted_trail : (m : Machine) (a : Action) → HasTrail m → HasTrail (acted m a).0
unfolding acted
acted_trail m (Step e) s = step_keeps_a_trail m e s
acted_trail m (Rewind n) s = rewind_trail m n s
acted_trail m (OpenPin at) s = open_trail m (unwrap_or at m.trail.place) (open_refusal (unwrap_or at m.trail.place) m.trail m.pins) s
acted_trail m (NextPiece pin time) s = piece_trail m pin time (pin_at pin m.pins) s
acted_trail m (ClosePin pin) s = close_trail m pin (pin_at pin m.pins) s

under_trail : (m : Machine) (a : Action) (allocation : Allocation) → HasTrail m → HasTrail (acted_under m (a, allocation)).0
unfolding acted_under
under_trail m a Granted s = acted_trail m a s
under_trail m a Denied s = s
under_trail m a (LosesPins pins) s = acted_trail m a s

pub trails_stay : (m : Machine) (actions : List (Action × Allocation)) → IsTrail m.keep m.trail → IsTrail (machine_after m actions).keep (machine_after m actions).trail
unfolding machine_after
trails_stay m [] s = s
trails_stay m ((a, allocation) ∷ as') s = trails_stay (acted_under m (a, allocation)).0 as' (under_trail m a allocation s)
