-- A step is never answered with a place.
use Rattle.std.proofs.Common.{◌≡◌, ℕ, Bool, true, false}
use Rattle.std.specs.Prelude.{Result, Ok, Err, nat_le}
use Rattle.heap_class.specs.declared.Refusal.{Refusal}
use Rattle.heap_world.specs.State.{HeapState}
use Rattle.heap_step.specs.Apply.{applied}
use Rattle.heap_step.specs.declared.Answer.{Answer}
use Rattle.heap_step.specs.declared.Event.{Event}
use Rattle.heap_trail.specs.declared.Action.TheVariants.{Step}
use Rattle.heap_trail.specs.declared.Reply.TheVariants.{Place}
use Rattle.heap_trail.specs.Limits.{last_place}
use Rattle.heap_trail.specs.Machine.{Machine, acted, after_result, after_step_at}

pub step_replies_no_place : (m : Machine) (e : Event) (p : ℕ) → (acted m (Step e)).1 ≡ Place p → ⊥
unfolding acted after_result after_step_at
step_replies_no_place m e p is = at (nat_le last_place m.trail.place) is
  where
    of : (x : Result (HeapState × Answer) Refusal) → (after_result e m x).1 ≡ Place p → ⊥
    of (Ok v) h = cc h
    of (Err x) h = cc h

    at : (b : Bool) → (after_step_at b e m).1 ≡ Place p → ⊥
    at true h = cc h
    at false h = of (applied e m.trail.current) h
