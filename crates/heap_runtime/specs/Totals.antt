-- What several actors did, by their claims.
use Rattle.std.specs.Prelude.{◌≡◌, ℕ, ◌-◌, ◌^◌, Bool, true, false, ◌&&◌, List, count_by, length, min, sum_by}
use Rattle.heap_lock.specs.Event.TheVariants as Events
use Rattle.heap_lock.specs.Action.{Action}
use Rattle.heap_lock.specs.Action.TheVariants.{Step}
use Rattle.heap_history.specs.declared.entry.Outcome.{Outcome}
use Rattle.heap_history.specs.declared.entry.Outcome.TheVariants as Outcomes
use Rattle.heap_lock.specs.Receipt.{Receipt}
use Rattle.heap_runtime.specs.declared.totals.Totals.{Totals}
use Rattle.heap_runtime.specs.Actors.{ActorState}

-- the action asks for an object
abbrev pub is_new : Action → Bool
is_new (Step (Events.New m r class)) = true
is_new (Step (Events.NewArray m r class len)) = true
is_new (Step (Events.NewPrim m r kind len)) = true
is_new action = false

-- the action asks for the end of a cycle
abbrev pub is_finish : Action → Bool
is_finish (Step Events.Finish) = true
is_finish action = false

-- the outcome is an answer
abbrev pub is_answer : Outcome → Bool
is_answer (Outcomes.Answered answer) = true
is_answer outcome = false

-- an object was made
unfoldable pub is_making : Action × Receipt → Bool
is_making claim = is_new claim.0 && is_answer claim.1.answer

-- a cycle was finished
unfoldable pub is_finishing : Action × Receipt → Bool
is_finishing claim = is_finish claim.0 && is_answer claim.1.answer

-- the sum of a number of each actor, or the largest `usize` if that is less
abbrev pub capped_sum : (ActorState → ℕ) → List ActorState → ℕ
capped_sum number_of actors = min (sum_by number_of actors) (2 ^ 64 - 1)

-- the number of claims of an actor
abbrev pub claim_count : ActorState → ℕ
claim_count a = length a.claims

-- the number of objects that an actor made
abbrev pub made_count : ActorState → ℕ
made_count a = count_by is_making a.claims

-- the number of cycles that an actor finished
abbrev pub finished_count : ActorState → ℕ
finished_count a = count_by is_finishing a.claims

-- what the actors did
abbrev pub IsTotal : List ActorState → Totals → Type 0
IsTotal actors t =
    (t.claims ≡ capped_sum claim_count actors) × (t.made ≡ capped_sum made_count actors)
    × (t.finished ≡ capped_sum finished_count actors)
