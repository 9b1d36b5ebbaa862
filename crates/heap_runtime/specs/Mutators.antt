-- What mutators do.
use Rattle.std.specs.Prelude.{◌≡◌, ℕ, Result, Ok, Err}
use Rattle.heap_lock.specs.HeapLimits.{HeapSettings}
use Rattle.heap_lock.specs.Answer.{Answer}
use Rattle.heap_lock.specs.Event.{Event}
use Rattle.heap_lock.specs.Action.TheVariants.{Step}
use Rattle.heap_history.specs.declared.entry.Outcome.TheVariants.{Answered}
use Rattle.heap_lock.specs.declared.role.Role.{Role}
use Rattle.heap_lock.specs.declared.role.Role.TheVariants.{Mutator}
use Rattle.heap_runtime.specs.declared.actor.Denial.{Denial}
use Rattle.heap_runtime.specs.declared.actor.Denial.TheVariants.{WrongRole}
use Rattle.heap_runtime.specs.Actors.{ActorState, IsClaimed, IsDenied}

-- the number of the mutator of a role
abbrev pub mutator_of : Role → Result ℕ Denial
mutator_of (Mutator m) = Ok m
mutator_of role = Err WrongRole

-- the event was done and claimed, or denied
abbrev pub IsDoneOrDenied : HeapSettings → Event → ActorState → Result Answer Denial → ActorState
    → Type 0
IsDoneOrDenied config event a (Ok answer) a' = IsClaimed config (Step event) a (Answered answer) a'
IsDoneOrDenied config event a (Err d) a' = IsDenied config event a d a'

-- this mutator's event was done or denied; or there is no mutator, and the actor is as before
abbrev pub IsActedBy : HeapSettings → (ℕ → Event) → Result ℕ Denial → ActorState
    → Result Answer Denial → ActorState → Type 0
IsActedBy config event (Ok m) a result a' = IsDoneOrDenied config (event m) a result a'
IsActedBy config event (Err d) a result a' = (result ≡ Err d) × (a' ≡ a)

-- the actor is a mutator, and its event was done or denied; or it is none, and was denied for its role
abbrev pub IsMutation : HeapSettings → (ℕ → Event) → ActorState → Result Answer Denial → ActorState
    → Type 0
IsMutation config event a result a' =
    IsActedBy config event (mutator_of a.seat.role) a result a'
