-- Those who act on a shared heap, and what they claim.
use Rattle.std.specs.Prelude.{◌≡◌, ◌≢◌, ◌⊎◌, ℕ, false, List, [], ◌∷◌, ◌++◌, length, Bool}
use mathlib.Core.List.{IsPrefix}
use Rattle.heap_class.specs.declared.Refusal.{Refusal}
use Rattle.heap_class.specs.declared.Refusal.TheVariants.{NoMemory}
use Rattle.heap_lock.specs.HeapLimits.{HeapSettings}
use Rattle.heap_lock.specs.Event.{Event}
use Rattle.heap_lock.specs.Event.TheVariants as Events
use Rattle.heap_lock.specs.Action.{Action}
use Rattle.heap_lock.specs.Action.TheVariants.{Step}
use Rattle.heap_history.specs.declared.entry.Entry.{Entry}
use Rattle.heap_history.specs.declared.entry.Outcome.{Outcome}
use Rattle.heap_history.specs.declared.entry.Outcome.TheVariants as Outcomes
use Rattle.heap_lock.specs.Receipt.{Receipt}
use Rattle.heap_lock.specs.declared.role.Role.{Role}
use Rattle.heap_lock.specs.Verdict.{Verdict}
use Rattle.heap_lock.specs.Verdict.TheVariants.{Holds}
use Rattle.heap_lock.specs.Audits.{IsVerdict}
use Rattle.heap_history.specs.Chronicles.{dropped_of}
use Rattle.heap_history.specs.History.{entry, entries_by}
use Rattle.heap_lock.specs.Machine.{Machine}
use Rattle.heap_lock.specs.Calls.{Call, IsHeapLedger}
use Rattle.heap_lock.specs.LockStates.{SeatModel, Stands, IsNoEntry, with_entry}
use Rattle.heap_lock.specs.Roles.{may}
use Rattle.heap_work.specs.declared.MarkEnd.{MarkEnd}
use Rattle.heap_work.specs.declared.MarkEnd.TheVariants.{Finished}
use Rattle.heap_runtime.specs.declared.actor.Denial.{Denial}
use Rattle.heap_runtime.specs.declared.actor.Denial.TheVariants.{WrongRole, Refused}

-- an actor: its seat, and its claims, each an action with its receipt
pub record ActorState : Type 0 where
  pub seat : SeatModel
  pub claims : List (Action × Receipt)

-- the actor with an entry more, and the claim of it
abbrev pub with_claim : ℕ → Action → Outcome → ActorState → ActorState
with_claim turn action outcome a =
    record {
      seat = with_entry turn action outcome a.seat;
      claims =
          a.claims ++ (action, record { seat = a.seat.number; turn = turn; answer = outcome }) ∷ [];
    }

-- the action has an entry with this outcome, which ends some legal history, and the actor claims it
abbrev pub IsClaimed : HeapSettings → Action → ActorState → Outcome → ActorState → Type 0
IsClaimed config action a outcome a' =
    (turn : ℕ) × (a' ≡ with_claim turn action outcome a) × Stands config a'.seat turn action outcome

-- the role doesn't allow the event; or the event has no entry; or it has one, and was refused
abbrev pub IsDenied : HeapSettings → Event → ActorState → Denial → ActorState → Type 0
IsDenied config event a WrongRole a' = (may a.seat.role event ≡ false) × (a' ≡ a)
IsDenied config event a (Refused e) a' =
    (IsNoEntry e × (a' ≡ a)) ⊎ IsClaimed config (Step event) a (Outcomes.Refused e) a'

-- the outcome is a refusal, and the actor is told that one
abbrev pub IsToldRefusal : Outcome → Denial → Type 0
IsToldRefusal outcome d = (e : Refusal) × (outcome ≡ Outcomes.Refused e) × (d ≡ Refused e)

-- the actor is as before: it has another role, or room for a claim couldn't be allocated
abbrev pub IsActorIdle : Role → ActorState → Denial → ActorState → Type 0
IsActorIdle role a WrongRole a' = (a.seat.role ≢ role) × (a' ≡ a)
IsActorIdle role a (Refused e) a' = (e ≡ NoMemory) × (a' ≡ a)

-- the claim of the end of a cycle, if it is finished
abbrev pub end_claims : MarkEnd → List (Action × Receipt)
end_claims (Finished r) = (Step Events.Finish, r) ∷ []
end_claims end = []

-- the entry that a claim is of, with its turn
abbrev pub claimed_entry : Action × Receipt → ℕ × Entry
claimed_entry c = (c.1.turn, entry c.1.seat c.0 c.1.answer)

-- the claims are of entries of this share, in order
abbrev pub AreEntries : List (Action × Receipt) → List (ℕ × Entry) → Type 0
AreEntries [] share = Unit {0}
AreEntries (c ∷ cs) [] = ⊥
AreEntries (c ∷ cs) (m ∷ ms) =
    ((m ≡ claimed_entry c) × AreEntries cs ms) ⊎ AreEntries (c ∷ cs) ms

-- the verdict on claims over the history of the heap, of which some entries may not be kept: its acts are those among all
-- calls, which the witness has seen then, and it has of the seat just the share
abbrev pub IsAudited : HeapSettings → Bool → SeatModel → List Call → List (Action × Receipt) → Verdict
    → List Call
    → Type 0
IsAudited config rolls s seen claims verdict seen' =
    (m : Machine) × (history : List Entry) × IsHeapLedger config m history seen'
    × IsPrefix seen seen' × (entries_by s.number history ≡ s.share)
    × IsVerdict (dropped_of rolls (length history)) history claims verdict

-- the claims of each actor hold, of one after another
abbrev pub AllHold : HeapSettings → Bool → List Call → List ActorState → List Call → Type 0
AllHold config rolls seen [] seen' = seen' ≡ seen
AllHold config rolls seen (a ∷ more) seen' =
    (middle : List Call) × IsAudited config rolls a.seat seen a.claims Holds middle
    × AllHold config rolls middle more seen'

-- the claims of the first actors hold, and those of the next one have this verdict
abbrev pub AuditStops : HeapSettings → Bool → List Call → List ActorState → Verdict → List Call
    → Type 0
AuditStops config rolls seen actors verdict seen' =
    (first : List ActorState) × (a : ActorState) × (middle : List Call)
    × IsPrefix (first ++ a ∷ []) actors × AllHold config rolls seen first middle
    × IsAudited config rolls a.seat middle a.claims verdict seen'
