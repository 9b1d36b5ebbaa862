-- What an actor gains by an act.
use Rattle.std.proofs.Common.{◌≡◌, ℕ, List, [], ◌∷◌, ◌++◌, Result, Ok, Err, ap, ◌∙◌, subst, sym, inr}
use Rattle.std.specs.Prelude.{IfOk, IfErr}
use Rattle.heap_lock.specs.HeapLimits.{HeapSettings}
use Rattle.heap_lock.specs.Answer.{Answer}
use Rattle.heap_lock.specs.Event.{Event}
use Rattle.heap_lock.specs.Action.{Action}
use Rattle.heap_lock.specs.Action.TheVariants.{Step}
use Rattle.heap_history.specs.declared.entry.Outcome.{Outcome}
use Rattle.heap_history.specs.declared.entry.Outcome.TheVariants.{Answered}
use Rattle.heap_lock.specs.Receipt.{Receipt}
use Rattle.heap_lock.specs.LockStates.{SeatModel, IsReceived, Stands}
use Rattle.heap_runtime.specs.declared.actor.Denial.{Denial}
use Rattle.heap_runtime.specs.Actors.{ActorState, IsClaimed, IsDenied, IsToldRefusal}

-- the seat's share and the claims gain one act
pub received_act_is_claimed : (config : HeapSettings) (action : Action) (s s' : SeatModel) (claims claims' : List (Action × Receipt)) (r : Receipt)
    → IsReceived action s r s' → Stands config s' r.turn action r.answer → claims' ≡ claims ++ (action, r) ∷ []
    → IsClaimed config action (record { seat = s; claims = claims }) r.answer (record { seat = s'; claims = claims' })
received_act_is_claimed config action s s' claims claims' r received stands gained =
    let same : claims' ≡ claims ++ (action, record { seat = s.number; turn = r.turn; answer = r.answer }) ∷ []
    = gained ∙ ap (λ (n : ℕ). claims ++ (action, (let q : Receipt = record { seat = n; turn = r.turn; answer = r.answer } in q)) ∷ []) received.0 in (
      r.turn,
      (λ i. record { seat = received.1 i; claims = same i }),
      stands,
    )

-- an answer is claimed as it is told
pub told_answer_is_claimed : (config : HeapSettings) (action : Action) (a a' : ActorState) (o : Outcome) (result : Result Answer Denial)
    → IsClaimed config action a o a' → IfOk result (λ x. o ≡ Answered x) → IfOk result (λ x. IsClaimed config action a (Answered x) a')
told_answer_is_claimed config action a a' o (Ok x) k is = subst (λ (p : Outcome). IsClaimed config action a p a') is k
told_answer_is_claimed config action a a' o (Err d) k is = tt

-- and so is a refusal
pub told_refusal_is_denied : (config : HeapSettings) (event : Event) (a a' : ActorState) (o : Outcome) (result : Result Answer Denial)
    → IsClaimed config (Step event) a o a' → IfErr result (λ d. IsToldRefusal o d) → IfErr result (λ d. IsDenied config event a d a')
told_refusal_is_denied config event a a' o (Ok x) k is = tt
told_refusal_is_denied config event a a' o (Err d) k is =
    subst (λ (x : Denial). IsDenied config event a x a') (sym is.2) (inr (subst (λ (p : Outcome). IsClaimed config (Step event) a p a') is.1 k))
