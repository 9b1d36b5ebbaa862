-- Audits of several actors, one after another.
use Rattle.std.proofs.Common.{◌≡◌, ◌≢◌, ℕ, ◌+◌, ◌<◌, Bool, List, [], ◌∷◌, ◌++◌, length, take, drop, get_or, refl, sym, ap, ◌∙◌, subst}
use Rattle.std.proofs.lemmas.List.{take_more, take-append-drop}
use Rattle.heap_lock.specs.HeapLimits.{HeapSettings}
use Rattle.heap_lock.specs.Verdict.{Verdict}
use Rattle.heap_lock.specs.Verdict.TheVariants.{Holds, Fails, Dropped}
use Rattle.heap_lock.specs.Calls.{Call}
use Rattle.heap_runtime.specs.Actors.{ActorState, AllHold, AuditStops, IsAudited}

-- an actor more
actors_hold_with_one_more : (config : HeapSettings) (rolls : Bool) (seen middle seen' : List Call) (them : List ActorState) (a : ActorState) → AllHold config rolls seen them middle → IsAudited config rolls a.seat middle a.claims Holds seen'
    → AllHold config rolls seen (them ++ a ∷ []) seen'
actors_hold_with_one_more config rolls seen middle seen' [] a h is = (seen', subst (λ (l : List Call). IsAudited config rolls a.seat l a.claims Holds seen') h is, refl)
actors_hold_with_one_more config rolls seen middle seen' (b ∷ them) a h is = (h.0, h.1, actors_hold_with_one_more config rolls h.0 middle seen' them a h.2 is)

-- the first i actors hold, and the next one was audited so
pub record IsNext (config : HeapSettings) (rolls : Bool) (seen middle seen' : List Call) (them : List ActorState) (i : ℕ) (a : ActorState) (verdict : Verdict) : Type 0 where
  pub below : i < length them
  pub at : a ≡ get_or them i a
  pub hold : AllHold config rolls seen (take i them) middle
  pub audited : IsAudited config rolls a.seat middle a.claims verdict seen'

actors_taken_one_further : (them : List ActorState) (i : ℕ) (a : ActorState) → i < length them → a ≡ get_or them i a → take i them ++ a ∷ [] ≡ take (i + 1) them
actors_taken_one_further them i a below at = ap (λ (b : ActorState). take i them ++ b ∷ []) at ∙ sym (take_more them i a below)

pub actors_hold_one_further : (config : HeapSettings) (rolls : Bool) (seen middle seen' : List Call) (them : List ActorState) (i : ℕ) (a : ActorState) (verdict : Verdict) → verdict ≡ Holds → IsNext config rolls seen middle seen' them i a verdict → AllHold config rolls seen (take (i + 1) them) seen'
actors_hold_one_further config rolls seen middle seen' them i a verdict holds n =
    let all = actors_hold_with_one_more config rolls seen middle seen' (take i them) a n.hold (subst (λ (v : Verdict). IsAudited config rolls a.seat middle a.claims v seen') holds n.audited) in
    subst (λ (l : List ActorState). AllHold config rolls seen l seen') (actors_taken_one_further them i a n.below n.at) all

pub audit_stops_at_verdict : (config : HeapSettings) (rolls : Bool) (seen middle seen' : List Call) (them : List ActorState) (i : ℕ) (a : ActorState) (verdict : Verdict) → IsNext config rolls seen middle seen' them i a verdict → AuditStops config rolls seen them verdict seen'
audit_stops_at_verdict config rolls seen middle seen' them i a verdict n = (
  take i them,
  a,
  middle,
  (drop (i + 1) them, ap (λ (l : List ActorState). l ++ drop (i + 1) them) (actors_taken_one_further them i a n.below n.at) ∙ take-append-drop (i + 1) them),
  n.hold,
  n.audited,
)

-- a verdict that neither holds nor fails
pub verdict_otherwise_is_dropped : (v : Verdict) → v ≢ Holds → v ≢ Fails → v ≡ Dropped
verdict_otherwise_is_dropped Holds not_holds not_fails = absurd (not_holds refl)
verdict_otherwise_is_dropped Fails not_holds not_fails = absurd (not_fails refl)
verdict_otherwise_is_dropped Dropped not_holds not_fails = refl
