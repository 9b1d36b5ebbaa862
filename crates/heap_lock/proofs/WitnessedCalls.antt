-- A call between two looks at the ledger.
use Rattle.std.proofs.Common.{◌≡◌, ◌∙◌, List, [], ◌∷◌, ◌++◌, ap, subst, sym}
use Rattle.std.specs.Prelude.{Result, Ok, Err, IfOk, IfErr}
use mathlib.Core.List.{IsPrefix}
use Rattle.heap_class.specs.declared.Refusal.{Refusal}
use Rattle.heap_world.specs.Limits.{HeapSettings}
use Rattle.heap_trail.specs.declared.Action.{Action}
use Rattle.heap_trail.specs.declared.Reply.{Reply}
use Rattle.heap_trail.specs.declared.Reply.TheVariants.{Refused}
use Rattle.heap_world.specs.State.{HeapState}
use Rattle.heap_trail.specs.Trail.{Trail}
use Rattle.heap_trail.specs.Machine.{Machine}
use Rattle.heap_history.specs.History.{entries_by}
use Rattle.heap_lock.specs.Calls.{Call, IsHeapLedger, IsLegalLedger, IsWitnessed, Witnesses}
use Rattle.heap_lock.specs.Collector.{SeesState, state_of_calls}
use Rattle.heap_lock.specs.LockStates.{AreMet, SeatModel, AreAllCalls, LockState, IsDumperAct}
use Rattle.heap_lock.proofs.CallTrails.{ledger_trail}

last_of_all : (config : HeapSettings) (before after : List Call) (action : Action) (r : Reply) (k k1 k2 : LockState) → IsPrefix before k.ledger → k1 ≡ k → IsDumperAct action k1 r k2 → after ≡ k2.ledger → IsLegalLedger config k2.ledger → Witnesses config before action r after
last_of_all config before after action r k k1 k2 begins same act is legal = (
  begins.0,
  is ∙ act.2 ∙ ap (λ l. l ++ (action, r) ∷ []) (ap (λ (s : LockState). s.ledger) same ∙ sym begins.1),
  subst (λ l. IsLegalLedger config l) (sym is) legal,
)

pub dumper_act_is_witnessed : {A : Type 0} (config : HeapSettings) (before after : List Call) (action : Action) (reply : A → Reply) (result : Result A Refusal) (k k1 k2 : LockState) → IsPrefix before k.ledger → k1 ≡ k → IfOk result (λ a. IsDumperAct action k1 (reply a) k2) → IfErr result (λ e. IsDumperAct action k1 (Refused e) k2) → after ≡ k2.ledger → IsLegalLedger config k2.ledger → IsWitnessed config before action reply result after
dumper_act_is_witnessed config before after action reply (Ok a) k k1 k2 begins same done refused is legal = record { done = last_of_all config before after action (reply a) k k1 k2 begins same done is legal; refused = tt }
dumper_act_is_witnessed config before after action reply (Err e) k k1 k2 begins same done refused is legal = record { done = tt; refused = last_of_all config before after action (Refused e) k k1 k2 begins same refused is legal }

-- what is so of the machine's state is so of the one that all calls leave
pub seen_state : (config : HeapSettings) (before after : List Call) (k : LockState) (m : Machine) (is : HeapState → Type 0) → IsPrefix before k.ledger → IsHeapLedger config k.machine k.chronicle k.ledger → after ≡ k.ledger → m ≡ k.machine → is m.trail.current → SeesState config before is after
seen_state config before after k m is begins heap same here now =
    let trail = ap (λ (x : Machine). x.trail) here ∙ ledger_trail config k.machine k.chronicle k.ledger heap.0 heap.1 in (
      subst (IsPrefix before) (sym same) begins,
      subst (IsLegalLedger config) (sym same) (k.machine, k.chronicle, heap.0, heap.1),
      subst is (ap (λ (t : Trail). t.current) trail ∙ ap (state_of_calls config) (sym same)) now,
    )

-- a seat whose share is just what the history of these calls has of it
pub seat_share_knows_all_calls : (config : HeapSettings) (s : SeatModel) (k k1 : LockState) → entries_by s.number k.chronicle ≡ s.share → k1 ≡ k → IsHeapLedger config k1.machine k1.chronicle k1.ledger → AreAllCalls config k.machine s k.ledger
seat_share_knows_all_calls config s k k1 share same heap = (k.chronicle, subst (λ (x : LockState). IsHeapLedger config x.machine x.chronicle x.ledger) same heap, share)

-- and one that was shown these calls under the lock
pub shown_calls_are_met : (config : HeapSettings) (s : SeatModel) (after : List Call) (k : LockState) → AreAllCalls config k.machine s k.ledger → after ≡ k.ledger → AreMet config s after
shown_calls_are_met config s after k is same = (k.machine, subst (AreAllCalls config k.machine s) (sym same) is)
