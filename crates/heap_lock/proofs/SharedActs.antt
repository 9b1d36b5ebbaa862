-- An act under the lock, with what lay there before.
use Rattle.std.proofs.Common.{◌≡◌, Ok, Err, refl, ◌∙◌, subst}
use Rattle.heap_class.specs.declared.Refusal.{Refusal}
use Rattle.heap_world.specs.Limits.{HeapSettings}
use Rattle.heap_trail.specs.declared.Action.{Action}
use Rattle.std.specs.Prelude.{Bool}
use Rattle.heap_history.specs.declared.receipt.Receipt.{Receipt}
use Rattle.heap_history.specs.History.{entries_by}
use Rattle.heap_lock.specs.LockStates.{SeatModel, LockState, IsAct, IsHeap, IsMoved, IsRefused, IsSharedAct, Stands}

pub shared_done : (config : HeapSettings) (rolls : Bool) (action : Action) (s s' : SeatModel) (r : Receipt) (k k' : LockState) → IsHeap config rolls k → entries_by s.number k.chronicle ≡ s.share → IsMoved config action k r k' → IsAct action k s r k' s' → Stands config s' r.turn action r.answer
    → IsSharedAct config rolls action s (Ok r) s'
shared_done config rolls action s s' r k k' heap share moves act stands = (k, k', heap, share, record { moves = moves; act = act; stands = stands; refused = tt; unchanged = tt })

-- one that has no entry, after which the seat was compared
pub shared_refused : (config : HeapSettings) (rolls : Bool) (action : Action) (s s1 s' : SeatModel) (e : Refusal) (k k1 : LockState) → IsHeap config rolls k → IsRefused k e → k1 ≡ k → s1 ≡ s → entries_by s1.number k1.chronicle ≡ s1.share → s' ≡ s1
    → IsSharedAct config rolls action s (Err e) s'
shared_refused config rolls action s s1 s' e k k1 heap refused same seat share last =
    let agreed = subst (λ (x : LockState × SeatModel). entries_by x.1.number x.0.chronicle ≡ x.1.share) (λ i. (same i, seat i)) share in
    (k, k, heap, agreed, record { moves = tt; act = tt; stands = tt; refused = refused; unchanged = (refl, last ∙ seat) })
