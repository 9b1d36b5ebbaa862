-- What an act and its reply say.
use Rattle.std.proofs.Common.{◌≡◌, Result, Ok, Err, IfOk, IfErr, inl, inr}
use Rattle.heap_lock.specs.Refusal.{Refusal}
use Rattle.heap_lock.specs.HeapLimits.{HeapSettings}
use Rattle.heap_lock.specs.Action.{Action}
use Rattle.heap_lock.specs.Reply.{Reply}
use Rattle.heap_lock.specs.Receipt.{Receipt}
use Rattle.heap_lock.specs.LockStates.{SeatModel, IsReceived, IsNoEntry, Stands}
use Rattle.seat_session.specs.JoinedActs.{IsReply, IsActed}

pub received_reply_is_acted : (config : HeapSettings) (s s' : SeatModel) (a : Action) (done : Result Receipt Refusal) (r : Reply) → IfOk done (λ x. IsReceived a s x s')
    → IfOk done (λ x. Stands config s' x.turn a x.answer) → IfErr done (λ e. (s' ≡ s) × IsNoEntry e) → IsReply done r → IsActed config s a r s'
received_reply_is_acted config s s' a (Ok x) r got stands refused is = inl (x, got, stands, is)
received_reply_is_acted config s s' a (Err e) r got stands refused is = inr (e, refused.0, refused.1, is)
