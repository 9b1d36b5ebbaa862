-- What a seat at a shared heap answers.
use Rattle.std.specs.Prelude.{◌≡◌, ◌⊎◌, ℕ, List, Option, Result, Ok, Err, ⊤}
use mathlib.Core.List.{IsPrefix}
use Rattle.heap_lock.specs.IdSize.{IdSize}
use Rattle.heap_lock.specs.Refusal.{Refusal}
use Rattle.heap_lock.specs.HeapLimits.{HeapSettings}
use Rattle.heap_lock.specs.Action.{Action}
use Rattle.heap_lock.specs.Action.TheVariants.{Step, Rewind, OpenPin, NextPiece, ClosePin}
use Rattle.heap_lock.specs.Reply.{Reply}
use Rattle.heap_lock.specs.Reply.TheVariants.{Answered, Place, Pinned, Part, Closed, Refused}
use Rattle.heap_lock.specs.TrailLaws.{IsPieceOfLegal}
use Rattle.heap_lock.specs.Receipt.{Receipt}
use Rattle.heap_lock.specs.LockStates.{AreMet, SeatModel, IsReceived, IsNoEntry, Stands}
use Rattle.heap_lock.specs.Calls.{Call, Witnesses}
use Rattle.heap_lock.specs.History.{reply_of}

-- the answer of a receipt, or a refusal that has none
abbrev pub IsReply : Result Receipt Refusal → Reply → Type 0
IsReply (Ok receipt) r = r ≡ reply_of receipt.answer
IsReply (Err e) r = r ≡ Refused e

-- an event or a rewind: the seat's share gained it with this answer, as the entry that ends some legal history; or it was
-- refused without an entry, and the seat is as before
abbrev pub IsActed : HeapSettings → SeatModel → Action → Reply → SeatModel → Type 0
IsActed config s a r s' =
    ((receipt : Receipt) × IsReceived a s receipt s'
    × Stands config s' receipt.turn a receipt.answer × (r ≡ reply_of receipt.answer))
    ⊎ ((e : Refusal) × (s' ≡ s) × IsNoEntry e × (r ≡ Refused e))

-- a piece is one of the dump of a legal state
abbrev pub IsLegalPart : IdSize → ℕ → Reply → Type 0
IsLegalPart ids time (Part p) = IsPieceOfLegal ids time p
IsLegalPart ids time (Answered a) = ⊤
IsLegalPart ids time (Place place) = ⊤
IsLegalPart ids time (Pinned pin at) = ⊤
IsLegalPart ids time Closed = ⊤
IsLegalPart ids time (Refused e) = ⊤

-- a pin was opened, or not, after calls whose history has of the seat just its share; so on a state with all that the seat did
abbrev pub OpensMet : HeapSettings → SeatModel → List Call → Option ℕ → Reply → List Call → Type 0
OpensMet config s seen at r seen' =
    (met : List Call) × IsPrefix seen met × AreMet config s met
    × Witnesses config met (OpenPin at) r seen'

-- the seat before and what its witness had seen, the action, its reply, and the seat and what the witness has seen then
abbrev pub IsJoined : HeapSettings → SeatModel → List Call → Action → Reply → SeatModel → List Call → Type 0
IsJoined config s seen (Step event) r s' seen' = IsActed config s (Step event) r s' × (seen' ≡ seen)
IsJoined config s seen (Rewind n) r s' seen' = IsActed config s (Rewind n) r s' × (seen' ≡ seen)
IsJoined config s seen (OpenPin at) r s' seen' =
    (s' ≡ s) × OpensMet config s seen at r seen'
IsJoined config s seen (NextPiece pin time) r s' seen' =
    (s' ≡ s) × Witnesses config seen (NextPiece pin time) r seen' × IsLegalPart config.ids time r
IsJoined config s seen (ClosePin pin) r s' seen' =
    (s' ≡ s) × Witnesses config seen (ClosePin pin) r seen'
