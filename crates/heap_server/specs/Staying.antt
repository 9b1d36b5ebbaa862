-- What the seats of a heap did that stays.
use Rattle.std.specs.Prelude.{◌≡◌, List, [], ◌∷◌, ◌++◌, Option, Some, None, IfSome}
use Rattle.heap_lock.specs.Seated.{TableId}
use Rattle.heap_lock.specs.HeapLimits.{HeapSettings}
use Rattle.heap_lock.specs.Blanks.{seat_model_of}
use Rattle.heap_lock.specs.LockStates.{SeatModel, IsSeatModel}
use Rattle.heap_lock.specs.declared.unnamed_seat.UnnamedSeat.{UnnamedSeat}
use Rattle.heap_server.specs.SocketTraffic.{Traffic}
use Rattle.heap_server.specs.Stations.{InTurn, IsClientOf}
use Rattle.heap_server.specs.declared.client_session.SessionEnd.{SessionEnd}
use Rattle.heap_server.specs.declared.sessions.Terms.{Terms}
use Rattle.heap_server.specs.declared.staying.SeatStay.{SeatStay}

-- how a session ended, and what went through its socket
abbrev pub SocketSession : Type 0
SocketSession = SessionEnd × Option Traffic

-- sessions from a seat, one after another, each from the seat as the one before it left it
abbrev pub AreSessions : HeapSettings → Terms → SeatModel → List SocketSession → SeatModel → Type 0
AreSessions config terms s [] s' = s' ≡ s
AreSessions config terms s (e ∷ es) s' =
    (next : SeatModel) × IsClientOf config terms s next e.0 e.1 × AreSessions config terms next es s'

-- a seat of the heap with these tables as its sessions left it; or there was no thread for it, and it had none
abbrev pub IsStayLeft : HeapSettings → List TableId → Terms → SeatModel → List SocketSession
    → Option UnnamedSeat
    → Type 0
IsStayLeft config tables terms s sessions (Some unnamed_seat) =
    IsSeatModel tables unnamed_seat.number unnamed_seat.share × AreSessions config terms s sessions (seat_model_of unnamed_seat)
IsStayLeft config tables terms s sessions None = sessions ≡ []

-- the same of the sessions beside their seat
abbrev pub IsSeatStay : HeapSettings → List TableId → Terms → SeatModel → SeatStay → Type 0
IsSeatStay config tables terms s stay =
    IsStayLeft config tables terms s stay.sessions.items stay.unnamed_seat

-- the sessions of each of these seats, in order
abbrev pub AreStays : HeapSettings → List TableId → Terms → List SeatModel → List SeatStay → Type 0
AreStays config tables terms seats stays =
    InTurn (IsSeatStay config tables terms) seats stays []

-- one more session was served from the seat
abbrev pub ServesNext : HeapSettings → Terms → SeatModel → List SocketSession → SeatModel
    → List SocketSession
    → Type 0
ServesNext config terms s es s' es' =
    (e : SocketSession) × IsClientOf config terms s s' e.0 e.1 × (es' ≡ es ++ e ∷ [])

-- if a thread was started for a seat, it was for this one and on these terms
abbrev pub IsStayBegun : Terms → SeatModel → Option (SeatModel × Terms) → Type 0
IsStayBegun terms s thread = IfSome thread (λ r. r ≡ (s, terms))

-- a seat for which a thread was begun so, if at all, stayed so
abbrev pub StaysAs : HeapSettings → List TableId → Option (SeatModel × Terms) → SeatStay → Type 0
StaysAs config tables thread stay =
    (terms : Terms) (s : SeatModel) → IsStayBegun terms s thread
    → IsSeatStay config tables terms s stay

-- seats for which threads were begun so stayed so, in order
abbrev pub StayAs : HeapSettings → List TableId → List (Option (SeatModel × Terms)) → List SeatStay
    → Type 0
StayAs config tables threads stays =
    (terms : Terms) (seats rest : List SeatModel) → InTurn (IsStayBegun terms) seats threads rest
    → InTurn (IsSeatStay config tables terms) seats stays rest
