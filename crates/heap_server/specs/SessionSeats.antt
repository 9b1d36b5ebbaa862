-- Seats for sessions.
use Rattle.std.specs.Prelude.{◌≡◌, ℕ, false, List, [], ◌∷◌, Option, None, IfSome, ⊤}
use Rattle.heap_lock.specs.Seated.{TableId}
use Rattle.heap_lock.specs.HeapLimits.{HeapSettings}
use Rattle.heap_lock.specs.declared.role.Role.TheVariants.{User}
use Rattle.heap_lock.specs.LockStates.{SeatModel}
use Rattle.heap_server.specs.Stations.{IsSeatEnd, InTurn}
use Rattle.heap_server.specs.declared.sessions.SeatEnd.{SeatEnd}
use Rattle.heap_server.specs.declared.sessions.Served.{Served}
use Rattle.heap_server.specs.declared.sessions.Terms.{Terms}

-- the most sessions
abbrev pub session_limit : ℕ
session_limit = 1000

-- each is a user's
abbrev pub AreUsers : List SeatModel → Type 0
AreUsers [] = ⊤
AreUsers (s ∷ seats) = (s.role ≡ User) × AreUsers seats

-- the seat and the terms with which a session's thread began, if one was started and hasn't been joined; and how it ended, once it
-- has
abbrev pub SittingState : Type 0
SittingState = Option (SeatModel × Terms) × Option SeatEnd

-- if a thread was started for a session, it was with this seat and these terms; it hasn't been joined
abbrev pub IsBegun : Terms → SeatModel → SittingState → Type 0
IsBegun terms s sitting = IfSome sitting.0 (λ r. r ≡ (s, terms)) × (sitting.1 ≡ None)

-- so it was; or it has been joined, and the session ended so from that seat
abbrev pub IsSat : HeapSettings → List TableId → Terms → SeatModel → SittingState → Type 0
IsSat config tables terms s sitting =
    IfSome sitting.0 (λ r. r ≡ (s, terms)) × IfSome sitting.1 (IsSeatEnd config tables terms s)

-- a session that sat so sits so still, or has been joined
abbrev pub SitsOn : HeapSettings → List TableId → SittingState → SittingState → Type 0
SitsOn config tables a b =
    (terms : Terms) (s : SeatModel) → IsSat config tables terms s a → IsSat config tables terms s b

-- sessions that sat so, in order, sit so still, or have been joined
abbrev pub SitOn : HeapSettings → List TableId → List SittingState → List SittingState → Type 0
SitOn config tables xs ys =
    (terms : Terms) (seats rest : List SeatModel) → InTurn (IsSat config tables terms) seats xs rest
    → InTurn (IsSat config tables terms) seats ys rest

-- a session that sat so ended so
abbrev pub EndsAs : HeapSettings → List TableId → SittingState → SeatEnd → Type 0
EndsAs config tables sitting e =
    (terms : Terms) (s : SeatModel) → IsSat config tables terms s sitting
    → IsSeatEnd config tables terms s e

-- sessions that sat so ended so, in order
abbrev pub EndAs : HeapSettings → List TableId → List SittingState → List SeatEnd → Type 0
EndAs config tables sittings ends =
    (terms : Terms) (seats rest : List SeatModel) → InTurn (IsSat config tables terms) seats sittings rest
    → InTurn (IsSeatEnd config tables terms) seats ends rest

-- a session from each of these seats in turn, on these terms, on a heap with these settings and tables; or, if an accept failed,
-- from the first of them
abbrev pub IsFor : HeapSettings → List TableId → Terms → List SeatModel → Served → Type 0
IsFor config tables terms seats s =
    (rest : List SeatModel) × InTurn (IsSeatEnd config tables terms) seats s.sessions.items rest
    × (s.refused ≡ false → rest ≡ [])
