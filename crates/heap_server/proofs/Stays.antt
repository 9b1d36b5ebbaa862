-- Sessions from a seat, one after another.
use Rattle.std.proofs.Common.{List, [], ◌∷◌, ◌++◌, refl, sym, subst}
use Rattle.heap_lock.specs.HeapLimits.{HeapSettings}
use Rattle.heap_lock.specs.LockStates.{SeatModel}
use Rattle.heap_server.specs.Staying.{AreSessions, ServesNext, SocketSession}
use Rattle.heap_server.specs.Stations.{IsClientOf}
use Rattle.heap_server.specs.declared.sessions.Terms.{Terms}

one_client_session_more : (config : HeapSettings) (terms : Terms) (s m m' : SeatModel) (es : List SocketSession) (e : SocketSession) → AreSessions config terms s es m → IsClientOf config terms m m' e.0 e.1 → AreSessions config terms s (es ++ e ∷ []) m'
one_client_session_more config terms s m m' [] e is client = (m', subst (λ (x : SeatModel). IsClientOf config terms x m' e.0 e.1) is client, refl)
one_client_session_more config terms s m m' (d ∷ es) e is client = (is.0, is.1, one_client_session_more config terms is.0 m m' es e is.2 client)

-- one session more
pub one_served_session_more : (config : HeapSettings) (terms : Terms) (s m m' : SeatModel) (es es' : List SocketSession) → AreSessions config terms s es m → ServesNext config terms m es m' es' → AreSessions config terms s es' m'
one_served_session_more config terms s m m' es es' is next =
    subst (λ (l : List SocketSession). AreSessions config terms s l m') (sym next.2) (one_client_session_more config terms s m m' es next.0 is next.1)
