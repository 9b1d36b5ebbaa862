-- Sessions in threads, of which some have been joined.
use Rattle.std.proofs.Common.{◌≡◌, ℕ, zero, suc, ◌<◌, List, [], ◌∷◌, length, set, get_or, arith, subst, sym}
use Rattle.std.specs.Prelude.{IfSome}
use Rattle.heap_lock.specs.Seated.{TableId}
use Rattle.heap_lock.specs.HeapLimits.{HeapSettings}
use Rattle.heap_lock.specs.LockStates.{SeatModel}
use Rattle.heap_server.specs.SessionSeats.{IsBegun, IsSat, SitOn, SitsOn, SittingState}
use Rattle.heap_server.specs.Stations.{InTurn, IsSeatEnd}
use Rattle.heap_server.specs.declared.sessions.Terms.{Terms}

-- what the seats led to, in order, if the thing at one place is another that its seat led to, too
pub replaced_thing_still_led_to : {A : Type 0} (Leads : SeatModel → A → Type 0) (seats rest : List SeatModel) (xs : List A) (i : ℕ) (x y : A) → i < length xs → x ≡ get_or xs i x
    → ((s : SeatModel) → Leads s x → Leads s y) → InTurn Leads seats xs rest → InTurn Leads seats (set xs i y) rest
replaced_thing_still_led_to Leads seats rest [] i x y within at on is = absurd (omega (arith, within))
replaced_thing_still_led_to Leads [] rest (z ∷ zs) i x y within at on is = absurd is
replaced_thing_still_led_to Leads (s ∷ seats) rest (z ∷ zs) zero x y within at on is = (on s (subst (λ w. Leads s w) (sym at) is.0), is.1)
replaced_thing_still_led_to Leads (s ∷ seats) rest (z ∷ zs) (suc i) x y within at on is = (is.0, replaced_thing_still_led_to Leads seats rest zs i x y (omega (arith, within)) at on is.1)

-- sessions of which one may have been joined
pub sitting_goes_on_at_index : (config : HeapSettings) (tables : List TableId) (xs : List SittingState) (i : ℕ) (x y : SittingState) → i < length xs → x ≡ get_or xs i x → SitsOn config tables x y → SitOn config tables xs (set xs i y)
sitting_goes_on_at_index config tables xs i x y within at on terms seats rest is = replaced_thing_still_led_to (IsSat config tables terms) seats rest xs i x y within at (λ s. on terms s) is

-- a session that has just begun
pub begun_session_is_sat : (config : HeapSettings) (tables : List TableId) (terms : Terms) (s : SeatModel) (sitting : SittingState) → IsBegun terms s sitting → IsSat config tables terms s sitting
begun_session_is_sat config tables terms s sitting begun = (begun.0, subst (λ e. IfSome e (IsSeatEnd config tables terms s)) (sym begun.1) tt)
