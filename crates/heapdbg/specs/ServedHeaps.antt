-- A heap that was served, after what was run first.
use Rattle.std.specs.Prelude.{◌≡◌, ◌≤◌, ℕ, Bool, true, false, List, ◌∷◌, Option, None, Some}
use Rattle.session_text.specs.Answers.{AnswersCommand, Begins}
use Rattle.session_text.specs.Limits.{session_limits}
use Rattle.session_text.specs.declared.limits.SessionLimits.{SessionLimits}
use Rattle.heap_server.specs.Blanks.{Maker}
use Rattle.heap_server.specs.Calls.{IsLegalLedger}
use Rattle.heap_server.specs.Role.TheVariants.{User}
use Rattle.heap_server.specs.Seated.{TableId}
use Rattle.heap_server.specs.LockStates.{SeatModel}
use Rattle.heap_server.specs.SessionSeats.{IsFor}
use Rattle.heap_server.specs.SeatStations.{Station, seat_acts, seat_answers}
use Rattle.heap_server.specs.Staying.{AreStays}
use Rattle.heap_server.specs.Tending.{AreStaff, IsSeatAfterRuns, MarkRuns, SweepRuns}
use Rattle.heap_server.specs.declared.sessions.Terms.{Terms}
use Rattle.heapdbg_options.specs.HeapLimits.{HeapSettings}
use Rattle.heapdbg_options.specs.declared.settings.Origin.{Origin}
use Rattle.heapdbg_options.specs.declared.settings.Service.{Service}
use Rattle.heapdbg_options.specs.declared.settings.Settings.{Settings}
use Rattle.private_tasks.specs.Explorations.{IsRunFirst, has_area}
use Rattle.heapdbg.specs.declared.served_heap.HeapServed.{HeapServed}
use Rattle.heapdbg.specs.declared.served_heap.Sessions.{Sessions}
use Rattle.heapdbg.specs.declared.served_heap.Sessions.TheVariants.{Once, Stayed}
use Rattle.heapdbg.specs.declared.served_heap.WorkersLeft.{WorkersLeft}
use Rattle.question_grammar.specs.Bookmarks.{no_bookmarks}

-- the marker's seat, the sweeper's, a user's that is first to act, and one for each of the sessions
abbrev pub AreSeatsFor : ℕ → List SeatModel → Type 0
AreSeatsFor sessions (marker ∷ sweeper ∷ first ∷ users) =
    (first.role ≡ User) × AreStaff sessions (marker ∷ sweeper ∷ users)
AreSeatsFor sessions seats = ⊥

-- lines were run from this seat of such a heap, in a session that may have at most this, as `origin` says, and left it as `s'`
abbrev pub IsSeatLoaded : SessionLimits → Bool → HeapSettings → Origin → ℕ → SeatModel → SeatModel
    → Type 0
IsSeatLoaded limits area config origin time s s' =
    (b c : Station) × (b.seat ≡ s) × IsLegalLedger config b.seen × (b.bookmarks ≡ no_bookmarks)
    × IsRunFirst limits area origin
    (AnswersCommand (seat_acts config) (seat_answers config true) time)
    (Begins (seat_acts config) (seat_answers config true) time) b c
    × (s' ≡ c.seat)

-- the seats of the workers of a heap, as their runs left them; or there are no workers
abbrev pub AreWorkersLeft : ℕ → HeapSettings → List TableId → SeatModel → SeatModel
    → Option WorkersLeft → Type 0
AreWorkersLeft workers config tables marker sweeper None = workers ≡ 0
AreWorkersLeft workers config tables marker sweeper (Some left) =
    (1 ≤ workers) × IsSeatAfterRuns tables (MarkRuns config marker) left.marker
    × IsSeatAfterRuns tables (SweepRuns config sweeper) left.sweeper

-- sessions from these seats, on these terms: one from each, or one after another if the heap stays
abbrev pub AreSessionsFrom : Bool → HeapSettings → List TableId → Terms → List SeatModel → Sessions
    → Type 0
AreSessionsFrom stays config tables terms users (Once served) =
    (stays ≡ false) × IsFor config tables terms users served
AreSessionsFrom stays config tables terms users (Stayed stayed) =
    (stays ≡ true) × AreStays config tables terms users stayed.seats.items

-- these seats of a heap were used so: lines were run first from the third, then clients were served from those behind it, while the
-- workers had the first two
abbrev pub AreSeatsUsed : Settings → Service → Maker → Terms → List SeatModel → HeapServed → Type 0
AreSeatsUsed s service blank terms (marker ∷ sweeper ∷ first ∷ users) h =
    IsSeatAfterRuns blank.tables
    (IsSeatLoaded (session_limits s.wide) (has_area s) blank.config service.origin s.time first)
    h.first
    × AreWorkersLeft service.workers blank.config blank.tables marker sweeper h.workers
    × AreSessionsFrom service.stays blank.config blank.tables terms users h.sessions
AreSeatsUsed s service blank terms seats h = ⊥

-- this heap was served on these terms, after what was run first
abbrev pub IsHeapServed : Settings → Service → Maker → Terms → HeapServed → Type 0
IsHeapServed s service blank terms h =
    (h.made.value ≡ blank) × (h.terms ≡ terms) × AreSeatsUsed s service blank terms blank.seats h
