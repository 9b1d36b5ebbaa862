-- What the threads did that tend the collector of a served heap.
use Rattle.std.specs.Prelude.{◌≡◌, ◌⊎◌, ℕ, Bool, true, false, List, [], ◌∷◌, length, is_none}
use Rattle.heap_lock.specs.Seated.{TableId}
use Rattle.heap_lock.specs.Phase.{Phase}
use Rattle.heap_lock.specs.Phase.TheVariants.{Idle, Marking}
use Rattle.heap_lock.specs.HeapLimits.{HeapSettings}
use Rattle.heap_lock.specs.State.{HeapState}
use Rattle.heap_lock.specs.Calls.{Call}
use Rattle.heap_lock.specs.Collector.{SeesState, pending_in}
use Rattle.heap_lock.specs.declared.role.Role.{Role}
use Rattle.heap_lock.specs.declared.role.Role.TheVariants.{Marker, Sweeper}
use Rattle.heap_lock.specs.declared.unnamed_seat.UnnamedSeat.{UnnamedSeat}
use Rattle.heap_lock.specs.ChronicleLimits.{chronicle_limit}
use Rattle.heap_lock.specs.Blanks.{seat_model_of}
use Rattle.heap_lock.specs.LockStates.{SeatModel, IsSeatModel}
use Rattle.heap_work.specs.declared.MarkEnd.{MarkEnd}
use Rattle.heap_work.specs.declared.SweepEnd.{SweepEnd}
use Rattle.heap_work.specs.Rule.{BeginsNoCycle, IsResumedWork}
use Rattle.heap_work.specs.PendingSweeps.{IsPendingWork}
use Rattle.heap_server.specs.SessionSeats.{AreUsers}
use Rattle.heap_server.specs.declared.tending.Duty.{Duty}
use Rattle.heap_server.specs.declared.tending.Duty.TheVariants.{Mark, Sweep}

-- the acts of a run at most: as many as a chronicle keeps
abbrev pub turn_limit : ℕ
turn_limit = chronicle_limit

-- runs of a worker, one after another, each from the seat that the one before it left, with how it ended
abbrev pub AreRuns : {E : Type 0} → (SeatModel → SeatModel → E → Type 0) → SeatModel → List (SeatModel × E) → SeatModel
    → Type 0
AreRuns Works s [] s' = s' ≡ s
AreRuns Works s (run ∷ runs) s' = Works s run.0 run.1 × AreRuns Works run.0 runs s'

-- a run of a worker on a cycle that runs
abbrev pub MarksOnce : HeapSettings → SeatModel → SeatModel → MarkEnd → Type 0
MarksOnce config s s' end = IsResumedWork config s s' turn_limit end

-- a run of a worker that sweeps only regions that it has seen to wait
abbrev pub SweepsOnce : HeapSettings → SeatModel → SeatModel → SweepEnd → Type 0
SweepsOnce config s s' end =
    (seen seen' : List Call) × IsPendingWork config s seen s' seen' turn_limit end

-- the seat's share is what it was and what runs of a worker on cycles that others began gained; no act of theirs begins a cycle
pub record MarkRuns (config : HeapSettings) (s s' : SeatModel) : Type 0 where
  pub runs : List (SeatModel × MarkEnd)
  pub each : AreRuns (MarksOnce config) s runs s'
  pub begins : BeginsNoCycle s s'

-- the seat's share is what it was and what runs of such a worker gained
abbrev pub SweepRuns : HeapSettings → SeatModel → SeatModel → Type 0
SweepRuns config s s' = (runs : List (SeatModel × SweepEnd)) × AreRuns (SweepsOnce config) s runs s'

-- the role of the seat for this work
abbrev pub role_for : Duty → Role
role_for Mark = Marker
role_for Sweep = Sweeper

-- the seat's share is what it was and what runs of this work's worker gained
abbrev pub Tends : Duty → HeapSettings → SeatModel → SeatModel → Type 0
Tends Mark config s s' = MarkRuns config s s'
Tends Sweep config s s' = SweepRuns config s s'

-- no cycle runs
abbrev pub is_idle_phase : Phase → Bool
is_idle_phase Idle = true
is_idle_phase Marking = false

-- a heap in this state has no work of this kind
abbrev pub rests_in : Duty → HeapState → Bool
rests_in Mark w = is_idle_phase w.phase
rests_in Sweep w = is_none (pending_in w)

-- one run of this work's worker, and the calls that were seen before and after it
abbrev pub WorksOnce : Duty → HeapSettings → SeatModel → List Call → SeatModel → List Call → Type 0
WorksOnce Mark config s seen s' seen' =
    (end : MarkEnd) × MarksOnce config s s' end × BeginsNoCycle s s' × (seen' ≡ seen)
WorksOnce Sweep config s seen s' seen' =
    (end : SweepEnd) × IsPendingWork config s seen s' seen' turn_limit end

-- the heap was seen to have no work of this kind, and nothing was done; or to have some, and the worker ran
abbrev pub TakesTurn : Duty → HeapSettings → SeatModel → List Call → SeatModel → List Call → Type 0
TakesTurn duty config s seen s' seen' =
    (SeesState config seen (λ w. rests_in duty w ≡ true) seen' × (s' ≡ s))
    ⊎ ((now : List Call) × SeesState config seen (λ w. rests_in duty w ≡ false) now
    × WorksOnce duty config s now s' seen')

-- the marker's seat, the sweeper's, and those of `most` users
abbrev pub AreStaff : ℕ → List SeatModel → Type 0
AreStaff most (marker ∷ sweeper ∷ users) =
    (marker.role ≡ Marker) × (sweeper.role ≡ Sweeper) × AreUsers users × (length users ≡ most)
AreStaff most seats = ⊥

-- a seat of the heap with these tables, as runs of a worker left it
abbrev pub IsSeatAfterRuns : List TableId → (SeatModel → Type 0) → UnnamedSeat → Type 0
IsSeatAfterRuns tables Runs unnamed_seat = IsSeatModel tables unnamed_seat.number unnamed_seat.share × Runs (seat_model_of unnamed_seat)
