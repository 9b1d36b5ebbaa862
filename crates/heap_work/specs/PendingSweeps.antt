-- What a worker does that sweeps only regions that wait.
use Rattle.std.specs.Prelude.{◌≡◌, ◌⊎◌, ℕ, ◌<◌, List, [], ◌∷◌, length, Some, None}
use Rattle.heap_lock.specs.Refusal.TheVariants.{NoMemory, ChronicleFull}
use Rattle.heap_lock.specs.HeapLimits.{HeapSettings}
use Rattle.heap_lock.specs.Event.{Event}
use Rattle.heap_lock.specs.Action.TheVariants.{Step}
use Rattle.heap_lock.specs.Entry.{Entry}
use Rattle.heap_lock.specs.Calls.{Call}
use Rattle.heap_lock.specs.Collector.{SeesState, pending_in}
use Rattle.heap_lock.specs.LockStates.{SeatModel}
use Rattle.heap_work.specs.declared.SweepEnd.{SweepEnd}
use Rattle.heap_work.specs.Rule.{with_more}

-- more calls were seen, maybe none, after which this region was the lowest that waits
abbrev pub SeesPending : HeapSettings → List Call → ℕ → List Call → Type 0
SeesPending config seen region seen' = SeesState config seen (λ w. Some region ≡ pending_in w) seen'

-- each of these is a sweep of the region that was seen to be the lowest that waits, just before it
abbrev pub ArePendingSweeps : HeapSettings → List Call → List (ℕ × Entry) → List Call → Type 0
ArePendingSweeps config seen [] seen' = seen' ≡ seen
ArePendingSweeps config seen (m ∷ ms) seen' =
    (region : ℕ) × (now : List Call) × SeesPending config seen region now
    × (m.1.action ≡ Step (Event.Sweep region)) × ArePendingSweeps config now ms seen'

-- what such a worker's end says of the acts that it made and of what it saw after them
abbrev pub PendingEnds : HeapSettings → ℕ → List (ℕ × Entry) → List Call → List Call → SweepEnd
    → Type 0
PendingEnds config turns gained seen seen' SweepEnd.Swept =
    (length gained < turns) × SeesState config seen (λ w. None ≡ pending_in w) seen'
PendingEnds config turns gained seen seen' (SweepEnd.Refused e) =
    (length gained < turns) × ((e ≡ NoMemory) ⊎ (e ≡ ChronicleFull))
    × (region : ℕ) × SeesPending config seen region seen'
PendingEnds config turns gained seen seen' SweepEnd.Stopped =
    (length gained < turns) × (region : ℕ) × SeesPending config seen region seen'
PendingEnds config turns gained seen seen' SweepEnd.TurnsOver =
    (length gained ≡ turns) × (seen' ≡ seen)

-- what such a worker does to its seat's share, and the calls that its witness saw
pub record IsPendingWork (config : HeapSettings) (s : SeatModel) (seen : List Call) (s' : SeatModel)
    (seen' : List Call) (turns : ℕ) (end : SweepEnd) : Type 0 where
  pub gained : List (ℕ × Entry)
  pub until : List Call
  pub sweeps : ArePendingSweeps config seen gained until
  pub seat : s' ≡ with_more gained s
  pub ends : PendingEnds config turns gained until seen' end
