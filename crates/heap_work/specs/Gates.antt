-- How often a worker's gate was asked, and what a mark worker did.
use Rattle.std.specs.Prelude.{◌≡◌, ℕ, zero, suc, ◌+◌, Bool, true, false, length}
use Rattle.heap_lock.specs.HeapLimits.{HeapSettings}
use Rattle.heap_lock.specs.LockStates.{SeatModel}
use Rattle.heap_work.specs.declared.MarkEnd.{MarkEnd}
use Rattle.heap_work.specs.declared.MarkEnd.TheVariants.{Finished, NotMarking, Pending, Refused, Stopped, TurnsOver}
use Rattle.heap_work.specs.declared.Stage.{Stage}
use Rattle.heap_work.specs.declared.SweepEnd.{SweepEnd}
use Rattle.heap_work.specs.Rule.{IsMarkWorkFrom, MarkStops}

-- a gate let this many acts begin, asked for each by its number, from 1 on
abbrev pub LetsBegin : {G : Type 0} → (G → ℕ → Bool → G → Type 0) → G → ℕ → G → Type 0
LetsBegin says before zero after = after ≡ before
LetsBegin says before (suc n) after =
    (between : _) × LetsBegin says before n between × says between (n + 1) true after

-- the seat's share gained this many acts
abbrev pub Gains : SeatModel → SeatModel → ℕ → Type 0
Gains s s' acts = length s'.share ≡ length s.share + acts

-- the gate was asked once before each act, and let it begin
abbrev pub AsksForEach : {G : Type 0} → (G → ℕ → Bool → G → Type 0) → G → SeatModel → SeatModel → G → Type 0
AsksForEach says before s s' after = (acts : ℕ) × Gains s s' acts × LetsBegin says before acts after

-- it let one more begin, which was refused without an entry
abbrev pub AsksForOneMore : {G : Type 0} → (G → ℕ → Bool → G → Type 0) → G → SeatModel → SeatModel → G
    → Type 0
AsksForOneMore says before s s' after =
    (acts : ℕ) × Gains s s' acts × LetsBegin says before (acts + 1) after

-- it was asked for one more, and didn't let it begin
abbrev pub AsksUntilStopped : {G : Type 0} → (G → ℕ → Bool → G → Type 0) → G → SeatModel → SeatModel → G
    → Type 0
AsksUntilStopped says before s s' after =
    (acts : ℕ) × Gains s s' acts
    × (between : _) × LetsBegin says before acts between × says between (acts + 1) false after

-- how often the gate of a mark worker was asked that ended so
abbrev pub MarkAsks : {G : Type 0} → (G → ℕ → Bool → G → Type 0) → G → SeatModel → SeatModel → G → MarkEnd
    → Type 0
MarkAsks says before s s' after (Finished r) = AsksForEach says before s s' after
MarkAsks says before s s' after (NotMarking r) = AsksForEach says before s s' after
MarkAsks says before s s' after (Pending r) = AsksForEach says before s s' after
MarkAsks says before s s' after (Refused e) = AsksForOneMore says before s s' after
MarkAsks says before s s' after Stopped = AsksUntilStopped says before s s' after
MarkAsks says before s s' after TurnsOver = AsksForEach says before s s' after

-- and that of a sweep worker
abbrev pub SweepAsks : {G : Type 0} → (G → ℕ → Bool → G → Type 0) → G → SeatModel → SeatModel → G
    → SweepEnd
    → Type 0
SweepAsks says before s s' after SweepEnd.Swept = AsksForEach says before s s' after
SweepAsks says before s s' after (SweepEnd.Refused e) = AsksForOneMore says before s s' after
SweepAsks says before s s' after SweepEnd.Stopped = AsksUntilStopped says before s s' after
SweepAsks says before s s' after SweepEnd.TurnsOver = AsksForEach says before s s' after

-- what a mark worker does from this stage on, and how it asks its gate
pub record IsMarkRun {G : Type 0} (first : Stage) (config : HeapSettings)
    (says : G → ℕ → Bool → G → Type 0) (before after : G) (s s' : SeatModel) (turns : ℕ)
    (end : MarkEnd) : Type 0 where
  pub work : IsMarkWorkFrom first config s s' turns end
  pub stops : MarkStops says s s' after end
  pub asks : MarkAsks says before s s' after end
