-- Workers whose gate is always open are never stopped.
use Rattle.std.proofs.Common.{◌≢◌, ℕ, Bool, false}
use Rattle.heap_lock.specs.LockStates.{SeatModel}
use Rattle.heap_work.specs.declared.MarkEnd.{MarkEnd}
use Rattle.heap_work.specs.declared.SweepEnd.{SweepEnd}
use Rattle.heap_work.specs.Rule.{MarkStops, SweepStops}

-- a gate that never says that no act may begin
abbrev IsGateNeverShut : {G : Type 0} → (G → ℕ → Bool → G → Type 0) → Type 0
IsGateNeverShut {G} says = (before after : G) (turn : ℕ) → says before turn false after → ⊥

pub open_gate_stops_no_marking : {G : Type 0} (says : G → ℕ → Bool → G → Type 0) (s s' : SeatModel) (after : G) (end : MarkEnd) → IsGateNeverShut says → MarkStops says s s' after end → end ≢ MarkEnd.Stopped
open_gate_stops_no_marking says s s' after MarkEnd.Stopped never h is = never h.0 after _ h.3
open_gate_stops_no_marking says s s' after (MarkEnd.Finished r) never h is = cc is
open_gate_stops_no_marking says s s' after (MarkEnd.NotMarking r) never h is = cc is
open_gate_stops_no_marking says s s' after (MarkEnd.Pending r) never h is = cc is
open_gate_stops_no_marking says s s' after (MarkEnd.Refused e) never h is = cc is
open_gate_stops_no_marking says s s' after MarkEnd.TurnsOver never h is = cc is

pub open_gate_stops_no_sweeping : {G : Type 0} (says : G → ℕ → Bool → G → Type 0) (s s' : SeatModel) (after : G) (end : SweepEnd) → IsGateNeverShut says → SweepStops says s s' after end → end ≢ SweepEnd.Stopped
open_gate_stops_no_sweeping says s s' after SweepEnd.Stopped never h is = never h.0 after _ h.3
open_gate_stops_no_sweeping says s s' after SweepEnd.Swept never h is = cc is
open_gate_stops_no_sweeping says s s' after (SweepEnd.Refused e) never h is = cc is
open_gate_stops_no_sweeping says s s' after SweepEnd.TurnsOver never h is = cc is
