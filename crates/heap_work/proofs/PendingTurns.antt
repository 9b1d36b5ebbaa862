-- A worker on its way that sweeps only regions that wait, and how it ends.
use Rattle.std.proofs.Common.{◌≡◌, ◌⊎◌, ℕ, ◌+◌, ◌<◌, Bool, true, false, List, [], ◌∷◌, ◌++◌, length, None, refl, sym, ◌∙◌, subst, length-append, arith}
use Rattle.heap_lock.specs.Refusal.{Refusal}
use Rattle.heap_lock.specs.HeapLimits.{HeapSettings}
use Rattle.heap_lock.specs.Event.{Event}
use Rattle.heap_lock.specs.Action.TheVariants.{Step}
use Rattle.heap_lock.specs.Entry.{Entry}
use Rattle.heap_lock.specs.Outcome.{Outcome}
use Rattle.heap_lock.specs.History.{entry}
use Rattle.heap_lock.specs.Calls.{Call}
use Rattle.heap_lock.specs.Collector.{SeesState, pending_in}
use Rattle.heap_lock.specs.LockStates.{SeatModel, with_entry}
use Rattle.heap_work.specs.declared.SweepEnd.{SweepEnd}
use Rattle.heap_work.specs.Rule.{with_more, WasStopped}
use Rattle.heap_work.specs.Gates.{LetsBegin, Gains, AsksForEach, AsksForOneMore, AsksUntilStopped}
use Rattle.heap_work.specs.PendingSweeps.{SeesPending, ArePendingSweeps, IsPendingWork}
use Rattle.heap_work.proofs.WorkerTurns.{seat_gains_entries_by_count, gate_lets_one_more_begin, seat_with_no_more_entries, seat_with_one_more_entry}

-- after i acts
pub record IsOnPending (config : HeapSettings) (s : SeatModel) (seen : List Call) (s' : SeatModel) (seen' : List Call) (i : ℕ) : Type 0 where
  pub gained : List (ℕ × Entry)
  pub sweeps : ArePendingSweeps config seen gained seen'
  pub count : length gained ≡ i
  pub seat : s' ≡ with_more gained s

pub pending_begins : (config : HeapSettings) (s : SeatModel) (seen : List Call) → IsOnPending config s seen s seen 0
pending_begins config s seen = record { gained = []; sweeps = refl; count = refl; seat = seat_with_no_more_entries s }

pending_push : (config : HeapSettings) (seen now now' : List Call) (region : ℕ) (ms : List (ℕ × Entry)) (m : ℕ × Entry) → ArePendingSweeps config seen ms now → SeesPending config now region now' → m.1.action ≡ Step (Event.Sweep region) → ArePendingSweeps config seen (ms ++ m ∷ []) now'
pending_push config seen now now' region [] m is sees act = (region, now', subst (λ l. SeesPending config l region now') is sees, act, refl)
pending_push config seen now now' region (x ∷ ms) m h sees act = (h.0, h.1, h.2, h.3, pending_push config h.1 now now' region ms m h.4 sees act)

pub pending_work_one_sweep_further : (config : HeapSettings) (s s' s'' : SeatModel) (seen now now' : List Call) (i region turn : ℕ) (answer : Outcome) → IsOnPending config s seen s' now i → SeesPending config now region now' → s'' ≡ with_entry turn (Step (Event.Sweep region)) answer s' → IsOnPending config s seen s'' now' (i + 1)
pending_work_one_sweep_further config s s' s'' seen now now' i region turn answer h sees is =
    let m : ℕ × Entry = (turn, entry s.number (Step (Event.Sweep region)) answer) in record {
      gained = h.gained ++ m ∷ [];
      sweeps = pending_push config seen now now' region h.gained m h.sweeps sees refl;
      count = omega (arith, length-append h.gained (m ∷ []), h.count);
      seat = seat_with_one_more_entry s s' s'' h.gained turn (Step (Event.Sweep region)) answer h.seat is;
    }

pub pending_work_turns_over : (config : HeapSettings) (s s' : SeatModel) (seen now : List Call) (turns : ℕ) → IsOnPending config s seen s' now turns → IsPendingWork config s seen s' now turns SweepEnd.TurnsOver
pending_work_turns_over config s s' seen now turns h = record { gained = h.gained; until = now; sweeps = h.sweeps; seat = h.seat; ends = (h.count, refl) }

pub pending_done : (config : HeapSettings) (s s' : SeatModel) (seen now now' : List Call) (turns i : ℕ) → IsOnPending config s seen s' now i → i < turns → SeesState config now (λ w. None ≡ pending_in w) now' → IsPendingWork config s seen s' now' turns SweepEnd.Swept
pending_done config s s' seen now now' turns i h lt sees = record { gained = h.gained; until = now; sweeps = h.sweeps; seat = h.seat; ends = (omega (arith, h.count, lt), sees) }

pub pending_refused : (config : HeapSettings) (s s' s'' : SeatModel) (seen now now' : List Call) (turns i region : ℕ) (e : Refusal) → IsOnPending config s seen s' now i → i < turns → SeesPending config now region now' → s'' ≡ s' → (e ≡ Refusal.NoMemory) ⊎ (e ≡ Refusal.ChronicleFull) → IsPendingWork config s seen s'' now' turns (SweepEnd.Refused e)
pending_refused config s s' s'' seen now now' turns i region e h lt sees same why = record { gained = h.gained; until = now; sweeps = h.sweeps; seat = same ∙ h.seat; ends = (omega (arith, h.count, lt), why, region, sees) }

pub pending_stopped : (config : HeapSettings) (s s' : SeatModel) (seen now now' : List Call) (turns i region : ℕ) → IsOnPending config s seen s' now i → i < turns → SeesPending config now region now' → IsPendingWork config s seen s' now' turns SweepEnd.Stopped
pending_stopped config s s' seen now now' turns i region h lt sees = record { gained = h.gained; until = now; sweeps = h.sweeps; seat = h.seat; ends = (omega (arith, h.count, lt), region, sees) }

-- ---- the gate

pending_work_gains_its_turns : (config : HeapSettings) (s s' : SeatModel) (seen now : List Call) (i : ℕ) → IsOnPending config s seen s' now i → Gains s s' i
pending_work_gains_its_turns config s s' seen now i h = subst (Gains s s') h.count (seat_gains_entries_by_count s s' h.gained h.seat)

pub pending_turns_ask_for_each : {G : Type 0} (says : G → ℕ → Bool → G → Type 0) (config : HeapSettings) (s s' : SeatModel) (seen now : List Call) (i : ℕ) (before after : G) → IsOnPending config s seen s' now i → LetsBegin says before i after → AsksForEach says before s s' after
pending_turns_ask_for_each says config s s' seen now i before after h lets = (i, pending_work_gains_its_turns config s s' seen now i h, lets)

pub pending_work_asks_once_more : {G : Type 0} (says : G → ℕ → Bool → G → Type 0) (config : HeapSettings) (s s' s'' : SeatModel) (seen now : List Call) (i : ℕ) (before between after : G) → IsOnPending config s seen s' now i → s'' ≡ s' → LetsBegin says before i between → says between (i + 1) true after → AsksForOneMore says before s s'' after
pending_work_asks_once_more says config s s' s'' seen now i before between after h same lets said =
    (i, subst (λ (x : SeatModel). Gains s x i) (sym same) (pending_work_gains_its_turns config s s' seen now i h), gate_lets_one_more_begin says i before between after lets said)

pub pending_halts : {G : Type 0} (says : G → ℕ → Bool → G → Type 0) (config : HeapSettings) (s s' : SeatModel) (seen now : List Call) (i : ℕ) (before after : G) → IsOnPending config s seen s' now i → says before (i + 1) false after → WasStopped says s s' after
pending_halts says config s s' seen now i before after h said = (before, i, pending_work_gains_its_turns config s s' seen now i h, said)

pub pending_asked : {G : Type 0} (says : G → ℕ → Bool → G → Type 0) (config : HeapSettings) (s s' : SeatModel) (seen now : List Call) (i : ℕ) (before between after : G) → IsOnPending config s seen s' now i → LetsBegin says before i between → says between (i + 1) false after → AsksUntilStopped says before s s' after
pending_asked says config s s' seen now i before between after h lets said = (i, pending_work_gains_its_turns config s s' seen now i h, between, lets, said)
