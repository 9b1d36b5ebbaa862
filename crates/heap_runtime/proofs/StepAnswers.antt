-- A step is never answered with a place.
use Rattle.std.proofs.Common.{ℕ, sym}
use Rattle.heap_lock.specs.HeapLimits.{HeapSettings}
use Rattle.heap_lock.specs.Event.{Event}
use Rattle.heap_lock.specs.Action.TheVariants.{Step}
use Rattle.heap_history.specs.declared.entry.Outcome.TheVariants.{Place as At}
use Rattle.heap_history.specs.History.{entry, opening, machine_at, reply_at}
use Rattle.heap_lock.specs.LockStates.{SeatModel, Stands}
use Rattle.heap_lock.proofs.Histories.{last_entry_of_history_due}
use Rattle.heap_lock.proofs.StepReplies.{step_replies_no_place}

pub step_never_answers_place : (config : HeapSettings) (s : SeatModel) (turn : ℕ) (e : Event) (place : ℕ) → Stands config s turn (Step e) (At place) → ⊥
unfolding reply_at
step_never_answers_place config s turn e place stands =
    let due = last_entry_of_history_due config.keep (opening config) stands.0 (entry s.number (Step e) (At place)) stands.1 in
    step_replies_no_place (machine_at config.keep _) e place (sym due.answer)
