use Rattle.std.proofs.Common.{◌∙◌, [], ap}
use Rattle.heap_lock.specs.LockStates.{LockState, SeatModel}
use Rattle.seat_session.specs.JoinedAnswers.{RunsCycleHeld}
use Rattle.seat_session.proofs.HeldSteps.{leaves_seen, lock_gains_no_entries}
use Rattle.seat_session.proofs.held_heap.run_cycle_held.Goals as goal

pub returns-clause-runs : goal.returns-clause-runs
returns-clause-runs g c =
    let k = c.args.kept.now in
    let s = c.args.seat.now in
    let h = c.run_cycle-cycle.new.steps in
    let runs = c.run_cycle-cycle.ensures.runs in
    leaves_seen g.L.Heap.config (λ (last : LockState) (x : SeatModel). RunsCycleHeld k s c.run_cycle-cycle.result last x) h.kept.now c.run_cycle-cycle.new.by c.see_all.new.seat c.see_all.new.witness
    (runs.0, runs.1, runs.2 (record h { kept = record h.kept { now = k } }) s [] (lock_gains_no_entries k s))
    c.see_all.ensures.heap c.see_all.ensures.seat c.see_all.ensures.sees

pub returns-clause-role : goal.returns-clause-role
returns-clause-role g c = ap (λ (s : SeatModel). s.role) c.see_all.ensures.seat ∙ c.run_cycle-cycle.ensures.still
